-- What each contract says, and so one result: digits, limbs, elements of flat limbs, words, bits, answers, residues, the calls of the group, lent lists, what is asked of them, and room.
use Rattle.std.specs.Prelude.{ℕ, ◌%◌, ◌*◌, ◌/◌, ◌^◌, min, leb, nat_abs, get_or, take}
use denote.RattleType.{RattleType}
use denote.Param.Laws.{Laws, IsCopy}
use mir.Syntax.{Dict, w64}
use mir.Val.{Fits}
use Rattle.std.specs.declared.clone.Clone.{Ghosts}
use Rattle.rules.specs.Asks.{enough_room, flagged_contents, flagged_lists, plain_contents, plain_lists}
use Rattle.rules.specs.Calls.{group_add, group_double, group_negate, group_subtract}
use Rattle.rules.specs.Group.{L, added, added_modulo, elements, negated, subtracted, subtracted_modulo}
use Rattle.rules.specs.Helpers.{counted_done, five_words, sum_done, value_done, waiting_bits}
use Rattle.rules.specs.Limbs.{carried_difference, carried_sum}
use Rattle.rules.specs.Lists.{any_big, beyond_most, not_in, pairs, put}
use Rattle.rules.specs.Loops.{doubled, odd_entry}
use Rattle.rules.specs.Numbers.{as_number, number_of, cleared, counted, first, summed, valued}
use Rattle.rules.specs.Parts.{first_units}
use Rattle.rules.specs.Rows.{recode_refusal}
use Rattle.rules.specs.Values.{element_at, element_of, limb, limbs_of, number, places, point_at, value_of}
use Rattle.rules.specs.Windows.{any_over, point_refusal}
use Rattle.rules.specs.Results.{as_value, as_counted, as_sum, as_list}
use Rattle.rules.specs.Claims.{Says}
use Rattle.arguments.proofs.Contracts.{says}

-- rules
pub one-rules-refusal-number : Says Rattle.rules.proofs.Refusal.number.Reads.Post (λ κ (refusal, _). number_of refusal) (λ κ r _. r)
one-rules-refusal-number = says

-- digit
pub one-digit-magnitude : Says Rattle.digit.proofs.magnitude.Reads.Post (λ κ (d, _). nat_abs d) (λ κ r _. r)
one-digit-magnitude = says

pub one-digit-odd-entry : Says Rattle.digit.proofs.odd_entry.Reads.Post (λ κ (d, _). odd_entry d) (λ κ r _. r)
one-digit-odd-entry = says

-- limbs
pub one-limbs-sum : Says Rattle.limbs.proofs.sum.Reads.Post (λ κ (a, (b, _)). carried_sum a b) (λ κ r _. r)
one-limbs-sum = says

pub one-limbs-difference : Says Rattle.limbs.proofs.difference.Reads.Post (λ κ (a, (b, _)). carried_difference a b) (λ κ r _. r)
one-limbs-difference = says

pub one-limbs-over : Says Rattle.limbs.proofs.over.Reads.Post (λ κ (m, (a, _)). leb (value_of m) (value_of a)) (λ κ r _. r)
one-limbs-over = says

pub one-limbs-plus : Says Rattle.limbs.proofs.plus.Reads.Post (λ κ (m, (a, (b, _))). added_modulo (value_of m) a b) (λ κ r _. r)
one-limbs-plus = says

pub one-limbs-minus : Says Rattle.limbs.proofs.minus.Reads.Post (λ κ (m, (a, (b, _))). subtracted_modulo (value_of m) a b) (λ κ r _. r)
one-limbs-minus = says

-- flat
pub one-flat-array : Says Rattle.flat.proofs.array.Reads.Post (λ κ (e, _). limbs_of e) (λ κ r _. r)
one-flat-array = says

pub one-flat-element-at : Says Rattle.flat.proofs.element_at.Reads.Post (λ κ (l, (i, _)). element_at l.now i) (λ κ r _. r)
one-flat-element-at = says

-- words
pub one-words-byte-at : Says Rattle.words.proofs.byte_at.Reads.Post (λ κ (bytes, (k, _)). get_or bytes.now k 0) (λ κ r _. r)
one-words-byte-at = says

pub one-words-element : Says Rattle.words.proofs.element.Reads.Post (λ κ (bytes, _). element_of (number 256 (take 32 bytes.now))) (λ κ r _. r)
one-words-element = says

pub one-words-byte-of : Says Rattle.words.proofs.byte_of.Reads.Post (λ κ (x, (k, _)). x / 2 ^ (8 * k) % 256) (λ κ r _. r)
one-words-byte-of = says

pub one-words-bytes : Says Rattle.words.proofs.bytes.Reads.Post (λ κ (list, _). places 256 32 (point_at list.now 0)) (λ κ r _. r)
one-words-bytes = says

-- bits
pub one-bits-five-words : Says Rattle.bits.proofs.five_words.Reads.Post (λ κ (scalar, _). five_words scalar.now) (λ κ r _. r)
one-bits-five-words = says

pub one-bits-power : Says Rattle.bits.proofs.power.Reads.Post (λ κ (w, _). 2 ^ w % limb) (λ κ r _. r)
one-bits-power = says

pub one-bits-bit-buf : Says Rattle.bits.proofs.bit_buf.Reads.Post (λ κ (x, (at, (w, _))). waiting_bits x at w) (λ κ r _. r)
one-bits-bit-buf = says

pub one-bits-recode-refusal : Says Rattle.bits.proofs.recode_refusal.Reads.Post (λ κ (scalar, (low, (w, _))). recode_refusal low scalar.now w) (λ κ r _. as_number r)
one-bits-recode-refusal = says

-- answer
pub one-answer-value : Says Rattle.answer.proofs.value.Reads.Post (λ κ (e, _). value_done e) (λ κ r _. r)
one-answer-value = says

pub one-answer-counted : Says Rattle.answer.proofs.counted.Reads.Post (λ κ (c, _). counted_done c) (λ κ r _. r)
one-answer-counted = says

pub one-answer-sum : Says Rattle.answer.proofs.sum.Reads.Post (λ κ (e, (additions, (doublings, _))). sum_done e additions doublings) (λ κ r _. r)
one-answer-sum = says

pub one-answer-refused-value : Says Rattle.answer.proofs.refused_value.Reads.Post (λ κ (n, _). valued n 0) (λ κ r _. r)
one-answer-refused-value = says

pub one-answer-refused-counted : Says Rattle.answer.proofs.refused_counted.Reads.Post (λ κ (n, _). counted n 0 0) (λ κ r _. r)
one-answer-refused-counted = says

pub one-answer-refused-sum : Says Rattle.answer.proofs.refused_sum.Reads.Post (λ κ (number, _). summed number 0 0 0) (λ κ r _. r)
one-answer-refused-sum = says

pub one-answer-of-element : Says Rattle.answer.proofs.of_element.Reads.Post (λ κ (r, _). as_value r) (λ κ r _. r)
one-answer-of-element = says

pub one-answer-of-counts : Says Rattle.answer.proofs.of_counts.Reads.Post (λ κ (r, _). as_counted r) (λ κ r _. r)
one-answer-of-counts = says

pub one-answer-of-sum : Says Rattle.answer.proofs.of_sum.Reads.Post (λ κ (r, _). as_sum r) (λ κ r _. r)
one-answer-of-sum = says

pub one-answer-number : (T : RattleType) (L : Laws T) → Says (Rattle.answer.proofs.number.Reads.Post T L) (λ κ (r, _). as_number r.now) (λ κ r _. r)
one-answer-number T L = says

pub one-answer-list : (T : RattleType) (N : ℕ) (L : Laws T) (F : Fits w64 N) (C : IsCopy T) (G : Ghosts T.Denot) (D : Dict)
    → Says (Rattle.answer.proofs.list.Reads.Post T N L F C G D) (λ κ (r, (zero, _)). as_list N zero r) (λ κ r _. r)
one-answer-list T N L F C G D = says

-- residue
pub one-residue-order : Says Rattle.residue.proofs.order.Reads.Post (λ κ _. element_of L) (λ κ r _. r)
one-residue-order = says

pub one-residue-identity : Says Rattle.residue.proofs.identity.Reads.Post (λ κ _. element_of 0) (λ κ r _. r)
one-residue-identity = says

pub one-residue-over : Says Rattle.residue.proofs.over.Reads.Post (λ κ (a, _). leb L (value_of a)) (λ κ r _. r)
one-residue-over = says

pub one-residue-plus : Says Rattle.residue.proofs.plus.Reads.Post (λ κ (a, (b, _)). added a b) (λ κ r _. r)
one-residue-plus = says

pub one-residue-minus : Says Rattle.residue.proofs.minus.Reads.Post (λ κ (a, (b, _)). subtracted a b) (λ κ r _. r)
one-residue-minus = says

pub one-residue-negative : Says Rattle.residue.proofs.negative.Reads.Post (λ κ (a, _). negated a) (λ κ r _. r)
one-residue-negative = says

pub one-residue-twice : Says Rattle.residue.proofs.twice.Reads.Post (λ κ (a, _). added a a) (λ κ r _. r)
one-residue-twice = says

pub one-residue-mul-by-pow-2 : Says Rattle.residue.proofs.mul_by_pow_2.Reads.Post (λ κ (a, (k, _)). doubled elements k a) (λ κ r _. r)
one-residue-mul-by-pow-2 = says

-- group
pub one-group-point-refusal : Says Rattle.group.proofs.point_refusal.Reads.Post (λ κ (p, _). point_refusal p.now) (λ κ r _. as_number r)
one-group-point-refusal = says

pub one-group-add : Says Rattle.group.proofs.add.Reads.Post (λ κ (a, (b, _)). group_add a.now b.now) (λ κ r _. as_value r)
one-group-add = says

pub one-group-subtract : Says Rattle.group.proofs.subtract.Reads.Post (λ κ (a, (b, _)). group_subtract a.now b.now) (λ κ r _. as_value r)
one-group-subtract = says

pub one-group-negate : Says Rattle.group.proofs.negate.Reads.Post (λ κ (a, _). group_negate a.now) (λ κ r _. as_value r)
one-group-negate = says

pub one-group-double : Says Rattle.group.proofs.double.Reads.Post (λ κ (a, _). group_double a.now) (λ κ r _. as_value r)
one-group-double = says

-- lent
pub one-lent-not-whole : Says Rattle.lent.proofs.not_whole.Reads.Post (λ κ (len, (unit, _)). not_in unit len) (λ κ r _. r)
one-lent-not-whole = says

pub one-lent-too-many : Says Rattle.lent.proofs.too_many.Reads.Post (λ κ (len, (unit, (limit, _))). beyond_most limit unit len) (λ κ r _. r)
one-lent-too-many = says

pub one-lent-smaller : Says Rattle.lent.proofs.smaller.Reads.Post (λ κ (a, (b, _)). min a b) (λ κ r _. r)
one-lent-smaller = says

pub one-lent-pairs : Says Rattle.lent.proofs.pairs.Reads.Post (λ κ (scalars, (points, _)). pairs scalars.now points.now) (λ κ r _. r)
one-lent-pairs = says

pub one-lent-any-big : Says Rattle.lent.proofs.any_big.Reads.Post (λ κ (scalars, _). any_big scalars.now) (λ κ r _. r)
one-lent-any-big = says

pub one-lent-any-over : Says Rattle.lent.proofs.any_over.Reads.Post (λ κ (limbs, _). any_over limbs.now) (λ κ r _. r)
one-lent-any-over = says

-- asks
pub one-asks-plain-lists : Says Rattle.asks.proofs.plain_lists.Reads.Post (λ κ (scalars, (points, _)). first (plain_lists scalars.now points.now)) (λ κ r _. as_number r)
one-asks-plain-lists = says

pub one-asks-lists : Says Rattle.asks.proofs.lists.Reads.Post (λ κ (scalars, (points, (flags, _))). first (flagged_lists scalars.now points.now flags.now)) (λ κ r _. as_number r)
one-asks-lists = says

pub one-asks-room : Says Rattle.asks.proofs.room.Reads.Post (λ κ (needed-digits, (digits, (needed-limbs, (limbs, _)))). first (enough_room needed-digits digits needed-limbs limbs)) (λ κ r _. as_number r)
one-asks-room = says

pub one-asks-plain-contents : Says Rattle.asks.proofs.plain_contents.Reads.Post (λ κ (scalars, (points, _)). first (plain_contents scalars.now points.now)) (λ κ r _. as_number r)
one-asks-plain-contents = says

pub one-asks-contents : Says Rattle.asks.proofs.contents.Reads.Post (λ κ (scalars, (points, (flags, (n, _)))). first (flagged_contents scalars.now points.now flags.now n)) (λ κ r _. as_number r)
one-asks-contents = says

-- room, at any type of the places: digits, limbs, bytes, and others
pub one-room-clear : (T : RattleType) (L : Laws T) (C : IsCopy T) (G : Ghosts T.Denot) (D : Dict)
    → Says (Rattle.room.proofs.clear.Reads.Post T L C G D) (λ κ (list, (zero, (n, _))). cleared zero n list.now) (λ κ _ (list, _). list.now)
one-room-clear T L C G D = says

pub one-room-put : (T : RattleType) (L : Laws T) (C : IsCopy T) (G : Ghosts T.Denot) (D : Dict)
    → Says (Rattle.room.proofs.put.Reads.Post T L C G D) (λ κ (part, (list, _)). put list.now part.now) (λ κ _ (part, _). part.now)
one-room-put T L C G D = says

pub one-room-first-units : (T : RattleType) (L : Laws T)
    → Says (Rattle.room.proofs.parts.first_units.Reads.Post T L) (λ κ (list, (unit, (n, _))). first_units unit n list.now) (λ κ r _. r.now)
one-room-first-units T L = says

pub one-room-first-units-mut : (T : RattleType) (L : Laws T)
    → Says (Rattle.room.proofs.parts.first_units_mut.Reads.Post T L) (λ κ (room, (unit, (n, _))). first_units unit n room.now) (λ κ r _. r.now)
one-room-first-units-mut T L = says
