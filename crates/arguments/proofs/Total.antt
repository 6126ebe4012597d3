-- Demand 3: the total of a ready list's batch has number 0 and is the sum of scalar times point modulo L, after any run of edits too.
use mathlib.Core.Path.{◌≡◌, refl, sym, ap, ◌∙◌}
use mathlib.Core.Bool.{false, not}
use mathlib.Core.List.{List}
use Prim.Native.Nat.{ℕ, zero, suc, ◌+◌, ◌*◌, ◌/◌, ◌%◌, ◌<◌}
use native.Mathlib.Omega.{arith}
use lib.ListN.{length, get_or}
use lib.IntN.{ℤ, pos, negsuc, nat_abs}
use lib.Dec.{ltb, lit≤}
use borrow.Author.Tests.{lt-leb, le-ltb, leb-false, eq-eqb, ne_eqb}
use Rattle.rules.specs.Values.{limb, places, flat, point_at, scalar_at}
use Rattle.rules.specs.Group.{L, residues}
use Rattle.rules.specs.Numbers.{row_bound, most}
use Rattle.rules.specs.Rows.{naf_row}
use Rattle.rules.specs.Windows.{odd, limbs_flat, over, any_over}
use Rattle.rules.specs.Lists.{not_in, lists_too_many, beyond_most, wild_digit, any_wild}
use Rattle.rules.specs.Engines.{products, entry_sum, entry_at}
use Rattle.rules.specs.Batch.{Memory, Pairs, Edit, memory_after, list_after, memory_not_whole, slot_row, slot_window, slot_digit, fresh, total_refusal, total_of}
use Rattle.laws.specs.Conditions.{or_split, or-none, any-absent}
use Rattle.laws.specs.Parts.{part_at, flat-part}
use Rattle.laws.specs.RadixRows.{scalar-has-row}
use Rattle.laws.specs.NafRows.{naf-length, naf-digit-odd, naf-small}
use Rattle.laws.specs.Windows.{odd-in}
use Rattle.lent.proofs.Passed.{small}
use Rattle.residue.proofs.Laws.{group}
use Rattle.columns.proofs.Slots.{slot-entry, filled-sum}
use Rattle.rules.specs.Claims.{prepared, slots, sum_of, Answers}
use Rattle.arguments.proofs.Passing.{passes}
use Rattle.arguments.proofs.Answering.{answers}
use Rattle.arguments.proofs.Entries.{entry-part}
use Rattle.arguments.proofs.Edits.{digits_long}
use Rattle.arguments.proofs.Ready.{Ready, lengths, same_count}
use Rattle.arguments.proofs.Fresh.{fresh_of, fresh-digits, fresh-windows, edited-ready, prepared-fresh}
use Rattle.arguments.proofs.Agree.{points-below}

-- a digit of a NAF row of width 5 passes 10
tame : (d : ℤ) → ((d ≡ pos 0 → ⊥) → nat_abs d % 2 ≡ 1) → nat_abs d < 16 → wild_digit d ≡ false
unfolding wild_digit
tame (pos zero) h g = refl
tame (pos (suc n)) h g = let o = h (λ q. omega (arith, ap nat_abs q)) in rw (ne_eqb (suc n) 0 (λ z. omega arith), ne_eqb (suc n % 2) 0 (λ z. omega arith), le-ltb 15 (suc n) (omega arith))
tame (negsuc n) h g = let o = h (λ q. omega (arith, ap nat_abs q)) in rw (ne_eqb (suc n) 0 (λ z. omega arith), ne_eqb (suc n % 2) 0 (λ z. omega arith), le-ltb 15 (suc n) (omega arith))

module _ (l : Pairs) (r : Ready l) where
  abbrev s : ℕ → ℕ
  s i = scalar_at l.scalars i

  abbrev p : ℕ → ℕ
  p i = point_at l.points i

  scalar-small : (i : ℕ) → i < slots l → s i < row_bound
  scalar-small i h = scalar-has-row (small l.scalars i r.small h)

  point-under : (i : ℕ) → i < slots l → p i < L
  point-under i h = leb-false L (p i) (points-below l r i (omega (arith, (lengths l r).1)))

  -- every digit is one of a NAF row, every limb one of an odd window
  none-wild : any_wild (fresh_of l).digits ≡ false
  unfolding any_wild fresh slot_row
  none-wild =
      any-absent (λ j. wild_digit (get_or (flat (λ i. naf_row 5 (s i)) (slots l)) j (pos 0))) _
      (λ j h. let b : j / 256 < slots l = omega (arith, fresh-digits l) in
      let e : j ≡ 256 * (j / 256) + j % 256 = omega arith in
      ap wild_digit
      (ap (λ (k : ℕ). get_or (flat (λ i. naf_row 5 (s i)) (slots l)) k (pos 0)) e
      ∙ sym (part_at 256 (j / 256) (flat (λ i. naf_row 5 (s i)) (slots l)) (j % 256) (pos 0) (omega arith))
      ∙ ap (λ (t : List ℤ). get_or t (j % 256) (pos 0)) (flat-part 256 (λ i. naf_row 5 (s i)) (slots l) (j / 256) (λ i q. naf-length 5 (s i)) b))
      ∙ tame _ (naf-digit-odd 5 (s (j / 256)) (lit≤ tt) (j % 256)) (naf-small 5 (s (j / 256)) (lit≤ tt) (j % 256)))

  none_over : any_over (fresh_of l).windows ≡ false
  unfolding any_over over fresh slot_window entry_at
  none_over =
      any-absent (over (flat (λ i. limbs_flat (odd residues (p i)) 8) (slots l))) _
      (λ j h. let b : j / 8 < slots l = omega (arith, fresh-windows l) in
      let e : j ≡ 8 * (j / 8) + j % 8 = omega arith in
      let u : odd residues (p (j / 8)) (j % 8) < L = odd-in group (j % 8) (point-under (j / 8) b) in
      lt-leb L (point_at (flat (λ i. limbs_flat (odd residues (p i)) 8) (slots l)) j) (rw (ap (point_at (flat (λ i. limbs_flat (odd residues (p i)) 8) (slots l))) e ∙ entry-part 8 (j / 8) (j % 8) (omega arith) _ ∙ slot-entry 8 (λ i. odd residues (p i)) (slots l) (j / 8) (j % 8) b (omega arith) u) u))

  count : digits_long (fresh_of l) / 256 ≡ slots l
  count = omega (arith, fresh-digits l)

  taken : total_refusal (fresh_of l) ≡ 0
  unfolding total_refusal memory_not_whole not_in lists_too_many beyond_most
  taken =
      let e : digits_long (fresh_of l) % 256 ≡ 0 = omega (arith, fresh-digits l) in
      let o = or_split _ _ r.few in
      passes _ (
        or-none _ _ (ap not (eq-eqb _ _ e)) (same_count _ _ (ap (λ (k : ℕ). 32 * k) count ∙ sym (fresh-windows l))),
        (ap (ltb most) count ∙ o.0, (or-none _ _ none-wild none_over, tt)),
      )

  -- the batch of a ready list totals the list's sum
  pub total-is-sum : Answers (total_of (fresh_of l)) (sum_of l)
  unfolding total_of
  total-is-sum =
      let a = answers _ _ _ _ taken in
      record { number_is = a.number_is; value-is = a.value-is ∙ ap (places limb 4) value }
    where
      value : entry_sum (slot_digit (fresh_of l).digits) (entry_at 32 (fresh_of l).windows) (length (fresh_of l).digits / 256) 256 % L ≡ sum_of l
      value =
          ap (λ (k : ℕ). entry_sum (slot_digit (fresh_of l).digits) (entry_at 32 (fresh_of l).windows) k 256 % L) count
          ∙ (unfold fresh slot_row slot_window products in (filled-sum 5 (lit≤ tt) s p (slots l) scalar-small point-under))

-- after preparing with answer 0 and any run of edits, the total has number 0 and is the sum for the edited list
pub edited-total : (l : Pairs) (m : Memory) (es : List Edit) → (prepared l m).result.number ≡ 0 → Answers (total_of (memory_after (prepared l m).memory es)) (sum_of (list_after l es))
edited-total l m es z = rw (prepared-fresh l m es z) (total-is-sum (list_after l es) (edited-ready l m es z))
