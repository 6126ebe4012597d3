-- Demand 3: a prepared batch, after any run of edits, accepted or refused, equals one prepared afresh from the edited list; its total is that list's sum,
-- and so is what the multi-point engines answer on that list; an edit touches its own slot only; edits of different slots swap.
use Rattle.std.specs.Prelude.{◌≡◌, List, [], ℕ, ◌*◌, ◌≤◌, length, ℤ}
use Rattle.rules.specs.Values.{part}
use Rattle.rules.specs.Engines.{radix_straus, naf_straus, bucket_width, bucket_limbs, pippenger, mixed}
use Rattle.rules.specs.Batch.{Memory, Pairs, Edit, apply, memory_after, list_after, total_of, slot_of}
use Rattle.rules.specs.Claims.{prepared, slots, sum_of, Answers, answers_in, answers_by}
use Rattle.arguments.proofs.Fresh as fresh
use Rattle.arguments.proofs.Total as total
use Rattle.arguments.proofs.Agree as agree
use Rattle.arguments.proofs.Edits as edits

-- a list of pairs that preparing takes, the memory that it is prepared into, and any run of edits
module _ (l : Pairs) (m : Memory) (es : List Edit) (taken : (prepared l m).result.number ≡ 0) where
  -- the edited batch, the edited list
  abbrev pub batch : Memory
  batch = memory_after (prepared l m).memory es

  abbrev pub list : Pairs
  list = list_after l es

  -- preparing the edited list afresh, into any memory of the same lengths, is taken and gives the edited batch
  module _ (m' : Memory) (digits : length m'.digits ≡ length m.digits) (windows : length m'.windows ≡ length m.windows) where
    pub taken-afresh : (prepared list m').result.number ≡ 0
    taken-afresh = (fresh.edited-is-fresh l m es taken m' digits windows).taken-again

    pub same-as-afresh : batch ≡ (prepared list m').memory
    same-as-afresh = (fresh.edited-is-fresh l m es taken m' digits windows).same_memory

  -- the edits that the run accepted are those that the list has: edit by edit, the answer in the run is the answer by the list
  pub same-answers : answers_in (prepared l m).memory es ≡ answers_by l es
  same-answers = fresh.edited-answers l m es taken

  -- its total is the edited list's sum
  pub total-is-sum : Answers (total_of batch) (sum_of list)
  total-is-sum = total.edited-total l m es taken

  -- and each multi-point engine, with room enough, answers that sum on the edited list
  module _ (ds : List ℤ) (ls : List ℕ) where
    pub radix-straus-after : 64 * slots list ≤ length ds → 32 * slots list ≤ length ls → Answers (radix_straus list.scalars list.points ds ls).result (sum_of list)
    radix-straus-after = agree.by-radix-straus list (fresh.edited-ready l m es taken) ds ls

    pub naf-straus-after : 256 * slots list ≤ length ds → 32 * slots list ≤ length ls → Answers (naf_straus list.scalars list.points list.flags ds ls).result (sum_of list)
    naf-straus-after = agree.by-naf-straus list (fresh.edited-ready l m es taken) ds ls

    pub pippenger-after : 64 * slots list ≤ length ds → bucket_limbs (bucket_width (slots list)) ≤ length ls → Answers (pippenger list.scalars list.points list.flags ds ls).result (sum_of list)
    pippenger-after = agree.by-pippenger list (fresh.edited-ready l m es taken) ds ls

    -- precomputed Straus with every pair dynamic
    pub precomputed-straus-after : 256 * slots list ≤ length ds → 32 * slots list ≤ length ls → Answers (mixed [] [] list.scalars list.points list.flags ds ls).result (sum_of list)
    precomputed-straus-after = agree.by-precomputed-straus list (fresh.edited-ready l m es taken) ds ls

-- any memory, prepared or not, and an edit of it
module _ (m : Memory) (e : Edit) where
  -- every other slot keeps its digits and its limbs, whatever they hold
  pub digits-kept : (j : ℕ) → (j ≡ slot_of e → ⊥) → part 256 j (apply m e).memory.digits ≡ part 256 j m.digits
  digits-kept j other = (edits.other-slots-kept m e j other).row

  pub limbs-kept : (j : ℕ) → (j ≡ slot_of e → ⊥) → part 32 j (apply m e).memory.windows ≡ part 32 j m.windows
  limbs-kept j other = (edits.other-slots-kept m e j other).window

  -- the edit's answer, and what its slot then holds, depend on nothing else that memory of these lengths holds
  module _ (m' : Memory) (digits : length m.digits ≡ length m'.digits) (windows : length m.windows ≡ length m'.windows) where
    pub same_answer : (apply m e).result ≡ (apply m' e).result
    same_answer = edits.answer-depends m m' e (record { of-digits = digits; of-windows = windows })

    pub same_digits : (apply m e).result.number ≡ 0 → part 256 (slot_of e) (apply m e).memory.digits ≡ part 256 (slot_of e) (apply m' e).memory.digits
    same_digits done = (edits.slot-depends m m' e (record { of-digits = digits; of-windows = windows }) done).row

    pub same-limbs : (apply m e).result.number ≡ 0 → part 32 (slot_of e) (apply m e).memory.windows ≡ part 32 (slot_of e) (apply m' e).memory.windows
    same-limbs done = (edits.slot-depends m m' e (record { of-digits = digits; of-windows = windows }) done).window

  -- with an edit of another slot: either way round the same memory, and each answers what it answers alone
  module _ (f : Edit) (apart : slot_of e ≡ slot_of f → ⊥) where
    pub swap : (apply (apply m e).memory f).memory ≡ (apply (apply m f).memory e).memory
    swap = (edits.edits-swap m e f apart).same_memory

    pub first-answers : (apply m e).result ≡ (apply (apply m f).memory e).result
    first-answers = (edits.edits-swap m e f apart).same_answer

    pub second-answers : (apply (apply m e).memory f).result ≡ (apply m f).result
    second-answers = (edits.edits-swap m e f apart).same-other
