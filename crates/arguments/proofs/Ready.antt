-- A list of pairs that preparing takes: what it has passed, and the memory that it gives.
use mathlib.Core.Path.{◌≡◌, sym, ap, ◌∙◌}
use mathlib.Core.Bool.{false, not}
use Prim.Native.Nat.{ℕ, ◌*◌, ◌%◌}
use native.Mathlib.Omega.{arith}
use lib.ListN.{length}
use borrow.Author.Tests.{eqb-true, eq-eqb, not-false}
use Rattle.rules.specs.Numbers.{given, counted}
use Rattle.rules.specs.Lists.{not_in, scalar_count, point_count, lists_not_whole, lists_too_many, other_than, any_big, any_flag, any_point, bad_lists, absent_below}
use Rattle.rules.specs.Batch.{Memory, Pairs, prepare_conditions, prepare_refusal, prepare, fresh}
use Rattle.rules.specs.Claims.{prepared, slots}
use Rattle.laws.specs.Conditions.{or_split, or-none, given-done}
use Rattle.arguments.proofs.Passing.{passes, passed}

-- equally many scalars and present points, all in bounds
pub record Ready (l : Pairs) : Type 0 where
  pub whole : lists_not_whole l.scalars l.points l.flags ≡ false
  pub few : lists_too_many l.scalars l.points ≡ false
  pub small : any_big l.scalars ≡ false
  pub right : bad_lists l.points l.flags ≡ false
  pub all_there : absent_below l.points l.flags (point_count l.points) ≡ false
  pub equal : other_than (point_count l.points) (scalar_count l.scalars) ≡ false

-- its lengths by its slots
module _ (l : Pairs) (r : Ready l) where
  pub lengths : (length l.scalars ≡ 32 * slots l) × (length l.points ≡ 4 * slots l)
  unfolding lists_not_whole not_in other_than
  lengths =
      let o = or_split _ _ r.whole in
      let o' = or_split _ _ o.0 in
      let e : length l.scalars % 32 ≡ 0 = eqb-true _ _ (not-false _ o'.0) in
      let e' : length l.points % 4 ≡ 0 = eqb-true _ _ (not-false _ o'.1) in
      let q : slots l ≡ point_count l.points = eqb-true _ _ (not-false _ r.equal) in
      (omega arith, omega arith)

  -- every flag is 0 or 1, and no point is at or above L
  pub right-both : (any_flag l.flags ≡ false) × (any_point l.points l.flags ≡ false)
  unfolding bad_lists
  right-both = or_split (any_flag l.flags) (any_point l.points l.flags) r.right

pub same_count : (n m : ℕ) → n ≡ m → other_than n m ≡ false
unfolding other_than
same_count n m e = ap not (eq-eqb m n (sym e))

-- what preparing a ready list answers and leaves
pub prepared-is : (l : Pairs) (m : Memory) → (prepared l m).result.number ≡ 0
    → (length m.digits ≡ 256 * slots l) × (length m.windows ≡ 32 * slots l) × Ready l × ((prepared l m).memory ≡ fresh l.scalars l.points (slots l))
unfolding prepare counted prepare_refusal other_than
prepared-is l m e =
    let h = passed 0 (prepare_conditions l.scalars l.points l.flags _ _) (omega arith) e in
    let o = or_split _ _ h.1.1.0 in (
      eqb-true _ _ (not-false _ o.0),
      eqb-true _ _ (not-false _ o.1),
      record { whole = h.0; few = h.1.0; small = h.1.1.1.0; right = h.1.1.1.1.0; all_there = h.1.1.1.1.1.0; equal = h.1.1.1.1.1.1.0 },
      ap (λ (n : ℕ). given n m (fresh l.scalars l.points (slots l))) e ∙ given-done m _,
    )

pub prepared-from : (l : Pairs) (m : Memory) → length m.digits ≡ 256 * slots l → length m.windows ≡ 32 * slots l → Ready l
    → ((prepared l m).result.number ≡ 0) × ((prepared l m).memory ≡ fresh l.scalars l.points (slots l))
unfolding prepare counted prepare_refusal
prepared-from l m ed ew r =
    let z = passes (prepare_conditions l.scalars l.points l.flags (length m.digits) (length m.windows))
    (r.whole, (r.few, (or-none _ _ (same_count _ _ (sym ed)) (same_count _ _ (sym ew)), (r.small, (r.right, (r.all_there, (r.equal, tt))))))) in
    (z, ap (λ (n : ℕ). given n m (fresh l.scalars l.points (slots l))) z ∙ given-done m _)
