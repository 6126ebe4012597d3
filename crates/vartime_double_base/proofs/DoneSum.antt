-- A call that passed its tests: the walk from the start place down gives the sum, the weight of both rows, and one doubling a place.
use mathlib.Core.Path.{◌≡◌, sym, ap, ap₂, ◌∙◌}
use mathlib.Core.Bool.{false, ◌||◌}
use mathlib.Core.List.{List}
use Prim.Native.Nat.{ℕ, ◌+◌, ◌*◌, ◌%◌, ◌^◌, ◌<◌, ◌≤◌}
use native.Mathlib.Nat.{zero-add, mul-one}
use native.Mathlib.Omega.{arith}
use lib.ListN.{length, get_or}
use lib.IntN.{ℤ, pos}
use lib.Dec.{lit<}
use Rattle.rules.specs.declared.Element.{Element}
use Rattle.rules.specs.declared.Counts.{Counts}
use Rattle.rules.specs.declared.Walk.{Walk}
use Rattle.rules.specs.Values.{limb, element_of, part, flat, element_at, point_at, scalar_at}
use Rattle.rules.specs.Group.{L, residues, elements, total}
use Rattle.rules.specs.Loops.{weight}
use Rattle.rules.specs.Numbers.{row_bound, condition}
use Rattle.rules.specs.Rows.{digit, naf_row, not_long, width_off, naf_row_of}
use Rattle.rules.specs.Windows.{odd, limbs_flat, any_over}
use Rattle.rules.specs.Lists.{any_big}
use Rattle.rules.specs.Engines.{rows_digit, double_conditions, double_refusal, start_place}
use Rattle.rules.specs.Helpers.{elements_flat, Made, made_odd, walked, made_odd_in}
use Rattle.laws.specs.RadixRows.{scalar-has-row}
use Rattle.laws.specs.Conditions.{or_split}
use Rattle.laws.specs.Answers.{first_done}
use Rattle.laws.specs.Weight.{weight-le}
use Rattle.laws.proofs.Puts.{put_same}
use Rattle.lent.proofs.Passed.{long-told, small, under}
use Rattle.window.proofs.Flat.{elements-length, read-ranged, odd-limbs}
use Rattle.columns.proofs.Walked.{took}
use Rattle.columns.proofs.Slots.{walked-filled}
use Rattle.vartime_double_base.proofs.Search.{above, start-inside}

one-under : 1 < L
unfolding L
one-under = lit< tt

-- a sum of one
single : (f : ℕ → ℕ) → total f 1 ≡ f 0
unfolding total
single f = zero-add (f 0)

-- what making the window and walking have come to
pub record Done (a p b : List ℕ) (made : Counts) (w : Walk) : Type 0 where
  pub element : w.element ≡ element_of ((scalar_at a 0 * point_at p 0 + scalar_at b 0) % L)
  pub additions : made.additions + w.additions ≡ 7 + (weight (rows_digit (naf_row 5) a) 1 256 + weight (rows_digit (naf_row 8) b) 1 256)
  pub doublings : made.doublings + w.doublings ≡ start_place (naf_row 5 (scalar_at a 0)) (naf_row 8 (scalar_at b 0)) + 2
  pub few-additions : made.additions + w.additions < 2 ^ 64
  pub few-doublings : made.doublings + w.doublings < 2 ^ 64

-- what the tests that passed say
module _ (a p b : List ℕ) (passed : double_refusal a p b ≡ 0) where
  told : (i : ℕ) → condition (double_conditions a p b) i ≡ false
  unfolding double_refusal
  told = (first_done (double_conditions a p b) (omega arith)).0 passed

  long : ((length a ≡ 32) × (length p ≡ 4)) × (length b ≡ 32)
  unfolding condition
  long =
      let o = or_split (not_long 32 a || not_long 4 p) (not_long 32 b) (told 1) in
      let u = or_split (not_long 32 a) (not_long 4 p) o.0 in
      ((long-told a u.0, long-told p u.1), long-told b o.1)

  small-both : (any_big a ≡ false) × (any_big b ≡ false)
  unfolding condition
  small-both = let o = or_split (any_big b) (any_big a) (told 6) in (o.1, o.0)

  over : any_over p ≡ false
  unfolding condition
  over = told 7

  row-a : (i : ℕ) → i < 1 → scalar_at a i < row_bound
  row-a i h = scalar-has-row (small a i small-both.0 (omega (arith, long)))

  row-b : (i : ℕ) → i < 1 → scalar_at b i < row_bound
  row-b i h = scalar-has-row (small b i small-both.1 (omega (arith, long)))

  point-in : (i : ℕ) → i < 1 → point_at p i < L
  point-in i h = under p i over (omega (arith, long))

  abbrev r : List ℤ
  r = naf_row 5 (scalar_at a 0)

  abbrev r' : List ℤ
  r' = naf_row 8 (scalar_at b 0)

  -- how many places the walk goes through: above them both rows are 0
  abbrev n : ℕ
  n = start_place r r' + 1

  top : (i j : ℕ) → i < 1 → n ≤ j → j < 256 → digit (naf_row 5 (scalar_at a i)) j ≡ pos 0
  top i j h g q = let e : i ≡ 0 = omega arith in rw e (above r r' j (omega arith) q).0

  top' : (i j : ℕ) → i < 1 → n ≤ j → j < 256 → digit (naf_row 8 (scalar_at b i)) j ≡ pos 0
  top' i j h g q = let e : i ≡ 0 = omega arith in rw e (above r r' j (omega arith) q).1

  -- the walk over one slot of each kind
  walk-one : walked r (limbs_flat (odd residues (point_at p 0)) 8) r' (limbs_flat (odd residues 1) 64) n
      ≡ took (element_of ((scalar_at a 0 * point_at p 0 + scalar_at b 0) % L)) (weight (rows_digit (naf_row 5) a) 1 256 + weight (rows_digit (naf_row 8) b) 1 256) n
  unfolding flat rows_digit
  walk-one =
      walked-filled (scalar_at a) (point_at p) 1 row-a point-in (scalar_at b) (λ i. 1) 1 row-b (λ i h. one-under) n (omega (arith, start-inside r r')) top top'
      ∙ ap₂ (λ (x y : ℕ). took (element_of ((x + y) % L)) (weight (rows_digit (naf_row 5) a) 1 256 + weight (rows_digit (naf_row 8) b) 1 256) n)
      (single (λ i. scalar_at a i * point_at p i))
      (single (λ i. scalar_at b i * 1) ∙ mul-one (scalar_at b 0))

  -- all of it, as the code has it
  module _ (range : (k : ℕ) → get_or p k 0 < limb) {q q' : List ℤ} (row : q ≡ naf_row_of a 5) (row' : q' ≡ naf_row_of b 8) {i : ℕ} (start : i ≡ start_place q q')
      {x : Element} (first : x ≡ element_at p 0) (z : List ℕ) {ws : List ℕ} {made : Counts} (room : length z ≡ 32)
      (window : ◌≡◌ {A = Made} (record { counts = made; limbs = ws }) (made_odd 8 x z)) {w : Walk} (walk : w ≡ walked q ws q' (limbs_flat (odd residues 1) 64) (i + 1)) where
    window-is : ws ≡ limbs_flat (odd residues (point_at p 0)) 8
    unfolding made_odd_in point_at
    window-is =
        ap (λ (m : Made). m.limbs) window
        ∙ put_same _ z (room ∙ sym (elements-length (odd elements x) 8))
        ∙ ap (λ (e : Element). elements_flat (odd elements e) 8) first
        ∙ odd-limbs (element_at p 0) (read-ranged p range 0) (point-in 0 (lit< tt)) 8

    rows_are : (start_place q q' ≡ start_place r r') × (walked q ws q' (limbs_flat (odd residues 1) 64) n ≡ walked r ws r' (limbs_flat (odd residues 1) 64) n)
    unfolding naf_row_of width_off scalar_at part
    rows_are = (ap₂ start_place row row', ap₂ (λ (l l' : List ℤ). walked l ws l' (limbs_flat (odd residues 1) 64) n) row row')

    walk_is : w ≡ took (element_of ((scalar_at a 0 * point_at p 0 + scalar_at b 0) % L)) (weight (rows_digit (naf_row 5) a) 1 256 + weight (rows_digit (naf_row 8) b) 1 256) n
    walk_is =
        walk
        ∙ ap (λ (k : ℕ). walked q ws q' (limbs_flat (odd residues 1) 64) (k + 1)) (start ∙ rows_are.0)
        ∙ rows_are.1
        ∙ ap (λ (l : List ℕ). walked r l r' (limbs_flat (odd residues 1) 64) n) window-is
        ∙ walk-one

    counts-are : (made.additions ≡ 7) × (made.doublings ≡ 1)
    unfolding made_odd_in
    counts-are = (ap (λ (m : Made). m.counts.additions) window, ap (λ (m : Made). m.counts.doublings) window)

    pub sum_done_lem : Done a p b made w
    sum_done_lem =
        let d : w.doublings ≡ n = ap (λ (y : Walk). y.doublings) walk_is in
        let s : made.additions + w.additions ≡ 7 + (weight (rows_digit (naf_row 5) a) 1 256 + weight (rows_digit (naf_row 8) b) 1 256) =
        ap₂ ◌+◌ counts-are.0 (ap (λ (y : Walk). y.additions) walk_is) in
        record {
          element = ap (λ (y : Walk). y.element) walk_is;
          additions = s;
          doublings = omega (arith, counts-are.1);
          few-additions = omega (arith, weight-le (rows_digit (naf_row 5) a) 1 256, weight-le (rows_digit (naf_row 8) b) 1 256);
          few-doublings = omega (arith, counts-are.1, start-inside r r');
        }
