-- What the call answers where all tests have passed.
use mathlib.Core.Path.{◌≡◌, refl, sym, ap, ap₂, ◌∙◌}
use mathlib.Core.List.{List}
use Prim.Native.Nat.{ℕ, ◌+◌, ◌*◌, ◌%◌, ◌<◌}
use native.Mathlib.Nat.{zero-add}
use native.Mathlib.Omega.{arith}
use lib.ListN.{length}
use lib.IntN.{ℤ}
use Rattle.std.specs.Prelude.{Ok}
use Rattle.rules.specs.declared.Element.{Element}
use Rattle.rules.specs.declared.Counts.{Counts}
use Rattle.rules.specs.declared.Walk.{Walk}
use Rattle.rules.specs.Values.{element_of, part, element_at, point_at, scalar_at}
use Rattle.rules.specs.Group.{L, elements, total}
use Rattle.rules.specs.Numbers.{scalar_bound}
use Rattle.rules.specs.Rows.{not_long, width_off, radix_row, radix_row_of}
use Rattle.rules.specs.Windows.{successive}
use Rattle.rules.specs.Engines.{single_refusal, single}
use Rattle.rules.specs.Helpers.{elements_flat, Made, made_successive}
use Rattle.rules.specs.Results.{as_sum}
use Rattle.laws.specs.Conditions.{or_split, first-none}
use Rattle.limbs.proofs.Done.{done-sum}
use Rattle.laws.proofs.Puts.{put_same}
use Rattle.lent.proofs.Passed.{long-told, small, under}
use Rattle.window.proofs.Flat.{elements-length}
use Rattle.lookup.proofs.RadixSums.{radix16-walked-from}
use Rattle.variable_base.specs.Walked.{walked_down}

-- what it took
pub counts-are : (x : Element) (c : Counts) (w l : List ℕ) (row : List ℤ) (k : Walk) → record { counts = c; limbs = w } ≡ made_successive 8 x l → k ≡ walked_down row w
    → (c.additions + k.additions ≡ 71) × (c.doublings + k.doublings ≡ 252)
unfolding made_successive walked_down
counts-are x c w l row k m g = (
  ap₂ ◌+◌ (ap (λ (t : Made). t.counts.additions) m) (ap (λ (t : Walk). t.additions) g),
  ap₂ ◌+◌ (ap (λ (t : Made). t.counts.doublings) m) (ap (λ (t : Walk). t.doublings) g),
)

module _ (p s : List ℕ) where
  -- where all have passed
  module _ (z : single_refusal p s ≡ 0) where
    record Ready : Type 0 where
      scalar : length s ≡ 32
      small_one : scalar_at s 0 < scalar_bound
      member : point_at p 0 < L

    ready : Ready
    unfolding single_refusal
    ready =
        let p₁ = first-none _ _ _ (λ q. omega arith) (sym z) in
        let p₂ = first-none _ _ _ (λ q. omega arith) p₁.1 in
        let p₃ = first-none _ _ _ (λ q. omega arith) p₂.1 in
        let long = or_split (not_long 4 p) (not_long 32 s) p₁.0 in
        let four : length p ≡ 4 = long-told p long.0 in
        let bytes : length s ≡ 32 = long-told s long.1 in
        record { scalar = bytes; small_one = small s 0 p₂.0 (omega arith); member = under p 0 p₃.0 (omega arith) }

    -- the window, the row
    window-is : (x : Element) (c : Counts) (w l : List ℕ) → x ≡ element_at p 0 → length l ≡ 32 → record { counts = c; limbs = w } ≡ made_successive 8 x l
        → w ≡ elements_flat (successive elements (element_at p 0)) 8
    unfolding made_successive
    window-is x c w l e n m =
        ap (λ (t : Made). t.limbs) m ∙ put_same _ l (n ∙ sym (elements-length (successive elements x) 8)) ∙ ap (λ (y : Element). elements_flat (successive elements y) 8) e

    row_is : radix_row_of s 4 ≡ radix_row 4 (scalar_at s 0)
    unfolding radix_row_of width_off scalar_at part
    row_is = refl

    -- the walk
    walk_is : {row : List ℤ} {w : List ℕ} → row ≡ radix_row 4 (scalar_at s 0) → w ≡ elements_flat (successive elements (element_at p 0)) 8
        → (walked_down row w).element ≡ element_of (scalar_at s 0 * point_at p 0 % L)
    unfolding walked_down total point_at
    walk_is {row} {w} e f =
        let r = ready in
        radix16-walked-from _ (λ _. element_at p 0) (λ _. scalar_at s 0) 1 (λ i _. r.member) (λ i _. r.small_one) (λ i j _ _. rw (e, f) refl)
        ∙ ap (λ (x : ℕ). element_of (x % L)) (zero-add _)

    pub answered : {x : Element} {c : Counts} {w : List ℕ} (l : List ℕ) {row : List ℤ} {k : Walk} → x ≡ element_at p 0 → length l ≡ 32
        → record { counts = c; limbs = w } ≡ made_successive 8 x l → row ≡ radix_row_of s 4 → k ≡ walked_down row w
        → as_sum (Ok (record { element = k.element; additions = c.additions + k.additions; doublings = c.doublings + k.doublings })) ≡ single p s
    unfolding single
    answered {x} {c} {w} l {row} {k} e long m f g =
        let n = counts-are x c w l row k m g in
        done-sum z _ (ap (λ (t : Walk). t.element) g ∙ walk_is (f ∙ row_is) (window-is x c w l e long m)) n.0 n.1
