-- Answers of the group's calls: the refusal by the tests that lead to it, and what a done call carries.
use mathlib.Core.Path.{◌≡◌, refl, sym, ap, ◌∙◌}
use mathlib.Core.Bool.{Bool, true, false, cond, ◌||◌}
use mathlib.Core.List.{List}
use Prim.Native.Nat.{ℕ, ◌<◌}
use native.Mathlib.Omega.{arith}
use lib.ListN.{length}
use lib.Dec.{leb}
use borrow.Author.Tests.{ne_eqb, eqb-true, leb-false, not-false}
use Rattle.std.specs.Prelude.{Ok}
use Rattle.rules.specs.declared.Element.{Element}
use Rattle.rules.specs.Values.{value_of, element_at, point_at}
use Rattle.rules.specs.Group.{L, added, subtracted, negated}
use Rattle.rules.specs.Numbers.{any_below, first}
use Rattle.rules.specs.Rows.{not_long}
use Rattle.rules.specs.Windows.{over, any_over, point_refusal}
use Rattle.rules.specs.Calls.{pair_refusal, group_add, group_subtract, group_negate, group_double}
use Rattle.rules.specs.Results.{as_value}
use Rattle.limbs.proofs.Done.{done-value}
use Rattle.limbs.proofs.Modulo.{plus-law, minus-law, negative-law}
use Rattle.residue.proofs.Reduction.{L-modulus}

-- what a test of an element says of the list that it was read from
pub tested : (p : List ℕ) {x : Element} {r t : Bool} → r ≡ leb L (value_of x) → x ≡ element_at p 0 → r ≡ t → over p 0 ≡ t
unfolding over point_at
tested p e f g = cc

member : (p : List ℕ) → over p 0 ≡ false → point_at p 0 < L
unfolding over
member p h = leb-false L (point_at p 0) h

module _ (p : List ℕ) where
  pub point-short : (length p ≡ 4 → ⊥) → 1 ≡ point_refusal p
  unfolding point_refusal first not_long
  point-short h = rw (ne_eqb (length p) 4 h)

  pub point-tested : (t : Bool) → length p ≡ 4 → over p 0 ≡ t → cond t 7 0 ≡ point_refusal p
  unfolding point_refusal first not_long any_over any_below
  point-tested t l h = rw (l, h)

module _ (a b : List ℕ) where
  pub left-short : (length a ≡ 4 → ⊥) → 1 ≡ pair_refusal a b
  unfolding pair_refusal first not_long
  left-short h = rw (ne_eqb (length a) 4 h)

  pub right-short : length a ≡ 4 → (length b ≡ 4 → ⊥) → 1 ≡ pair_refusal a b
  unfolding pair_refusal first not_long
  right-short l h = rw (l, ne_eqb (length b) 4 h)

  pub pair-tested : (t u : Bool) → length a ≡ 4 → length b ≡ 4 → over a 0 ≡ t → over b 0 ≡ u → cond (t || u) 7 0 ≡ pair_refusal a b
  unfolding pair_refusal first not_long
  pair-tested t u l m h g = rw (l, m, h, g)

-- a done call: none of its conditions holds
passed : (s u : Bool) → ◌≡◌ {A = ℕ} (cond s 1 (cond u 7 0)) 0 → (s ≡ false) × (u ≡ false)
passed true u e = absurd (omega arith)
passed false true e = absurd (omega arith)
passed false false e = (refl, refl)

neither : (u v : Bool) → (u || v) ≡ false → (u ≡ false) × (v ≡ false)
neither true v e = (e, cc)
neither false v e = (refl, e)

pub point-member : (p : List ℕ) → point_refusal p ≡ 0 → point_at p 0 < L
unfolding point_refusal first not_long
point-member p e =
    let l : length p ≡ 4 = eqb-true _ _ (not-false _ (passed (not_long 4 p) (any_over p) e).0) in
    member p (passed false (over p 0) (point-tested p _ l refl ∙ e)).1

pair-members : (a b : List ℕ) → pair_refusal a b ≡ 0 → (point_at a 0 < L) × (point_at b 0 < L)
unfolding pair_refusal first
pair-members a b e = let h = neither _ _ (passed (not_long 4 a || not_long 4 b) _ e).1 in (member a h.0, member b h.1)

-- done calls
module _ (a b : List ℕ) {n : ℕ} (en : n ≡ pair_refusal a b) (z : n ≡ 0) {x y : Element} (ex : x ≡ element_at a 0) (ey : y ≡ element_at b 0) where
  in_both : (point_at a 0 < L) × (point_at b 0 < L)
  in_both = pair-members a b (sym en ∙ z)

  pub sum-answer : {e : Element} → e ≡ added x y → as_value (Ok e) ≡ group_add a b
  unfolding group_add point_at
  sum-answer ee = done-value (sym en ∙ z) _ (ee ∙ plus-law L-modulus x y (ap value_of ex) (ap value_of ey) in_both.0 in_both.1)

  pub difference-answer : {e : Element} → e ≡ subtracted x y → as_value (Ok e) ≡ group_subtract a b
  unfolding group_subtract point_at
  difference-answer ee = done-value (sym en ∙ z) _ (ee ∙ minus-law L-modulus x y (ap value_of ex) (ap value_of ey) in_both.0 in_both.1)

module _ (a : List ℕ) {n : ℕ} (en : n ≡ point_refusal a) (z : n ≡ 0) {x : Element} (ex : x ≡ element_at a 0) where
  in_one : point_at a 0 < L
  in_one = point-member a (sym en ∙ z)

  pub inverse-answer : {e : Element} → e ≡ negated x → as_value (Ok e) ≡ group_negate a
  unfolding group_negate point_at
  inverse-answer ee = done-value (sym en ∙ z) _ (ee ∙ negative-law L-modulus x (ap value_of ex) in_one)

  pub double-answer : {e : Element} → e ≡ added x x → as_value (Ok e) ≡ group_double a
  unfolding group_double point_at
  double-answer ee = done-value (sym en ∙ z) _ (ee ∙ plus-law L-modulus x x (ap value_of ex) (ap value_of ex) in_one in_one)
