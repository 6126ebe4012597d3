-- What a call knows of lent lists where a test has passed.
use mathlib.Core.Path.{◌≡◌, refl, sym, ap, ◌∙◌}
use mathlib.Core.Bool.{Bool, true, false, cond, not}
use mathlib.Core.List.{List, [], ◌∷◌}
use Prim.Native.Nat.{ℕ, ◌/◌, ◌%◌, ◌<◌, ◌≤◌}
use native.Mathlib.Nat.{min-le_left, min-le_right}
use native.Mathlib.Omega.{arith}
use lib.ListN.{length, get_or}
use lib.Dec.{eqb}
use borrow.Author.Tests.{eq-eqb, ne_eqb, eqb-true, ltb-false, leb-false, not-false}
use Rattle.std.specs.Prelude.{Some, None}
use Rattle.rules.specs.Values.{value_of, element_at, point_at, optional_at, scalar_at}
use Rattle.rules.specs.Group.{L}
use Rattle.rules.specs.Numbers.{not_whole, too_many, most, scalar_bound, first}
use Rattle.rules.specs.Rows.{not_long}
use Rattle.rules.specs.Windows.{over, any_over}
use Rattle.rules.specs.Lists.{not_in, beyond_most, scalar_count, point_count, pairs, lists_too_many, other_than, big_at, any_big, point_over, any_point, is_absent, absent_below}
use Rattle.rules.specs.Asks.{enough_room}
use Rattle.laws.specs.Conditions.{or_split, any_below_lem, first-none}

-- what a plain test of a length says of its condition
module _ {n need : ℕ} where
  pub same : n ≡ need → other_than need n ≡ false
  unfolding other_than
  same e = ap not (eq-eqb n need e)

  pub other : (n ≡ need → ⊥) → other_than need n ≡ true
  unfolding other_than
  other h = ap not (ne_eqb n need h)

module _ {A : Type 0} {n : ℕ} (l : List A) where
  pub long : length l ≡ n → not_long n l ≡ false
  unfolding not_long
  long e = ap not (eq-eqb (length l) n e)

  pub not-long : (length l ≡ n → ⊥) → not_long n l ≡ true
  unfolding not_long
  not-long h = ap not (ne_eqb (length l) n h)

  pub long-told : not_long n l ≡ false → length l ≡ n
  unfolding not_long
  long-told e = eqb-true (length l) n (not-false _ e)

pub whole : (unit n : ℕ) → not_in unit n ≡ false → n % unit ≡ 0
unfolding not_in
whole unit n e = eqb-true (n % unit) 0 (not-false (eqb (n % unit) 0) e)

pub few : (limit unit n : ℕ) → beyond_most limit unit n ≡ false → n / unit ≤ limit
unfolding beyond_most
few limit unit n e = ltb-false limit (n / unit) e

pub lists-few : (ss ps : List ℕ) → lists_too_many ss ps ≡ false → (scalar_count ss ≤ most) × (point_count ps ≤ most)
unfolding lists_too_many
lists-few ss ps e = let o = or_split _ _ e in (few most 32 (length ss) o.0, few most 4 (length ps) o.1)

pub small : (ss : List ℕ) (i : ℕ) → any_big ss ≡ false → i < scalar_count ss → scalar_at ss i < scalar_bound
unfolding any_big big_at
small ss i e h = leb-false scalar_bound (scalar_at ss i) (any_below_lem (big_at ss) (scalar_count ss) i e h)

pub under : (ps : List ℕ) (i : ℕ) → any_over ps ≡ false → i < point_count ps → point_at ps i < L
unfolding any_over over
under ps i e h = leb-false L (point_at ps i) (any_below_lem (over ps) (point_count ps) i e h)

-- a point that is not absent is the element at its place
pub there : (ps fs : List ℕ) (n i : ℕ) → absent_below ps fs n ≡ false → i < n → optional_at ps fs i ≡ Some (element_at ps i)
unfolding absent_below optional_at
there ps fs n i e h = go (eqb (get_or fs i 0) 0) (any_below_lem (λ j. is_absent (optional_at ps fs j)) n i e h)
  where
    go : (b : Bool) → is_absent (cond b None (Some (element_at ps i))) ≡ false → cond b None (Some (element_at ps i)) ≡ Some (element_at ps i)
    go true q = let t : true ≡ false = unfold is_absent in q in let w : ◌≡◌ {A = ℕ} 0 1 = cc in absurd (omega arith)
    go false q = refl

-- and below L
pub there-under : (ps fs : List ℕ) (n i : ℕ) → absent_below ps fs n ≡ false → any_point ps fs ≡ false → i < n → i < point_count ps → point_at ps i < L
unfolding any_point point_over point_at
there-under ps fs n i e a h g =
    leb-false L (value_of (element_at ps i)) (rw (there ps fs n i e h) at (any_below_lem (λ j. point_over (optional_at ps fs j)) (point_count ps) i a g))

-- 5, by what is needed as the code has it
pub room-is : {r a a' b b' : ℕ} (d l : ℕ) → a ≡ a' → b ≡ b' → r ≡ first (enough_room a d b l) → r ≡ first (enough_room a' d b' l)
room-is d l e f g = rw (← e, ← f) g

-- the pairs are no more than the scalars, the points, and the limit
module _ (ss ps : List ℕ) where
  pub pairs-scalars : pairs ss ps ≤ scalar_count ss
  unfolding pairs
  pairs-scalars = min-le_left (scalar_count ss) (point_count ps)

  pub pairs-points : pairs ss ps ≤ point_count ps
  unfolding pairs
  pairs-points = min-le_right (scalar_count ss) (point_count ps)

  pub pairs-few : lists_too_many ss ps ≡ false → pairs ss ps ≤ most
  pairs-few e = omega (arith, (lists-few ss ps e).0, pairs-scalars)

  -- where 1 and 2 have passed
  pub counts-few : (a : Bool) {n : ℕ} → n ≡ first ((a, not_whole) ∷ (lists_too_many ss ps, too_many) ∷ []) → n ≡ 0 → (scalar_count ss ≤ most) × (pairs ss ps ≤ most)
  counts-few a e z =
      let p = first-none _ _ _ (λ q. omega arith) (sym z ∙ e) in
      let q = first-none _ _ _ (λ q. omega arith) p.1 in
      ((lists-few ss ps q.0).0, pairs-few q.0)
