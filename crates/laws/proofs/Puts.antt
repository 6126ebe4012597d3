-- A row or window put into its part: what the part holds then, and the list that it is a part of.
use mathlib.Core.Path.{◌≡◌, ap, ◌∙◌}
use mathlib.Core.List.{List, ◌++◌}
use Prim.Native.Nat.{ℕ, ◌+◌, ◌-◌, ◌≤◌}
use native.Mathlib.Omega.{arith}
use lib.ListN.{length, take, drop, length-drop}
use lib.Seq.{length-take-le}
use borrow.Author.Tests.{eq-eqb, ne_eqb}
use Rattle.rules.specs.Lists.{put, stored}

module _ {A : Type 0} (x l : List A) where
  pub put_same : length l ≡ length x → put x l ≡ x
  unfolding put
  put_same h = rw (eq-eqb (length l) (length x) h)

  pub put_other : (length l ≡ length x → ⊥) → put x l ≡ l
  unfolding put
  put_other h = rw (ne_eqb (length l) (length x) h)

-- x put into the part of l from a up to e, which has its length
module _ {A : Type 0} (a e : ℕ) (x l : List A) (long : e ≡ a + length x) (fits : e ≤ length l) where
  pub put-part : put x (take (e - a) (drop a l)) ≡ x
  put-part = put_same x (take (e - a) (drop a l)) (length-take-le (e - a) (drop a l) (simp length-drop (omega arith)) ∙ omega arith)

  -- is x stored in l
  pub put-stored : take a l ++ (put x (take (e - a) (drop a l)) ++ drop (e - a) (drop a l)) ≡ stored a x l
  unfolding stored
  put-stored =
      let k : e - a ≡ length x = omega arith in
      ap (λ (y : List A). take a l ++ (y ++ drop (e - a) (drop a l))) put-part ∙ rw k
