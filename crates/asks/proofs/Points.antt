-- Optional points: what a flag says, and what a point that is there, or not, answers.
use mathlib.Core.Path.{◌≡◌, refl, sym, ap, ◌∙◌}
use mathlib.Core.Bool.{Bool, true, false, ◌&&◌, ◌||◌, and-false}
use mathlib.Core.List.{List}
use Prim.Native.Nat.{ℕ, ◌<◌, ◌≤◌}
use native.Mathlib.Decide.{dec_lt}
use native.Mathlib.Omega.{arith}
use lib.ListN.{length, get_or, get_or-eq_default}
use lib.Dec.{leb, ltb}
use borrow.Author.Tests.{eq-eqb, ne_eqb, lt-ltb, le-ltb}
use Rattle.std.specs.Prelude.{Option, Some, None}
use Rattle.rules.specs.declared.Element.{Element}
use Rattle.rules.specs.Values.{value_of, element_at, optional_at}
use Rattle.rules.specs.Group.{L}
use Rattle.rules.specs.Numbers.{any_below}
use Rattle.rules.specs.Lists.{point_count, flag_at, any_flag, point_over, any_point, bad_lists, is_absent}
use Rattle.laws.specs.Conditions.{or-none, or_split, any_below_lem, any-absent}

module _ (ps fs : List ℕ) (i : ℕ) where
  pub flag-none : get_or fs i 0 ≡ 0 → None ≡ optional_at ps fs i
  unfolding optional_at
  flag-none z = rw (eq-eqb (get_or fs i 0) 0 z)

  pub flag-past : length fs ≤ i → None ≡ optional_at ps fs i
  flag-past h = flag-none (get_or-eq_default fs 0 h)

  pub flag-some : (get_or fs i 0 ≡ 0 → ⊥) → (x : Element) → x ≡ element_at ps i → Some x ≡ optional_at ps fs i
  unfolding optional_at
  flag-some z x e = rw (ne_eqb (get_or fs i 0) 0 z) (ap Some e)

-- a point that is absent
module _ {o : Option Element} (e : o ≡ None) where
  pub absent-under : point_over o ≡ false
  unfolding point_over
  absent-under = rw e

  pub absent-is : is_absent o ≡ true
  unfolding is_absent
  absent-is = rw e

-- a point that is there
module _ {o : Option Element} {x : Element} (e : o ≡ Some x) where
  pub present-over : point_over o ≡ leb L (value_of x)
  unfolding point_over
  present-over = rw e

  pub present-is : is_absent o ≡ false
  unfolding is_absent
  present-is = rw e

-- 7 at place i: the flag, or the point that it says is there
module _ (ps fs : List ℕ) where
  abbrev pub bad_at : ℕ → Bool
  bad_at i = flag_at fs i || (ltb i (point_count ps) && point_over (optional_at ps fs i))

  pub bad-at : (i : ℕ) {o : Option Element} {r : Bool} → o ≡ optional_at ps fs i → r ≡ point_over o → bad_at i ≡ (flag_at fs i || (ltb i (point_count ps) && r))
  bad-at i e q = ap (λ (b : Bool). flag_at fs i || (ltb i (point_count ps) && b)) (sym (q ∙ ap point_over e))

  -- past the flags every point is absent, so a search along them finds all
  pub bad-by-flags : any_below bad_at (length fs) ≡ bad_lists ps fs
  unfolding bad_lists any_flag any_point
  bad-by-flags = same_bool _ _ along back
    where
      over : ℕ → Bool
      over i = point_over (optional_at ps fs i)

      same_bool : (a b : Bool) → (a ≡ false → b ≡ false) → (b ≡ false → a ≡ false) → a ≡ b
      same_bool true true p q = refl
      same_bool true false p q = q refl
      same_bool false true p q = sym (p refl)
      same_bool false false p q = refl

      along : any_below bad_at (length fs) ≡ false → (any_below (flag_at fs) (length fs) || any_below over (point_count ps)) ≡ false
      along h = or-none _ _ (any-absent (flag_at fs) _ (λ i p. (or_split _ _ (any_below_lem bad_at _ i h p)).0)) (any-absent over _ (λ i p. at i p (dec_lt i (length fs))))
        where
          at : (i : ℕ) → i < point_count ps → Dec (i < length fs) → over i ≡ false
          at i p (yes q) = rw (lt-ltb i (point_count ps) p) at (or_split (flag_at fs i) (ltb i (point_count ps) && over i) (any_below_lem bad_at _ i h q)).1
          at i p (no q) = absent-under (sym (flag-past ps fs i (omega arith)))

      back : (any_below (flag_at fs) (length fs) || any_below over (point_count ps)) ≡ false → any_below bad_at (length fs) ≡ false
      back h = let o = or_split _ _ h in any-absent bad_at _ (λ i p. or-none _ _ (any_below_lem (flag_at fs) _ i o.0 p) (at o.1 i (dec_lt i (point_count ps))))
        where
          at : any_below over (point_count ps) ≡ false → (i : ℕ) → Dec (i < point_count ps) → (ltb i (point_count ps) && over i) ≡ false
          at e i (yes q) = ap (λ (b : Bool). ltb i (point_count ps) && b) (any_below_lem over _ i e q) ∙ and-false (ltb i (point_count ps))
          at e i (no q) = rw (le-ltb i (point_count ps) (omega arith))
