-- The loop that builds a window, entry by entry, over the number n of its entries, over any group and any limbs of an element.
use mathlib.Core.Path.{◌≡◌, refl, sym, ap, ap₂, ◌∙◌}
use mathlib.Core.List.{List, [], ◌∷◌, ◌++◌, append_assoc, append-nil}
use Prim.Native.Nat.{ℕ, ◌+◌, ◌-◌, ◌<◌, ◌≤◌}
use native.Mathlib.Numerals.{add-one}
use native.Mathlib.Omega.{arith}
use lib.ListN.{length, get_or, set, take, length-set}
use lib.Seq.{take_all, take-suc, take-suc-set}
use Rattle.rules.specs.declared.Element.{Element}
use Rattle.rules.specs.Values.{flat}
use Rattle.rules.specs.Group.{Ops, elements}
use Rattle.rules.specs.Windows.{stepped, successive, odd}
use Rattle.rules.specs.Lists.{put, joined}
use Rattle.rules.specs.Helpers.{elements_flat, Made, made_successive, flat_in, made_odd_in}
use Rattle.laws.specs.Windows.{stepped-more}
use Rattle.laws.specs.Parts.{flat-more}

joined-last : (w : List (List ℕ)) (l : List ℕ) → joined (w ++ l ∷ []) ≡ joined w ++ l
unfolding joined
joined-last [] l = append-nil l
joined-last (x ∷ w) l = ap (λ (y : List ℕ). x ++ y) (joined-last w l) ∙ sym (append_assoc x (joined w) l)

module _ {A : Type 0} (o : Ops A) (limbs : A → List ℕ) (n : ℕ) (s p : A) where
  more : (i : ℕ) → flat_in limbs (stepped o s p) i ++ limbs (stepped o s p i) ≡ flat_in limbs (stepped o s p) (i + 1)
  unfolding flat_in
  more i = sym (flat-more (λ k. limbs (stepped o s p k)) i)

  -- i entries are made, by i - 1 additions; e is the latest
  pub record Built (additions : ℕ) (t : List (List ℕ)) (e : A) (i : ℕ) : Type 0 where
    pub some : 1 ≤ i
    pub within : i ≤ n
    pub long : length t ≡ n
    pub made : additions ≡ i - 1
    pub latest : e ≡ stepped o s p (i - 1)
    pub entries : joined (take i t) ≡ flat_in limbs (stepped o s p) i

  pub built-first : (t : List (List ℕ)) {additions : ℕ} → 1 ≤ n → additions ≡ 0 → length t ≡ n → get_or t 0 [] ≡ limbs p → Built additions t p 1
  unfolding flat_in flat joined stepped
  built-first t h a l e = record {
    some = omega arith;
    within = h;
    long = l;
    made = a;
    latest = refl;
    entries = ap joined (take-suc t 0 [] (omega arith)) ∙ append-nil (get_or t 0 []) ∙ e;
  }

  module _ {additions : ℕ} {t : List (List ℕ)} {e : A} {i : ℕ} (b : Built additions t e i) where
    pub built-more : i < n → {e' : A} {l : List ℕ} → e' ≡ o.op e s → l ≡ limbs e' → Built (additions + 1) (set t i l) e' (i + 1)
    built-more h {e'} {l} f g =
        let back : i - 1 + 1 ≡ i = omega (arith, b.some) in
        let next : i + 1 - 1 ≡ i = omega arith in
        let new : e' ≡ stepped o s p i = f ∙ ap (λ x. o.op x s) b.latest ∙ sym (stepped-more o s p (i - 1)) ∙ ap (stepped o s p) back in
        record {
          some = omega arith;
          within = omega arith;
          long = length-set t i l ∙ b.long;
          made = omega (arith, b.some, b.made);
          latest = new ∙ ap (stepped o s p) (sym next);
          entries = ap (λ (m : ℕ). joined (take m (set t i l))) (add-one i)
              ∙ ap joined (take-suc-set t i l (omega (arith, b.long)))
              ∙ joined-last (take i t) l
              ∙ ap₂ ◌++◌ b.entries (g ∙ ap limbs new)
              ∙ more i;
        }

    pub built-all : n ≤ i → (joined t ≡ flat_in limbs (stepped o s p) n) × (additions ≡ n - 1)
    built-all h =
        let e : i ≡ n = omega (arith, b.within) in
        (ap joined (sym (take_all i t (omega (arith, b.long)))) ∙ b.entries ∙ ap (flat_in limbs (stepped o s p)) e, omega (arith, b.made))

-- what making a window leaves, from what the loop left and the copy of it
module _ (n : ℕ) (l : List ℕ) (w : List (List ℕ)) {x : List ℕ} {additions : ℕ} (a : additions ≡ n - 1) (c : x ≡ put (joined w) l) where
  pub successive-made : (p : Element) → joined w ≡ elements_flat (stepped elements p p) n
      → ◌≡◌ {A = Made} (record { counts = record { additions = additions; doublings = 0 }; limbs = x }) (made_successive n p l)
  unfolding made_successive successive
  successive-made p e = rw (a, c, e)

  pub odd-made : {A : Type 0} (o : Ops A) (limbs : A → List ℕ) (p : A) {s : A} → s ≡ o.twice p → joined w ≡ flat_in limbs (stepped o s p) n
      → ◌≡◌ {A = Made} (record { counts = record { additions = additions; doublings = 1 }; limbs = x }) (made_odd_in o limbs n p l)
  unfolding made_odd_in odd
  odd-made o limbs p h e = rw (a, c, e, h)
