-- Four limbs modulo m: less it once where a sum reaches it, and it more where a difference borrows; of elements below m, what the numbers modulo m do.
use Rattle.std.proofs.Common.{◌≡◌, ℕ, ◌+◌, ◌-◌, ◌*◌, ◌%◌, ◌^◌, ◌<◌, ◌≤◌, true, false, cond, not, ltb, leb, sym, ap, ◌∙◌, ap₂, lt_trans, lt_of_lt_of_le, mod-lt, mod-eq_of_lt, zero-add, arith, lit<, ltb-false, ltb-true, le-ltb, lt-ltb, le-leb}
use native.Mathlib.Nat.{mod-eq-sub-mod}
use native.Mathlib.Decide.{dec_lt}
use borrow.Author.Tests.{lt-leb}
use Rattle.rules.specs.declared.Element.{Element}
use Rattle.rules.specs.declared.Carried.{Carried}
use Rattle.rules.specs.Values.{value_of, element_of}
use Rattle.rules.specs.Group.{modulo, less, added_modulo, subtracted_modulo, negated_modulo}
use Rattle.rules.specs.Limbs.{carried_sum, carried_difference}
use Rattle.limbs.proofs.Elements.{value-of, whole_of, unborrowed, past, Ranged, ranged-of}

-- a modulus that four limbs hold twice
pub record Modulus (m : ℕ) : Type 0 where
  pub pos : 0 < m
  pub small : m < 2 ^ 256
  pub twice : m + m ≤ 2 ^ 256

-- modulo m, for numbers below m: once less m does for a sum, once m more for a difference
less-mod : (m s : ℕ) → s < m + m → cond (leb m s) (s - m) s ≡ s % m
less-mod m s h = go (dec_lt s m)
  where
    go : Dec (s < m) → cond (leb m s) (s - m) s ≡ s % m
    go (yes a) = rw (lt-leb m s a) (sym (mod-eq_of_lt a))
    go (no n) =
        let le : m ≤ s = omega arith in
        rw (le-leb m s le) (sym (mod-eq-sub-mod le ∙ mod-eq_of_lt (omega arith)))

-- whatever the limbs were, those of a result are below their bound
module _ (m : ℕ) where
  pub added-ranged : (a b : Element) → Ranged (added_modulo m a b)
  unfolding added_modulo
  added-ranged a b = ranged-of _

  pub subtracted-ranged : (a b : Element) → Ranged (subtracted_modulo m a b)
  unfolding subtracted_modulo
  subtracted-ranged a b = ranged-of _

  pub negated-ranged : (a : Element) → Ranged (negated_modulo m a)
  unfolding negated_modulo
  negated-ranged a = subtracted-ranged _ a

-- an element below m
abbrev pub Under : ℕ → Element → Type 0
Under m a = value_of a < m

module _ {m : ℕ} (M : Modulus m) where
  -- a residue is the value of its element
  pub value_in_lem : (v : ℕ) → v < m → value_of (element_of v) ≡ v
  value_in_lem v h = value-of v (lt_trans h M.small)

  pub member_of : (v : ℕ) → v < m → Under m (element_of v)
  member_of v h = rw (value_in_lem v h) h

  module _ (a b : Element) (ha : Under m a) (hb : Under m b) where
    pub added_is : added_modulo m a b ≡ element_of ((modulo m).op (value_of a) (value_of b))
    unfolding added_modulo
    added_is =
        let two : value_of a + value_of b < m + m = omega arith in
        ap element_of (ap (λ (x : ℕ). less m x) (value-of _ (lt_of_lt_of_le two M.twice)) ∙ less-mod m _ two)

    pub subtracted-is : subtracted_modulo m a b ≡ element_of ((modulo m).sub (value_of a) (value_of b))
    unfolding subtracted_modulo
    subtracted-is = go (dec_lt (value_of a) (value_of b))
      where
        borrowed : (m W x y : ℕ) → m < W → x < y → y < m → x + W - y + m ≡ (x + (m - y)) % m + W * 1
        borrowed m W x y w h g = let l : x + (m - y) < m = omega arith in rw (mod-eq_of_lt l) (omega arith)

        plain : (m x y : ℕ) → y ≤ x → x < m → x - y ≡ (x + (m - y)) % m
        plain m x y h g =
            let le : m ≤ x + (m - y) = omega arith in
            sym (mod-eq-sub-mod le ∙ mod-eq_of_lt (omega arith) ∙ omega arith)

        go : Dec (value_of a < value_of b) → subtracted_modulo m a b ≡ element_of ((modulo m).sub (value_of a) (value_of b))
        go (yes h) = rw (lt-ltb _ _ h) (ap element_of (borrowed m (2 ^ 256) _ _ M.small h hb) ∙ past _ 1)
        go (no n) = let h : value_of b ≤ value_of a = omega arith in rw (le-ltb _ _ h) (ap element_of (plain m _ _ h ha))

    pub added-value : value_of (added_modulo m a b) ≡ (modulo m).op (value_of a) (value_of b)
    added-value = ap value_of added_is ∙ value_in_lem _ (mod-lt _ M.pos)

    pub subtracted-value : value_of (subtracted_modulo m a b) ≡ (modulo m).sub (value_of a) (value_of b)
    subtracted-value = ap value_of subtracted-is ∙ value_in_lem _ (mod-lt _ M.pos)

    pub added-in : Under m (added_modulo m a b)
    added-in = rw added-value (mod-lt _ M.pos)

    pub subtracted-in : Under m (subtracted_modulo m a b)
    subtracted-in = rw subtracted-value (mod-lt _ M.pos)

  module _ (a : Element) (ha : Under m a) where
    pub negated-is : negated_modulo m a ≡ element_of ((modulo m).inv (value_of a))
    unfolding negated_modulo
    negated-is =
        subtracted-is (element_of 0) a (member_of 0 M.pos) ha
        ∙ ap (λ (x : ℕ). element_of ((x + (m - value_of a)) % m)) (value_in_lem 0 M.pos)
        ∙ ap (λ (x : ℕ). element_of (x % m)) (zero-add (m - value_of a))

    pub negated-value : value_of (negated_modulo m a) ≡ (modulo m).inv (value_of a)
    negated-value = ap value_of negated-is ∙ value_in_lem _ (mod-lt _ M.pos)

    pub negated-in : Under m (negated_modulo m a)
    negated-in = rw negated-value (mod-lt _ M.pos)

  -- the operations on elements that say numbers modulo m
  module _ (x y : Element) {a b : ℕ} (ex : value_of x ≡ a) (ey : value_of y ≡ b) (ha : a < m) (hb : b < m) where
    pub plus-law : added_modulo m x y ≡ element_of ((modulo m).op a b)
    plus-law = added_is x y (rw ex ha) (rw ey hb) ∙ ap₂ (λ (s t : ℕ). element_of ((modulo m).op s t)) ex ey

    pub minus-law : subtracted_modulo m x y ≡ element_of ((modulo m).sub a b)
    minus-law = subtracted-is x y (rw ex ha) (rw ey hb) ∙ ap₂ (λ (s t : ℕ). element_of ((modulo m).sub s t)) ex ey

  pub negative-law : (x : Element) {a : ℕ} → value_of x ≡ a → a < m → negated_modulo m x ≡ element_of ((modulo m).inv a)
  negative-law x ex ha = negated-is x (rw ex ha) ∙ ap (λ (s : ℕ). element_of ((modulo m).inv s)) ex

-- ---- what the code does, for any m and all limbs

-- an element reaches m where their difference borrows nothing
pub reaches : (m a : Element) (d : Carried) → d ≡ carried_difference a m → not d.carry ≡ leb (value_of m) (value_of a)
unfolding carried_difference
reaches m a d e = ap (λ (x : Carried). not x.carry) e ∙ go (dec_lt (value_of a) (value_of m))
  where
    go : Dec (value_of a < value_of m) → not (ltb (value_of a) (value_of m)) ≡ leb (value_of m) (value_of a)
    go (yes h) = rw (lt-ltb _ _ h, lt-leb _ _ h)
    go (no n) = let h : value_of m ≤ value_of a = omega arith in rw (le-ltb _ _ h, le-leb _ _ h)

module _ (m a b : Element) (s d : Carried) where
  -- plus: s is the sum, d is it less m
  module _ (es : s ≡ carried_sum a b) (ed : d ≡ carried_difference s.element m) where
    abbrev v : ℕ
    v = value_of (element_of (value_of a + value_of b))

    sum-element : s.element ≡ element_of (value_of a + value_of b)
    unfolding carried_sum
    sum-element = ap (λ (x : Carried). x.element) es

    below : d.carry ≡ ltb v (value_of m)
    unfolding carried_difference
    below = ap (λ (x : Carried). x.carry) ed ∙ ap (λ (x : Element). ltb (value_of x) (value_of m)) sum-element

    pub kept : d.carry ≡ true → s.element ≡ added_modulo (value_of m) a b
    unfolding added_modulo
    kept t = sum-element ∙ sym (whole_of _) ∙ ap element_of (sym (rw (lt-leb _ v (ltb-true v _ (sym below ∙ t)))))

    pub lessened : d.carry ≡ false → d.element ≡ added_modulo (value_of m) a b
    unfolding added_modulo carried_difference
    lessened t =
        let h : value_of m ≤ v = ltb-false v _ (sym below ∙ t) in
        ap (λ (x : Carried). x.element) ed
        ∙ ap (λ (x : Element). element_of (value_of x + 2 ^ 256 - value_of m)) sum-element
        ∙ unborrowed v _ h
        ∙ ap element_of (sym (rw (le-leb _ v h)))

  -- minus: d is the difference, s is it and m more
  module _ (ed : d ≡ carried_difference a b) (es : s ≡ carried_sum d.element m) where
    difference-element : d.element ≡ element_of (value_of a + 2 ^ 256 - value_of b)
    unfolding carried_difference
    difference-element = ap (λ (x : Carried). x.element) ed

    borrows : d.carry ≡ ltb (value_of a) (value_of b)
    unfolding carried_difference
    borrows = ap (λ (x : Carried). x.carry) ed

    pub raised : d.carry ≡ true → s.element ≡ subtracted_modulo (value_of m) a b
    unfolding subtracted_modulo carried_sum
    raised t =
        let e : ltb (value_of a) (value_of b) ≡ true = sym borrows ∙ t in
        ap (λ (x : Carried). x.element) es
        ∙ ap (λ (x : Element). element_of (value_of x + value_of m)) difference-element
        ∙ ap (λ (x : ℕ). element_of (x + value_of m)) (value-of _ (fits (2 ^ 256) _ _ (lit< tt) (ltb-true _ _ e)))
        ∙ ap element_of (sym (rw e))
      where
        fits : (W x y : ℕ) → 0 < W → x < y → x + W - y < W
        fits W x y p h = omega arith

    pub unraised : d.carry ≡ false → d.element ≡ subtracted_modulo (value_of m) a b
    unfolding subtracted_modulo
    unraised t =
        let e : ltb (value_of a) (value_of b) ≡ false = sym borrows ∙ t in
        difference-element ∙ unborrowed _ _ (ltb-false _ _ e) ∙ ap element_of (sym (rw e))
