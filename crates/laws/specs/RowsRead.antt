-- Reading rows back: when two rows are the same, which rows the readers refuse, and that they give the scalar.
use Rattle.std.specs.Prelude.{◌≡◌, refl, Bool, true, false, not, ◌&&◌, ◌||◌, List, [], ◌∷◌, ◌↔◌, ℕ, zero, suc, ◌^◌, ◌≤◌, ◌<◌, length, ℤ, pos, negsuc, ltb}
use Rattle.std.proofs.Common.{sym, ap, ap₂, ◌∙◌, subst, arith, eqb-true, eq-eqb, ltb-true, lt-ltb}
use Rattle.std.proofs.lemmas.Bool.{not-false}
use Rattle.rules.specs.Numbers.{row_bound, any_below}
use Rattle.rules.specs.Rows.{digit, row_sum, naf_row, radix_row, same_digit, same_row, no_scalar}
use Rattle.laws.specs.RowsRule.{naf-obeys, radix-sum}

both : (t u : Bool) → (t && u) ≡ true → (t ≡ true) × (u ≡ true)
both true u e = (refl, e)
both false u e = (e, cc)

-- ---- the same digit, the same row

same-digit-refl : (x : ℤ) → same_digit x x ≡ true
unfolding same_digit
same-digit-refl (pos a) = eq-eqb a a refl
same-digit-refl (negsuc a) = eq-eqb a a refl

same-digit-eq : (x y : ℤ) → same_digit x y ≡ true → x ≡ y
unfolding same_digit
same-digit-eq (pos a) (pos b) e = ap pos (eqb-true a b e)
same-digit-eq (pos a) (negsuc b) e = cc
same-digit-eq (negsuc a) (pos b) e = cc
same-digit-eq (negsuc a) (negsuc b) e = ap negsuc (eqb-true a b e)

pub same-digit : (x y : ℤ) → (same_digit x y ≡ true) ↔ (x ≡ y)
same-digit x y = (same-digit-eq x y, λ e. subst (λ z. same_digit x z ≡ true) e (same-digit-refl x))

same-row-refl : (a : List ℤ) → same_row a a ≡ true
unfolding same_row
same-row-refl [] = refl
same-row-refl (x ∷ a) = rw (same-digit-refl x) (same-row-refl a)

same-row-eq : (a b : List ℤ) → same_row a b ≡ true → a ≡ b
unfolding same_row
same-row-eq [] [] e = refl
same-row-eq [] (y ∷ b) e = cc
same-row-eq (x ∷ a) [] e = cc
same-row-eq (x ∷ a) (y ∷ b) e =
    let p : (same_digit x y ≡ true) × (same_row a b ≡ true) = both (same_digit x y) (same_row a b) e in
    ap₂ ◌∷◌ (same-digit-eq x y p.0) (same-row-eq a b p.1)

pub same_row_lem : (a b : List ℤ) → (same_row a b ≡ true) ↔ (a ≡ b)
same_row_lem a b = (same-row-eq a b, λ e. subst (λ l. same_row a l ≡ true) e (same-row-refl a))

-- the same as a search over the places for digits that differ
any-first : (f : ℕ → Bool) (n : ℕ) → any_below f (suc n) ≡ (f 0 || any_below (λ j. f (suc j)) n)
unfolding any_below
any-first f zero = or-false (f 0)
  where
    or-false : (b : Bool) → (false || b) ≡ (b || false)
    or-false true = refl
    or-false false = refl
any-first f (suc n) = ap (λ (b : Bool). b || f (suc n)) (any-first f n) ∙ or_assoc (f 0) (any_below (λ j. f (suc j)) n) (f (suc n))
  where
    or_assoc : (a b c : Bool) → ((a || b) || c) ≡ (a || (b || c))
    or_assoc true b c = refl
    or_assoc false b c = refl

pub same-row-search : (a b : List ℤ) (n : ℕ) → length a ≡ n → length b ≡ n → same_row a b ≡ not (any_below (λ j. not (same_digit (digit a j) (digit b j))) n)
unfolding same_row any_below
same-row-search [] [] zero k l = refl
same-row-search [] [] (suc n) k l = absurd (omega arith)
same-row-search [] (y ∷ b) n k l = absurd (omega arith)
same-row-search (x ∷ a) [] n k l = absurd (omega arith)
same-row-search (x ∷ a) (y ∷ b) zero k l = absurd (omega arith)
same-row-search (x ∷ a) (y ∷ b) (suc n) k l =
    let f : ℕ → Bool = λ j. not (same_digit (digit (x ∷ a) j) (digit (y ∷ b) j)) in
    ap (λ (t : Bool). same_digit x y && t) (same-row-search a b n (omega arith) (omega arith))
    ∙ turned (same_digit x y) (any_below (λ j. f (suc j)) n)
    ∙ ap not (sym (any-first f n))
  where
    turned : (s t : Bool) → (s && not t) ≡ not (not s || t)
    turned true t = refl
    turned false t = refl

-- ---- the readers

-- a row is refused exactly where no scalar below the bound has it
reads : (row_of : ℕ → List ℤ) (value : List ℤ → ℤ) → ((s : ℕ) → s < row_bound → value (row_of s) ≡ pos s)
    → (row : List ℤ) → (no_scalar row_of (value row) row ≡ false) ↔ ((s : ℕ) × (s < row_bound) × (row ≡ row_of s))
unfolding no_scalar
reads row_of value back row = (found (value row), given)
  where
    found : (z : ℤ) → no_scalar row_of z row ≡ false → (s : ℕ) × (s < row_bound) × (row ≡ row_of s)
    found (pos s) e =
        let p : (ltb s row_bound ≡ true) × (same_row (row_of s) row ≡ true) = both (ltb s row_bound) (same_row (row_of s) row) (not-false (ltb s row_bound && same_row (row_of s) row) e) in
        (s, ltb-true s row_bound p.0, sym (same-row-eq (row_of s) row p.1))
    found (negsuc s) e = let z : ◌≡◌ {A = ℕ} 0 1 = cc in absurd (omega arith)

    given : (s : ℕ) × (s < row_bound) × (row ≡ row_of s) → no_scalar row_of (value row) row ≡ false
    given (s, l, e) =
        rw (e, back s l, lt-ltb s row_bound l, same-row-refl (row_of s))

pub naf-reads : (w : ℕ) → 2 ≤ w → (row : List ℤ) → (no_scalar (naf_row w) (row_sum 2 (digit row) 256) row ≡ false) ↔ ((s : ℕ) × (s < row_bound) × (row ≡ naf_row w s))
naf-reads w lo = reads (naf_row w) (λ l. row_sum 2 (digit l) 256) (λ s l. (naf-obeys w lo s l).sum_is)

pub radix-reads : (w : ℕ) → 4 ≤ w → w ≤ 8 → (row : List ℤ) → (no_scalar (radix_row w) (row_sum (2 ^ w) (digit row) 64) row ≡ false) ↔ ((s : ℕ) × (s < row_bound) × (row ≡ radix_row w s))
radix-reads w lo hi = reads (radix_row w) (λ l. row_sum (2 ^ w) (digit l) 64) (λ s _. radix-sum w lo hi s)
