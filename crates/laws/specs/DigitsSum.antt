-- Signed digits as two naturals each, and a row's weighted sum as two sums of naturals: what its digits above 0 weigh, and what those below 0 weigh.
use Rattle.std.specs.Prelude.{◌≡◌, refl, List, [], ◌∷◌, ℕ, zero, suc, ◌+◌, ◌*◌, ◌%◌, ◌^◌, ◌<◌, length, get_or, drop, replicate, ℤ, pos, negsuc, neg_ℤ, ◌+ℤ◌, ◌-ℤ◌, ◌*ℤ◌}
use Rattle.std.proofs.Common.{sym, ap, ◌∙◌, mul-zero, one-mul, mul-add, mul_assoc, arith}
use Rattle.std.proofs.Math.Nat.{pow-zero, pow-succ'}
use Rattle.std.proofs.Math.Seq.{drop-length}
use Rattle.std.proofs.Math.Arith.{digits_mod}
use Rattle.std.proofs.Math.IntN.{+ℤ_assoc, +ℤ_comm, +ℤ_idl, +ℤ_idr, neg_ℤ-+ℤ, -ℤ-+ℤ_cancel, +ℤ-neg_ℤ_cancel, pos-*ℤ-pos, pos-*ℤ-negsuc}
use Rattle.rules.specs.Group.{sum_below, total}
use Rattle.rules.specs.Rows.{digit, row_sum}

-- ---- a digit as two naturals

-- what a digit is above 0, and what it is below 0
abbrev pub plus : ℤ → ℕ
plus (pos n) = n
plus (negsuc n) = 0

abbrev pub minus : ℤ → ℕ
minus (pos n) = 0
minus (negsuc n) = suc n

pub same_parts : (x y : ℤ) → plus x + minus y ≡ plus y + minus x → x ≡ y
same_parts (pos a) (pos b) e = ap pos (omega arith)
same_parts (pos a) (negsuc b) e = absurd (omega arith)
same_parts (negsuc a) (pos b) e = absurd (omega arith)
same_parts (negsuc a) (negsuc b) e = ap negsuc (omega arith)

-- ---- a row's weighted sum as two sums of naturals

-- what the digits' parts weigh, digit j weighing B ^ j
unfoldable pub weigh : (ℤ → ℕ) → ℕ → List ℤ → ℕ
weigh f B [] = 0
weigh f B (d ∷ l) = f d + B * weigh f B l

abbrev parts : (ℤ → ℕ) → ℕ → (ℕ → ℤ) → ℕ → ℕ
parts f B d n = total (λ j. B ^ j * f (d j)) n

term : (p : ℕ) (d : ℤ) → pos p *ℤ d ≡ pos (p * plus d) -ℤ pos (p * minus d)
term p (pos a) = pos-*ℤ-pos p a ∙ rw mul-zero (sym (+ℤ_idr (pos (p * a))))
term p (negsuc a) = pos-*ℤ-negsuc p a ∙ rw mul-zero (sym (+ℤ_idl (neg_ℤ (pos (p * suc a)))))

four : (a b c d : ℤ) → (a +ℤ b) +ℤ (c +ℤ d) ≡ (a +ℤ c) +ℤ (b +ℤ d)
four a b c d =
    +ℤ_assoc a b (c +ℤ d)
    ∙ ap (λ x. a +ℤ x) (sym (+ℤ_assoc b c d) ∙ ap (λ x. x +ℤ d) (+ℤ_comm b c) ∙ +ℤ_assoc c b d)
    ∙ sym (+ℤ_assoc a c (b +ℤ d))

parted : (B : ℕ) (d : ℕ → ℤ) (n : ℕ) → row_sum B d n ≡ pos (parts plus B d n) -ℤ pos (parts minus B d n)
unfolding row_sum sum_below total
parted B d zero = refl
parted B d (suc n) =
    let u : ℕ = parts plus B d n in
    let v : ℕ = parts minus B d n in
    let p : ℕ = B ^ n * plus (d n) in
    let m : ℕ = B ^ n * minus (d n) in
    ap (λ x. x +ℤ pos (B ^ n) *ℤ d n) (parted B d n)
    ∙ ap (λ x. (pos u -ℤ pos v) +ℤ x) (term (B ^ n) (d n))
    ∙ four (pos u) (neg_ℤ (pos v)) (pos p) (neg_ℤ (pos m))
    ∙ ap (λ x. pos (u + p) +ℤ x) (sym (neg_ℤ-+ℤ (pos v) (pos m)))

parts-cons : (f : ℤ → ℕ) (B : ℕ) (d : ℤ) (l : List ℤ) (n : ℕ) → parts f B (digit (d ∷ l)) (suc n) ≡ f d + B * parts f B (digit l) n
unfolding total
parts-cons f B d l zero = rw (mul-zero B, pow-zero B, one-mul (f d)) (omega arith)
parts-cons f B d l (suc n) =
    let m : B ^ suc n * f (digit l n) ≡ B * (B ^ n * f (digit l n)) = rw (pow-succ' B n) (mul_assoc B (B ^ n) (f (digit l n))) in
    rw (mul-add B (parts f B (digit l) n)) (omega (arith, parts-cons f B d l n, m))

parts-weigh : (f : ℤ → ℕ) (B : ℕ) (l : List ℤ) → parts f B (digit l) (length l) ≡ weigh f B l
unfolding total weigh
parts-weigh f B [] = refl
parts-weigh f B (d ∷ l) = parts-cons f B d l (length l) ∙ ap (λ (k : ℕ). f d + B * k) (parts-weigh f B l)

sum-parted : (B : ℕ) (l : List ℤ) (n : ℕ) → length l ≡ n → row_sum B (digit l) n ≡ pos (weigh plus B l) -ℤ pos (weigh minus B l)
sum-parted B l n e = rw (← e, ← parts-weigh plus B l, ← parts-weigh minus B l) (parted B (digit l) (length l))

pos_inj : (a b : ℕ) → pos a ≡ pos b → a ≡ b
pos_inj a b e = cc

-- a row's sum is s exactly where its digits above 0 weigh s more than those below
pub balance : (B : ℕ) (l : List ℤ) (n s : ℕ) → length l ≡ n → row_sum B (digit l) n ≡ pos s → weigh plus B l ≡ s + weigh minus B l
balance B l n s k e =
    pos_inj (weigh plus B l) (s + weigh minus B l)
    (sym (-ℤ-+ℤ_cancel (pos (weigh plus B l)) (pos (weigh minus B l)))
    ∙ ap (λ x. x +ℤ pos (weigh minus B l)) (sym (sum-parted B l n k) ∙ e))

pub sum_of : (B : ℕ) (l : List ℤ) (n s : ℕ) → length l ≡ n → weigh plus B l ≡ s + weigh minus B l → row_sum B (digit l) n ≡ pos s
sum_of B l n s k e =
    sum-parted B l n k
    ∙ ap (λ x. pos x -ℤ pos (weigh minus B l)) e
    ∙ +ℤ-neg_ℤ_cancel (pos s) (pos (weigh minus B l))

pub get_or-zeros : (n j : ℕ) → get_or (replicate n (pos 0)) j (pos 0) ≡ pos 0
get_or-zeros zero j = refl
get_or-zeros (suc n) zero = refl
get_or-zeros (suc n) (suc j) = get_or-zeros n j

-- k digits of 0 at the low end
pub weigh-zeros : (f : ℤ → ℕ) → f (pos 0) ≡ 0 → (B : ℕ) (l : List ℤ) (k : ℕ) → ((j : ℕ) → j < k → digit l j ≡ pos 0) → weigh f B l ≡ B ^ k * weigh f B (drop k l)
unfolding weigh
weigh-zeros f z B l zero h = rw (pow-zero B, one-mul (weigh f B l))
weigh-zeros f z B [] (suc k) h = sym (mul-zero (B ^ suc k))
weigh-zeros f z B (d ∷ l) (suc k) h =
    let e : f d ≡ 0 = ap f (h 0 (omega arith)) ∙ z in
    rw (e, weigh-zeros f z B l k (λ j q. h (suc j) (omega arith)), pow-succ' B k, mul_assoc B (B ^ k) (weigh f B (drop k l))) (omega arith)

-- and nothing else
pub weigh-none : (f : ℤ → ℕ) → f (pos 0) ≡ 0 → (B : ℕ) (l : List ℤ) → ((j : ℕ) → digit l j ≡ pos 0) → weigh f B l ≡ 0
unfolding weigh
weigh-none f z B l h =
    weigh-zeros f z B l (length l) (λ j _. h j) ∙ ap (λ (x : List ℤ). B ^ length l * weigh f B x) (drop-length l) ∙ mul-zero (B ^ length l)

-- two rows weigh the same
abbrev pub Level : ℕ → List ℤ → List ℤ → Type 0
Level B a b = weigh plus B a + weigh minus B b ≡ weigh plus B b + weigh minus B a

pub level : (B : ℕ) (a b : List ℤ) (n s : ℕ) → length a ≡ n → length b ≡ n → row_sum B (digit a) n ≡ pos s → row_sum B (digit b) n ≡ pos s → Level B a b
level B a b n s k l e f = omega (arith, balance B a n s k e, balance B b n s l f)

-- two sums that are the same, of heads below the base, have the same head
pub same_low : (B q q' r r' : ℕ) → r < B → r' < B → q * B + r ≡ q' * B + r' → r ≡ r'
same_low B q q' r r' a b e = sym (digits_mod q a) ∙ ap (λ (x : ℕ). x % B) e ∙ digits_mod q' b
