-- Parts f 0, f 1, .. laid into lent memory one after the other: what a loop that builds rows or windows leaves.
use mathlib.Core.Path.{◌≡◌, sym, ap, ap₂, ◌∙◌}
use mathlib.Core.List.{List, ◌++◌, append_assoc, append-nil}
use Prim.Native.Nat.{ℕ, ◌+◌, ◌-◌, ◌*◌, ◌<◌, ◌≤◌}
use native.Mathlib.Nat.{add-sub_cancel_left, mul-suc, mul-zero, mul-le-mul_left}
use native.Mathlib.Numerals.{add-one}
use native.Mathlib.Omega.{arith}
use lib.ListN.{length, take, drop, length-drop, length-append, drop_of_length-le}
use lib.Seq.{take_at, drop_at, drop-drop}
use Rattle.rules.specs.Values.{part, flat}
use Rattle.rules.specs.Numbers.{cleared}
use Rattle.rules.specs.Helpers.{laid}
use Rattle.laws.proofs.Room.{cleared-rest}
use Rattle.laws.specs.Parts.{spliced, within, flat-more, flat-length, flat-part, flat-ext}

module _ {A : Type 0} (n : ℕ) (f : ℕ → List A) where
  pub laid_none : (l : List A) → laid n f 0 l ≡ l
  unfolding laid flat
  laid_none l = ap (λ (k : ℕ). drop k l) (mul-zero n)

  module _ (i : ℕ) (l : List A) (long : (j : ℕ) → j < i → length (f j) ≡ n) where
    -- one part more
    pub laid_more : spliced (n * i) n (laid n f i l) (f i) ≡ laid n f (i + 1) l
    unfolding laid
    laid_more =
        ap₂ (λ (s t : List A). s ++ (f i ++ drop n t))
        (take_at (flat f i) (drop (n * i) l) (n * i) (flat-length n f i long))
        (drop_at (flat f i) (drop (n * i) l) (n * i) (flat-length n f i long))
        ∙ sym (append_assoc (flat f i) (f i) (drop n (drop (n * i) l)))
        ∙ ap₂ ◌++◌ (sym (flat-more f i)) (drop-drop n (n * i) l ∙ ap (λ (k : ℕ). drop k l) (next n i))
      where
        next : (n i : ℕ) → n * i + n ≡ n * (i + 1)
        next n i = sym (ap (λ (k : ℕ). n * k) (add-one i) ∙ mul-suc n i)

    -- a loop's turn, as code says it: the row from n i to n i + n of memory d handed on, and coming back as ys
    pub laid-turn : (d ys : List A) → d ≡ laid n f i l → ys ≡ f i → take (n * i) d ++ (ys ++ drop (n * i + n - n * i) (drop (n * i) d)) ≡ laid n f (i + 1) l
    laid-turn d ys e q =
        ap (λ (k : ℕ). take (n * i) d ++ (ys ++ drop k (drop (n * i) d))) (add-sub_cancel_left (n * i) n)
        ∙ ap₂ (spliced (n * i) n) e q
        ∙ laid_more

    pub laid-length : n * i ≤ length l → length (laid n f i l) ≡ length l
    unfolding laid
    laid-length h = simp (length-append, length-drop) (omega (arith, flat-length n f i long))

    pub laid-part : (j : ℕ) → j < i → part n j (laid n f i l) ≡ f j
    unfolding laid
    laid-part j p =
        let le : n * j + n ≤ n * i = rw mul-suc at (mul-le-mul_left n p) in
        unfold part in (within n (n * j) (flat f i) (drop (n * i) l) (omega (arith, flat-length n f i long))) ∙ flat-part n f i j long p

    -- read again
    pub laid-front : take (n * i) (laid n f i l) ≡ flat f i
    unfolding laid
    laid-front = take_at (flat f i) (drop (n * i) l) (n * i) (flat-length n f i long)

    -- all of l
    pub laid-all : length l ≡ n * i → laid n f i l ≡ flat f i
    unfolding laid
    laid-all e = ap (λ (t : List A). flat f i ++ t) (drop_of_length-le l {i = n * i} (omega arith)) ∙ append-nil (flat f i)

    -- the same but for what is to be cleared
    pub laid-cleared : (z : A) (m : ℕ) → n * i ≤ length l → n * i ≤ m → cleared z m (laid n f i l) ≡ cleared z m l
    unfolding laid
    laid-cleared z m h g =
        let e : n * i + (m - n * i) ≡ m = omega arith in
        cleared-rest z m (laid n f i l) l (laid-length h)
        (ap (λ (k : ℕ). drop k (laid n f i l)) (sym e)
        ∙ sym (drop-drop (m - n * i) (n * i) (laid n f i l))
        ∙ ap (drop (m - n * i)) (drop_at (flat f i) (drop (n * i) l) (n * i) (flat-length n f i long))
        ∙ drop-drop (m - n * i) (n * i) l
        ∙ ap (λ (k : ℕ). drop k l) e)

pub laid-ext : {A : Type 0} (n : ℕ) {f g : ℕ → List A} (i : ℕ) (l : List A) → ((j : ℕ) → j < i → f j ≡ g j) → laid n f i l ≡ laid n g i l
unfolding laid
laid-ext {A} n i l h = ap (λ (t : List A). t ++ drop (n * i) l) (flat-ext i h)
