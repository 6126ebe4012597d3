-- Working room: what clearing does and composes to.
use mathlib.Core.Path.{◌≡◌, refl, sym, ◌∙◌, ap}
use mathlib.Core.List.{List, [], ◌∷◌}
use Prim.Native.Nat.{ℕ, zero, suc, ◌+◌, ◌<◌, ◌≤◌}
use native.Mathlib.Numerals.{add-one}
use native.Mathlib.Omega.{arith}
use lib.ListN.{length, set, drop}
use borrow.Author.Tests.{ne_eqb}
use Rattle.rules.specs.Numbers.{given, cleared, room_after}

module _ {A : Type 0} (z : A) where
  pub cleared-none : (l : List A) → cleared z 0 l ≡ l
  unfolding cleared
  cleared-none l = refl

  pub cleared-length : (n : ℕ) (l : List A) → length (cleared z n l) ≡ length l
  unfolding cleared
  cleared-length zero l = refl
  cleared-length (suc n) [] = refl
  cleared-length (suc n) (x ∷ l) = ap suc (cleared-length n l)

  more : (i : ℕ) (l : List A) → i < length l → set (cleared z i l) i z ≡ cleared z (suc i) l
  unfolding cleared
  more i [] h = absurd (omega arith)
  more zero (x ∷ l) h = refl
  more (suc i) (x ∷ l) h = ap (λ (t : List A). z ∷ t) (more i l (omega arith))

  -- one place more
  pub cleared_more : (i : ℕ) (l : List A) → i < length l → set (cleared z i l) i z ≡ cleared z (i + 1) l
  cleared_more i l h = more i l h ∙ ap (λ (n : ℕ). cleared z n l) (sym (add-one i))

  -- past the end nothing is left to clear
  pub cleared-past : (n k : ℕ) (l : List A) → length l ≤ n → length l ≤ k → cleared z n l ≡ cleared z k l
  unfolding cleared
  cleared-past zero zero l h g = refl
  cleared-past zero (suc k) [] h g = refl
  cleared-past (suc n) zero [] h g = refl
  cleared-past (suc n) (suc k) [] h g = refl
  cleared-past zero (suc k) (x ∷ l) h g = absurd (omega arith)
  cleared-past (suc n) zero (x ∷ l) h g = absurd (omega arith)
  cleared-past (suc n) (suc k) (x ∷ l) h g = ap (λ (t : List A). z ∷ t) (cleared-past n k l (omega arith) (omega arith))

  -- a store into what is to be cleared
  pub cleared-set : (n : ℕ) (l : List A) (i : ℕ) (v : A) → i < n → cleared z n (set l i v) ≡ cleared z n l
  unfolding cleared
  cleared-set zero l i v h = absurd (omega arith)
  cleared-set (suc n) [] i v h = refl
  cleared-set (suc n) (x ∷ l) zero v h = refl
  cleared-set (suc n) (x ∷ l) (suc i) v h = ap (λ (t : List A). z ∷ t) (cleared-set n l i v (omega arith))

  -- lists that agree behind what is to be cleared
  pub cleared-rest : (n : ℕ) (l k : List A) → length l ≡ length k → drop n l ≡ drop n k → cleared z n l ≡ cleared z n k
  unfolding cleared
  cleared-rest zero l k e d = d
  cleared-rest (suc n) [] [] e d = refl
  cleared-rest (suc n) [] (y ∷ k) e d = absurd (omega arith)
  cleared-rest (suc n) (x ∷ l) [] e d = absurd (omega arith)
  cleared-rest (suc n) (x ∷ l) (y ∷ k) e d = ap (λ (t : List A). z ∷ t) (cleared-rest n l k (omega arith) d)

  -- clearing more after clearing
  pub cleared-again : (k n : ℕ) (l : List A) → k ≤ n → cleared z n (cleared z k l) ≡ cleared z n l
  unfolding cleared
  cleared-again zero n l h = refl
  cleared-again (suc k) zero l h = absurd (omega arith)
  cleared-again (suc k) (suc n) [] h = refl
  cleared-again (suc k) (suc n) (x ∷ l) h = ap (λ (t : List A). z ∷ t) (cleared-again k n l (omega arith))

  -- lists that agree but for what is to be cleared are as long
  pub cleared-long : (n : ℕ) (l k : List A) → cleared z n l ≡ cleared z n k → length l ≡ length k
  cleared-long n l k e = sym (cleared-length n l) ∙ ap length e ∙ cleared-length n k

  -- room after a call: refused, done
  pub room-refused : (n need : ℕ) (l : List A) → (n ≡ 0 → ⊥) → room_after z n need l ≡ l
  unfolding room_after given
  room-refused n need l h = rw (ne_eqb n 0 h)

  pub room-done : (need : ℕ) (l : List A) → room_after z 0 need l ≡ cleared z need l
  unfolding room_after given
  room-done need l = refl
