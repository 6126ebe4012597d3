-- The loop that lays parts into lent room, each put into its own place: before it, one part more, after it, and what it counts.
use mathlib.Core.Path.{◌≡◌, sym, ap, ap₂, ◌∙◌}
use mathlib.Core.List.{List, ◌++◌}
use Prim.Native.Nat.{ℕ, suc, ◌+◌, ◌-◌, ◌*◌, ◌/◌, ◌<◌, ◌≤◌, min}
use native.Mathlib.Nat.{le_trans, le_antisymm, min-le_right, min-eq_left, mul-le-mul_left, mul-le-mul_right, mul-div-le, mul-suc, mul_comm, le-div_iff_mul-le}
use native.Mathlib.Numerals.{add-one}
use native.Mathlib.Omega.{arith}
use lib.ListN.{length, take, drop}
use Rattle.rules.specs.Values.{part}
use Rattle.rules.specs.Lists.{put}
use Rattle.rules.specs.Helpers.{laid, fitting}
use Rattle.laws.specs.Parts.{part-is, part_length}
use Rattle.laws.proofs.Laid.{laid_none, laid-turn, laid-length}
use Rattle.laws.proofs.Puts.{put_same}
use Rattle.laws.specs.Running.{room}

-- what is counted by a at each of i parts, and that it can be
pub counted-more : (a i : ℕ) {x y : ℕ} → x ≡ a * i → y ≡ a → x + y ≡ a * (i + 1)
counted-more a i e f = ap₂ ◌+◌ e f ∙ sym (ap (λ (k : ℕ). a * k) (add-one i) ∙ mul-suc a i)

pub counted-fits : (a u i m k : ℕ) {x y : ℕ} → a ≤ u → i < m → u * m ≤ k → x ≡ a * i → y ≡ a → x + y ≤ k
counted-fits a u i m k le p h e f = rw (counted-more a i e f, add-one i) (le_trans (mul-le-mul_right (suc i) le) (le_trans (mul-le-mul_left u p) h))

module _ {A : Type 0} (u n : ℕ) (l : List A) where
  pub fitting-room : u * fitting u n l ≤ length l
  unfolding fitting
  fitting-room = le_trans (mul-le-mul_left u (min-le_right n _)) (mul-div-le (length l) u)

  -- as code counts: of n, those that there are and have room
  pub fitting-is : (c : ℕ) {k m : ℕ} → k ≡ min n c → m ≡ min k (length l / u) → m ≡ fitting u (min n c) l
  unfolding fitting
  fitting-is c e f = f ∙ ap (λ (k : ℕ). min k (length l / u)) e

  pub fitting-all : 0 < u → u * n ≤ length l → fitting u n l ≡ n
  unfolding fitting
  fitting-all some h = min-eq_left ((le-div_iff_mul-le some).1 (rw (mul_comm n u) h))

-- m parts f 0, f 1, .. of u places each, into l₀
module _ {A : Type 0} (u : ℕ) (f : ℕ → List A) (m : ℕ) (l₀ : List A) where
  -- i of them are laid
  pub record Laying (l : List A) (i : ℕ) : Type 0 where
    pub place : i ≤ m
    pub parts : l ≡ laid u f i l₀

  pub laying-none : Laying l₀ 0
  laying-none = record { place = omega arith; parts = sym (laid_none u f l₀) }

  pub laying-end : {l : List A} {i : ℕ} → Laying l i → m ≤ i → l ≡ laid u f m l₀
  laying-end h g = h.parts ∙ ap (λ (k : ℕ). laid u f k l₀) (le_antisymm h.place g)

  module _ (long : (i : ℕ) → length (f i) ≡ u) (fits : u * m ≤ length l₀) {l : List A} {i : ℕ} (h : Laying l i) where
    pub laying-long : length l ≡ length l₀
    laying-long = ap length h.parts ∙ laid-length u f i l₀ (λ j _. long j) (le_trans (mul-le-mul_left u h.place) fits)

    pub laying-room : i < m → u * i + u ≤ length l
    laying-room p = rw laying-long (room u i m (length l₀) p fits)

    pub laying-more : i < m → {x ys : List A} → x ≡ f i → ys ≡ put x (take (u * i + u - u * i) (drop (u * i) l))
        → Laying (take (u * i) l ++ (ys ++ drop (u * i + u - u * i) (drop (u * i) l))) (i + 1)
    laying-more p {x} {ys} e g = record { place = omega arith; parts = laid-turn u f i l₀ (λ j _. long j) l ys h.parts row }
      where
        row : ys ≡ f i
        row = g ∙ ap₂ put e (part-is u i l) ∙ put_same (f i) (part u i l) (part_length u i l (laying-room p) ∙ sym (long i))
