-- What each call knows of lent lists where all tests have passed.
use mathlib.Core.Path.{◌≡◌, sym}
use mathlib.Core.Bool.{Bool, false, ◌||◌}
use mathlib.Core.List.{List}
use Prim.Native.Nat.{ℕ, ◌*◌, ◌<◌, ◌≤◌}
use native.Mathlib.Omega.{arith}
use lib.ListN.{length}
use borrow.Author.Tests.{ltb-false}
use Rattle.rules.specs.Values.{point_at, scalar_at}
use Rattle.rules.specs.Group.{L}
use Rattle.rules.specs.Numbers.{most, scalar_bound}
use Rattle.rules.specs.Lists.{point_count, pairs, lists_too_many, shorter, any_big, any_flag, any_point, bad_lists}
use Rattle.rules.specs.Engines.{radix_straus_refusal, naf_straus_refusal}
use Rattle.laws.specs.Conditions.{or_split, first-none}
use Rattle.lent.proofs.Passed.{small, under, there-under, pairs-scalars, pairs-points, pairs-few}

-- 5: too few digits for rows of u, or too few limbs
module _ (u : ℕ) (ss ps : List ℕ) (d l : ℕ) where
  abbrev short : Bool
  short = shorter (u * pairs ss ps) d || shorter (32 * pairs ss ps) l

  module _ {m : ℕ} (e : m ≡ pairs ss ps) where
    long-told : short ≡ false → (u * m ≤ d) × (32 * m ≤ l)
    unfolding shorter
    long-told q = let s = or_split _ _ q in (rw e (ltb-false _ _ s.0), rw e (ltb-false _ _ s.1))

-- what is known where all have passed: m pairs, room of d digits, u a row, and of l limbs
pub record Ready (u : ℕ) (ss ps : List ℕ) (m d l : ℕ) : Type 0 where
  pub pairs-are : m ≡ pairs ss ps
  pub few : m ≤ most
  pub scalars : 32 * m ≤ length ss
  pub digits : u * m ≤ d
  pub limbs : 32 * m ≤ l
  pub small-ones : (i : ℕ) → i < m → scalar_at ss i < scalar_bound
  pub members : (i : ℕ) → i < m → point_at ps i < L

module _ (ss ps : List ℕ) {m : ℕ} (d l : ℕ) (e : m ≡ pairs ss ps) where
  ready : (u : ℕ) → lists_too_many ss ps ≡ false → short u ss ps d l ≡ false → any_big ss ≡ false → ((i : ℕ) → i < point_count ps → point_at ps i < L) → Ready u ss ps m d l
  ready u few long big under =
      let room = long-told u ss ps d l e long in
      record {
        pairs-are = e;
        few = rw e (pairs-few ss ps few);
        scalars = omega (arith, e, pairs-scalars ss ps);
        digits = room.0;
        limbs = room.1;
        small-ones = λ i h. small ss i big (omega (arith, h, e, pairs-scalars ss ps));
        members = λ i h. under i (omega (arith, h, e, pairs-points ss ps));
      }

  pub radix-ready : radix_straus_refusal ss ps d l ≡ 0 → Ready 64 ss ps m d l
  unfolding radix_straus_refusal
  radix-ready z =
      let p₁ = first-none _ _ _ (λ q. omega arith) (sym z) in
      let p₂ = first-none _ _ _ (λ q. omega arith) p₁.1 in
      let p₃ = first-none _ _ _ (λ q. omega arith) p₂.1 in
      let p₄ = first-none _ _ _ (λ q. omega arith) p₃.1 in
      let p₅ = first-none _ _ _ (λ q. omega arith) p₄.1 in
      ready 64 p₂.0 p₃.0 p₄.0 (λ i h. under ps i p₅.0 h)

  pub naf-ready : (fs : List ℕ) → naf_straus_refusal ss ps fs d l ≡ 0 → Ready 256 ss ps m d l
  unfolding naf_straus_refusal bad_lists
  naf-ready fs z =
      let p₁ = first-none _ _ _ (λ q. omega arith) (sym z) in
      let p₂ = first-none _ _ _ (λ q. omega arith) p₁.1 in
      let p₃ = first-none _ _ _ (λ q. omega arith) p₂.1 in
      let p₄ = first-none _ _ _ (λ q. omega arith) p₃.1 in
      let p₅ = first-none _ _ _ (λ q. omega arith) p₄.1 in
      let p₆ = first-none _ _ _ (λ q. omega arith) p₅.1 in
      ready 256 p₂.0 p₃.0 p₄.0 (λ i h. there-under ps fs _ i p₆.0 (or_split (any_flag fs) (any_point ps fs) p₅.0).1 h h)
