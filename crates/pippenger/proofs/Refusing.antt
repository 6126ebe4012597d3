-- What the call knows of lent lists where all tests have passed.
use mathlib.Core.Path.{◌≡◌, sym}
use mathlib.Core.Bool.{Bool, true, false, cond}
use mathlib.Core.List.{List}
use Prim.Native.Nat.{ℕ, ◌-◌, ◌*◌, ◌^◌, ◌<◌, ◌≤◌}
use native.Mathlib.Omega.{arith}
use lib.ListN.{length}
use lib.Dec.{ltb}
use borrow.Author.Tests.{ltb-false}
use Rattle.rules.specs.Values.{point_at, scalar_at}
use Rattle.rules.specs.Group.{L}
use Rattle.rules.specs.Numbers.{most, scalar_bound, first}
use Rattle.rules.specs.Lists.{pairs, shorter, any_flag, any_point, bad_lists}
use Rattle.rules.specs.Asks.{flagged_contents}
use Rattle.rules.specs.Engines.{bucket_width, picked_by, bucket_limbs, pippenger_refusal}
use Rattle.laws.specs.Conditions.{or_split, first-none}
use Rattle.lent.proofs.Passed.{small, there-under, pairs-scalars, pairs-points, pairs-few}

-- the widths that are picked
pub picked : {w : ℕ} (c : ℕ) → w ≡ bucket_width c → (6 ≤ w) × (w ≤ 8)
unfolding bucket_width
picked c e = rw e (go (ltb c 500) (ltb c 800))
  where
    go : (s t : Bool) → (6 ≤ cond s 6 (cond t 7 8)) × (cond s 6 (cond t 7 8) ≤ 8)
    go true t = (omega arith, omega arith)
    go false true = (omega arith, omega arith)
    go false false = (omega arith, omega arith)

-- the buckets' limbs, as the code counts them
pub limbs-are : {w v n : ℕ} → w ≡ v → n ≡ 2 ^ (w - 1) → 4 * n ≡ bucket_limbs v
unfolding bucket_limbs
limbs-are ew en = rw (en, ew)

-- 6, 7 and 8, by the pairs as the code has them
pub contents-is : {r m n : ℕ} (ss ps fs : List ℕ) → m ≡ n → r ≡ first (flagged_contents ss ps fs m) → r ≡ first (flagged_contents ss ps fs n)
contents-is ss ps fs e g = rw (← e) g

-- what is known where all have passed: m pairs at the width w, room of d digits and b limbs
pub record Ready (ss ps : List ℕ) (m w d b : ℕ) : Type 0 where
  pub low : 6 ≤ w
  pub high : w ≤ 8
  pub few : m ≤ most
  pub scalars : 32 * m ≤ length ss
  pub points : 4 * m ≤ length ps
  pub digits : 64 * m ≤ d
  pub room : bucket_limbs w ≤ b
  pub small : (i : ℕ) → i < m → scalar_at ss i < scalar_bound
  pub members : (i : ℕ) → i < m → point_at ps i < L

pub ready : {ss ps : List ℕ} (fs : List ℕ) {m w d b : ℕ} → m ≡ pairs ss ps → w ≡ bucket_width (picked_by ss) → pippenger_refusal ss ps fs d b ≡ 0 → Ready ss ps m w d b
unfolding pippenger_refusal shorter bad_lists
ready {ss} {ps} fs em ew e =
    let p₁ = first-none _ _ _ (λ q. omega arith) (sym e) in
    let p₂ = first-none _ _ _ (λ q. omega arith) p₁.1 in
    let p₃ = first-none _ _ _ (λ q. omega arith) p₂.1 in
    let p₄ = first-none _ _ _ (λ q. omega arith) p₃.1 in
    let p₅ = first-none _ _ _ (λ q. omega arith) p₄.1 in
    let p₆ = first-none _ _ _ (λ q. omega arith) p₅.1 in
    let long = or_split _ _ p₃.0 in
    let wide = picked _ ew in
    record {
      low = wide.0;
      high = wide.1;
      few = rw em (pairs-few ss ps p₂.0);
      scalars = omega (arith, em, pairs-scalars ss ps);
      points = omega (arith, em, pairs-points ss ps);
      digits = rw em (ltb-false _ _ long.0);
      room = rw ew (ltb-false _ _ long.1);
      small = λ i h. small ss i p₄.0 (omega (arith, h, em, pairs-scalars ss ps));
      members = λ i h. there-under ps fs _ i p₆.0 (or_split (any_flag fs) (any_point ps fs) p₅.0).1 (rw em at h) (omega (arith, h, em, pairs-points ss ps));
    }
