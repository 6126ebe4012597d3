-- What a call knows where its tests have passed.
use mathlib.Core.Path.{◌≡◌, sym, ◌∙◌}
use mathlib.Core.Bool.{false, ◌||◌}
use mathlib.Core.List.{List}
use Prim.Native.Nat.{ℕ, ◌≤◌}
use native.Mathlib.Omega.{arith}
use lib.ListN.{length}
use Rattle.rules.specs.Numbers.{most, most_static, first, condition}
use Rattle.rules.specs.Lists.{beyond_most, scalar_count, lists_too_many}
use Rattle.rules.specs.Engines.{mixed_lists}
use Rattle.laws.specs.Answers.{first_done}
use Rattle.laws.specs.Conditions.{or_split}
use Rattle.lent.proofs.Passed.{few}

-- 2 has passed: no more rows of either kind than the limit
pub few-rows : (ts sss ss ps : List ℕ) → (beyond_most most_static 256 (length ts) || beyond_most most 32 (length sss) || lists_too_many ss ps) ≡ false
    → (scalar_count sss ≤ most) × (scalar_count ss ≤ most)
unfolding lists_too_many
few-rows ts sss ss ps e =
    let o = or_split (beyond_most most_static 256 (length ts) || beyond_most most 32 (length sss)) (lists_too_many ss ps) e in (
      few most 32 (length sss) (or_split (beyond_most most_static 256 (length ts)) (beyond_most most 32 (length sss)) o.0).1,
      few most 32 (length ss) (or_split (beyond_most most 32 (length ss)) (beyond_most most 4 (length ps)) o.1).0,
    )

pub lists-few : (ts sss ss ps fs : List ℕ) {n : ℕ} → n ≡ first (mixed_lists ts sss ss ps fs) → n ≡ 0 → (scalar_count sss ≤ most) × (scalar_count ss ≤ most)
unfolding condition
lists-few ts sss ss ps fs e z = few-rows ts sss ss ps ((first_done (mixed_lists ts sss ss ps fs) (omega arith)).0 (sym e ∙ z) 2)
