-- Each refusal by its place in the declaration.
use mathlib.Core.Path.{◌≡◌, refl}
use Prim.Native.Nat.{◌+◌}
use Rattle.rules.specs.declared.Refusal.{Refusal}
use Rattle.rules.specs.declared.Refusal.TheVariants.{NotWhole, TooMany, BadWidth, NoSlot, BadRoom, BigScalar, BadPoint, AbsentPoint, Unequal, BadDigit}
use Rattle.rules.specs.Numbers.{number_of}
use Rattle.rules.proofs.Refusal.number.Goals as goal

pub returns : goal.returns
unfolding number_of
returns c = by_case c.args.self
  where
    by_case : (r : Refusal) → denote.Enum.Declared.tag_of Rattle.rules.specs.contracts.Refusal.the_type r + 1 ≡ number_of r
    by_case NotWhole = refl
    by_case TooMany = refl
    by_case BadWidth = refl
    by_case NoSlot = refl
    by_case BadRoom = refl
    by_case BigScalar = refl
    by_case BadPoint = refl
    by_case AbsentPoint = refl
    by_case Unequal = refl
    by_case BadDigit = refl
