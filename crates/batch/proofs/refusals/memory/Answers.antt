-- The tests in their order, each by what it answered.
use mathlib.Core.Path.{◌≡◌, sym, ap, ◌∙◌}
use mathlib.Core.Bool.{Bool, ◌||◌}
use Prim.Native.Nat.{ℕ, ◌*◌, ◌/◌}
use Rattle.rules.specs.Numbers.{as_number, number_of}
use Rattle.rules.specs.Lists.{not_in, other_than}
use Rattle.rules.specs.Batch.{memory_not_whole}
use Rattle.laws.specs.Conditions.{first-here, first_next, first-end}
use Rattle.batch.proofs.refusals.memory.Goals as goal

-- the test of 1, once its call has answered
whole : (d w : ℕ) (n : Bool) → n ≡ not_in 256 d → (n || other_than (32 * (d / 256)) w) ≡ memory_not_whole d w
unfolding memory_not_whole
whole d w n e = ap (λ (b : Bool). b || other_than (32 * (d / 256)) w) e

pub returns-then-not_whole-windows : goal.returns-then-not_whole-windows
unfolding other_than as_number number_of
returns-then-not_whole-windows c = first-here _ _ _ (sym (whole _ _ _ c.not_whole.ensures) ∙ c.if-not_whole-windows.true)

pub returns-then-too_many : goal.returns-then-too_many
unfolding other_than as_number number_of
returns-then-too_many c =
    first_next _ _ _ _ (sym (whole _ _ _ c.not_whole.ensures) ∙ c.if-not_whole-windows.false) (first-here _ _ _ (sym c.too_many.ensures ∙ c.if-too_many.true))

pub returns : goal.returns
unfolding other_than as_number number_of
returns c =
    first_next _ _ _ _ (sym (whole _ _ _ c.not_whole.ensures) ∙ c.if-not_whole-windows.false) (first_next _ _ _ _ (sym c.too_many.ensures ∙ c.if-too_many.false) first-end)
