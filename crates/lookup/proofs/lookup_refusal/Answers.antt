-- The first test that holds gives the number.
use mathlib.Core.Path.{sym, ap, ◌∙◌}
use mathlib.Core.Bool.{Bool, true, false, ◌||◌}
use Rattle.rules.specs.Numbers.{as_number, number_of}
use Rattle.lookup.proofs.Lookups.{other_length, tested}
use Rattle.lookup.proofs.lookup_refusal.Goals as goal

pub returns-then-window-n : goal.returns-then-window-n
unfolding as_number number_of
returns-then-window-n c = other_length _ _ _ c.if-window-n.true

pub returns-then-any_over-outside : goal.returns-then-any_over-outside
unfolding as_number number_of
returns-then-any_over-outside c = tested _ _ _ true c.if-window-n.false (ap (λ (o : Bool). o || c.args.outside) (sym c.any_over.ensures) ∙ c.if-any_over-outside.true)

pub returns : goal.returns
unfolding as_number number_of
returns c = tested _ _ _ false c.if-window-n.false (ap (λ (o : Bool). o || c.args.outside) (sym c.any_over.ensures) ∙ c.if-any_over-outside.false)
