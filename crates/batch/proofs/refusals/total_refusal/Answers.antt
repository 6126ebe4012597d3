-- The tests in their order, each by what it answered.
use mathlib.Core.Path.{sym, ap₂, ◌∙◌}
use mathlib.Core.Bool.{◌||◌}
use native.Mathlib.Omega.{arith}
use Rattle.std.proofs.lemmas.Result.{err_from_is_err_and}
use Rattle.laws.specs.Results.{passed-as-0, handed-on}
use Rattle.rules.specs.Numbers.{as_number, number_of}
use Rattle.rules.specs.Batch.{total_refusal}
use Rattle.laws.specs.Conditions.{or_left, or-none, first-here, first_next, first-end, joined-here, joined-next}
use Rattle.batch.proofs.refusals.total_refusal.Goals as goal

pub returns-in_err-memory : goal.returns-in_err-memory
unfolding total_refusal
returns-in_err-memory c =
    let p = err_from_is_err_and c.from_residual.result c.from_residual.ensures.1 in
    let r = handed-on p.1 p.2 c.in_err-memory.was c.memory.ensures in
    joined-here _ _ r.number r.not-0

pub returns-then-any_wild : goal.returns-then-any_wild
unfolding total_refusal as_number number_of
returns-then-any_wild c =
    joined-next _ _ (omega arith) c.memory.ensures (passed-as-0 c.in_ok-memory.was) (first-here _ _ _ (or_left _ _ (sym c.any_wild.ensures ∙ c.if-any_wild.true)))

pub returns-then-any_over : goal.returns-then-any_over
unfolding total_refusal as_number number_of
returns-then-any_over c =
    joined-next _ _ (omega arith) c.memory.ensures (passed-as-0 c.in_ok-memory.was)
    (first-here _ _ _ (ap₂ ◌||◌ (sym c.any_wild.ensures ∙ c.if-any_wild.false) (sym c.any_over.ensures ∙ c.if-any_over.true)))

pub returns : goal.returns
unfolding total_refusal as_number number_of
returns c =
    joined-next _ _ (omega arith) c.memory.ensures (passed-as-0 c.in_ok-memory.was)
    (first_next _ _ _ _ (or-none _ _ (sym c.any_wild.ensures ∙ c.if-any_wild.false) (sym c.any_over.ensures ∙ c.if-any_over.false)) first-end)
