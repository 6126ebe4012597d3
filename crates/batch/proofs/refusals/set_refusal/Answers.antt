-- The tests in their order, each by what it answered.
use mathlib.Core.Path.{sym, ◌∙◌}
use native.Mathlib.Omega.{arith}
use borrow.Author.Tests.{le-leb, lt-leb}
use Rattle.std.proofs.lemmas.Result.{err_from_is_err_and}
use Rattle.laws.specs.Results.{passed-as-0, handed-on}
use Rattle.rules.specs.Numbers.{as_number, number_of}
use Rattle.rules.specs.Batch.{edge_refusal}
use Rattle.laws.specs.Conditions.{first-here, first_next, first-end, joined-here, joined-next}
use Rattle.lent.proofs.Passed.{long, not-long}
use Rattle.batch.proofs.refusals.set_refusal.Goals as goal

pub returns-then-scalar-ne-SCALAR_BYTES : goal.returns-then-scalar-ne-SCALAR_BYTES
unfolding edge_refusal as_number number_of
returns-then-scalar-ne-SCALAR_BYTES c = first-here _ _ _ (not-long _ c.if-scalar-ne-SCALAR_BYTES.true)

pub returns-in_err-memory : goal.returns-in_err-memory
unfolding edge_refusal
returns-in_err-memory c =
    let p = err_from_is_err_and c.from_residual.result c.from_residual.ensures.1 in
    let r = handed-on p.1 p.2 c.in_err-memory.was c.memory.ensures in
    first_next _ _ _ _ (long _ c.if-scalar-ne-SCALAR_BYTES.false) (joined-here _ _ r.number r.not-0)

pub returns-then-digits-slot : goal.returns-then-digits-slot
unfolding edge_refusal as_number number_of
returns-then-digits-slot c =
    first_next _ _ _ _ (long _ c.if-scalar-ne-SCALAR_BYTES.false) (joined-next _ _ (omega arith) c.memory.ensures (passed-as-0 c.in_ok-memory.was) (first-here _ _ _ (le-leb _ _ c.if-digits-slot.true)))

pub returns-then-any_big : goal.returns-then-any_big
unfolding edge_refusal as_number number_of
returns-then-any_big c =
    first_next _ _ _ _ (long _ c.if-scalar-ne-SCALAR_BYTES.false)
    (joined-next _ _ (omega arith) c.memory.ensures (passed-as-0 c.in_ok-memory.was) (first_next _ _ _ _ (lt-leb _ _ c.if-digits-slot.false) (first-here _ _ _ (sym c.any_big.ensures ∙ c.if-any_big.true))))

pub returns : goal.returns
unfolding edge_refusal as_number number_of
returns c =
    first_next _ _ _ _ (long _ c.if-scalar-ne-SCALAR_BYTES.false)
    (joined-next _ _ (omega arith) c.memory.ensures (passed-as-0 c.in_ok-memory.was)
    (first_next _ _ _ _ (lt-leb _ _ c.if-digits-slot.false) (first_next _ _ _ _ (sym c.any_big.ensures ∙ c.if-any_big.false) first-end)))
