-- The three parts in their order, each by what it answered.
use native.Mathlib.Omega.{arith}
use Rattle.std.proofs.lemmas.Result.{err_from_is_err_and}
use Rattle.laws.specs.Results.{passed-as-0, handed-on}
use Rattle.rules.specs.Engines.{mixed_refusal}
use Rattle.laws.specs.Conditions.{joined-here, joined-next}
use Rattle.precomputed_straus.proofs.Asked.{lists-few}
use Rattle.precomputed_straus.proofs.lists.Mixed.refusal.Goals as goal

pub returns-in_err-lists : goal.returns-in_err-lists
unfolding mixed_refusal
returns-in_err-lists c =
    let p = err_from_is_err_and c.from_residual.result c.from_residual.ensures.1 in
    let r = handed-on p.1 p.2 c.in_err-lists.was c.lists.ensures in
    joined-here _ _ r.number r.not-0

pub overflow_mul-rows : goal.overflow_mul-rows
overflow_mul-rows c =
    let a = c.args.self in
    omega (arith, lists-few a.tables.now a.static_scalars.now a.scalars.now a.points.now a.flags.now c.lists.ensures (passed-as-0 c.in_ok-lists.was))

pub returns-in_err-room : goal.returns-in_err-room
unfolding mixed_refusal
returns-in_err-room c =
    let p = err_from_is_err_and c.from_residual-in_err-room.result c.from_residual-in_err-room.ensures.1 in
    let r = handed-on p.1 p.2 c.in_err-room.was c.room.ensures in
    joined-next _ _ (omega arith) c.lists.ensures (passed-as-0 c.in_ok-lists.was) (joined-here _ _ r.number r.not-0)

pub returns : goal.returns
unfolding mixed_refusal
returns c =
    joined-next _ _ (omega arith) c.lists.ensures (passed-as-0 c.in_ok-lists.was)
    (joined-next _ _ (omega arith) c.room.ensures (passed-as-0 c.in_ok-room.was) c.contents.ensures)
