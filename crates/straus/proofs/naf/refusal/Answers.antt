-- The three parts in their order, each by what it answered.
use mathlib.Core.Path.{ap}
use Prim.Native.Nat.{◌*◌, ◌≤◌}
use native.Mathlib.Omega.{arith}
use Rattle.std.proofs.lemmas.Result.{err_from_is_err_and}
use Rattle.laws.specs.Results.{passed-as-0, handed-on}
use Rattle.rules.specs.Numbers.{most}
use Rattle.rules.specs.Engines.{naf_straus_refusal}
use Rattle.laws.specs.Conditions.{joined-here, joined-next}
use Rattle.lent.proofs.Passed.{counts-few, room-is}
use Rattle.straus.proofs.naf.refusal.Goals as goal

pub returns-in_err-lists : goal.returns-in_err-lists
unfolding naf_straus_refusal
returns-in_err-lists c =
    let p = err_from_is_err_and c.from_residual.result c.from_residual.ensures.1 in
    let r = handed-on p.1 p.2 c.in_err-lists.was c.lists.ensures in
    joined-here _ _ r.number r.not-0

few : (c : goal.After-pairs-m) → c.pairs-m.result ≤ most
few c = omega (arith, c.pairs-m.ensures, (counts-few _ _ _ c.lists.ensures (passed-as-0 c.in_ok-lists.was)).1)

pub overflow_mul-m : goal.overflow_mul-m
overflow_mul-m c = omega (arith, few c)

pub overflow_mul-m-2 : goal.overflow_mul-m-2
overflow_mul-m-2 c = omega (arith, few c)

pub returns-in_err-room : goal.returns-in_err-room
unfolding naf_straus_refusal
returns-in_err-room c =
    let p = err_from_is_err_and c.from_residual-in_err-room.result c.from_residual-in_err-room.ensures.1 in
    let r = handed-on p.1 p.2 c.in_err-room.was c.room.ensures in
    joined-next _ _ (omega arith) c.lists.ensures (passed-as-0 c.in_ok-lists.was)
    (joined-here _ _ (room-is _ _ (ap (◌*◌ 256) c.pairs-m.ensures) (ap (◌*◌ 32) c.pairs-m.ensures) r.number) r.not-0)

pub returns : goal.returns
unfolding naf_straus_refusal
returns c =
    joined-next _ _ (omega arith) c.lists.ensures (passed-as-0 c.in_ok-lists.was)
    (joined-next _ _ (omega arith) (room-is _ _ (ap (◌*◌ 256) c.pairs-m.ensures) (ap (◌*◌ 32) c.pairs-m.ensures) c.room.ensures) (passed-as-0 c.in_ok-room.was) c.contents.ensures)
