use Rattle.std.proofs.Common.{rules}
use Rattle.reader.proofs.Modulo.{says_none, says-more}
use Rattle.reader.proofs.row_sum.Goals as goal

pub loop-i-init : goal.loop-i-init
loop-i-init c = rw c.one_limb-q.ensures (says_none _ c.args.row.now)

pub loop-i-preserved : goal.loop-i-preserved
loop-i-preserved c = says-more _ _ _ c.loop-i-test.true c.loop-i.auto.i _ _ _ c.loop-i.invariant c.doubled.ensures (search rules) c.with_digit-q.ensures
