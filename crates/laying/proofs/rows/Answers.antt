use native.Mathlib.Omega.{arith}
use Rattle.laying.proofs.Parts.{row-some, rows_none, rows_more, rows_end}
use Rattle.laying.proofs.rows.Goals as goal

pub nonzero_div-digits : goal.nonzero_div-digits
nonzero_div-digits c = omega (arith, c.places-unit.ensures, row-some c.args.kind)

pub loop-i-init : goal.loop-i-init
loop-i-init c = rows_none _ _ _ _ c.places-unit.ensures c.smaller.ensures c.smaller-m.ensures

pub loop-i-preserved : goal.loop-i-preserved
loop-i-preserved c = rows_more _ _ _ _ c.loop-i.invariant c.loop-i-test.true _ c.row.ensures

pub returns : goal.returns
returns c = rows_end _ _ _ _ c.loop-i.invariant c.loop-i-test.false
