-- The first test that holds gives the number.
use mathlib.Core.Bool.{true, false}
use Rattle.rules.specs.Numbers.{as_number, number_of}
use Rattle.group.proofs.Answers.{tested, point-short, point-tested}
use Rattle.group.proofs.point_refusal.Goals as goal

pub returns-then-p-ne4 : goal.returns-then-p-ne4
unfolding as_number number_of
returns-then-p-ne4 c = point-short _ c.if-p-ne4.true

pub returns-then-over : goal.returns-then-over
unfolding as_number number_of
returns-then-over c = point-tested _ true c.if-p-ne4.false (tested _ c.over.ensures c.element_at.ensures c.if-over.true)

pub returns : goal.returns
unfolding as_number number_of
returns c = point-tested _ false c.if-p-ne4.false (tested _ c.over.ensures c.element_at.ensures c.if-over.false)
