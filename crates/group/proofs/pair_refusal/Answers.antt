-- The first test that holds gives the number.
use mathlib.Core.Path.{refl}
use mathlib.Core.Bool.{true, false}
use Rattle.rules.specs.Numbers.{as_number, number_of}
use Rattle.group.proofs.Answers.{tested, left-short, right-short, pair-tested}
use Rattle.group.proofs.pair_refusal.Goals as goal

pub returns-then-a-ne4 : goal.returns-then-a-ne4
unfolding as_number number_of
returns-then-a-ne4 c = left-short _ _ c.if-a-ne4.true

pub returns-then-b-ne4 : goal.returns-then-b-ne4
unfolding as_number number_of
returns-then-b-ne4 c = right-short _ _ c.if-a-ne4.false c.if-b-ne4.true

pub returns-then-over : goal.returns-then-over
unfolding as_number number_of
returns-then-over c =
    pair-tested _ _ true _ c.if-a-ne4.false c.if-b-ne4.false (tested _ c.over.ensures c.element_at.ensures c.if-over.true) refl

pub returns-then-over-2 : goal.returns-then-over-2
unfolding as_number number_of
returns-then-over-2 c =
    pair-tested _ _ false true c.if-a-ne4.false c.if-b-ne4.false (tested _ c.over.ensures c.element_at.ensures c.if-over.false)
    (tested _ c.over-2.ensures c.element_at-2.ensures c.if-over-2.true)

pub returns : goal.returns
unfolding as_number number_of
returns c =
    pair-tested _ _ false false c.if-a-ne4.false c.if-b-ne4.false (tested _ c.over.ensures c.element_at.ensures c.if-over.false)
    (tested _ c.over-2.ensures c.element_at-2.ensures c.if-over-2.false)
