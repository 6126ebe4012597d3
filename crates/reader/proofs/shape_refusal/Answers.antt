-- The length and the width, test by test.
use borrow.Author.Tests.{eq-eqb, ne_eqb}
use Rattle.rules.specs.Numbers.{as_number, first, number_of}
use Rattle.rules.specs.Rows.{not_long}
use Rattle.reader.specs.Readers.{shape_refusal}
use Rattle.bits.proofs.Refusals.{too-low, too-high, within}
use Rattle.reader.proofs.shape_refusal.Goals as goal

pub returns-then-row-long : goal.returns-then-row-long
unfolding shape_refusal first not_long as_number number_of
returns-then-row-long c = rw (ne_eqb _ _ c.if-row-long.true)

pub returns-then-w-low : goal.returns-then-w-low
unfolding shape_refusal first not_long as_number number_of
returns-then-w-low c = rw (eq-eqb _ _ c.if-row-long.false, too-low _ _ c.if-w-low.true)

pub returns-then-w-gt8 : goal.returns-then-w-gt8
unfolding shape_refusal first not_long as_number number_of
returns-then-w-gt8 c = rw (eq-eqb _ _ c.if-row-long.false, too-high _ _ c.if-w-gt8.true)

pub returns : goal.returns
unfolding shape_refusal first not_long as_number number_of
returns c = rw (eq-eqb _ _ c.if-row-long.false, within _ _ c.if-w-low.false c.if-w-gt8.false)
