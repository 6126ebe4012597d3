-- The rule's test of the digit's absolute value, as far as the code looks.
use mathlib.Core.Path.{◌≡◌, ap, ◌∙◌}
use lib.IntN.{nat_abs}
use borrow.Author.Tests.{eq-eqb, ne_eqb}
use Rattle.rules.specs.Lists.{wild_digit}
use Rattle.digit.proofs.Machine.{back8}
use Rattle.batch.proofs.refusals.wild.Goals as goal

pub returns-then-m-eq0 : goal.returns-then-m-eq0
unfolding wild_digit
returns-then-m-eq0 c =
    let e : c.magnitude-m.result ≡ nat_abs c.args.d = c.magnitude-m.ensures ∙ ap nat_abs (back8 _ c.ranges.d) in
    rw (← e, ne_eqb _ 0 c.if-m-ne0.true, eq-eqb _ 0 c.if-m-eq0.true)

pub returns-else-m-eq0 : goal.returns-else-m-eq0
unfolding wild_digit
returns-else-m-eq0 c =
    let e : c.magnitude-m.result ≡ nat_abs c.args.d = c.magnitude-m.ensures ∙ ap nat_abs (back8 _ c.ranges.d) in
    rw (← e, ne_eqb _ 0 c.if-m-ne0.true, ne_eqb _ 0 c.if-m-eq0.false)

pub returns-else-m-ne0 : goal.returns-else-m-ne0
unfolding wild_digit
returns-else-m-ne0 c =
    let e : c.magnitude-m.result ≡ nat_abs c.args.d = c.magnitude-m.ensures ∙ ap nat_abs (back8 _ c.ranges.d) in
    rw (← e, eq-eqb _ 0 c.if-m-ne0.false)
