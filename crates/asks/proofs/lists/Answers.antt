-- The flags, then the rest.
use mathlib.Core.Bool.{or-true, or-false}
use borrow.Author.Tests.{eq-eqb, ne_eqb}
use Rattle.rules.specs.Numbers.{as_number, first, number_of}
use Rattle.rules.specs.Lists.{lists_not_whole}
use Rattle.asks.proofs.lists.Goals as goal

pub returns-then-flags-points : goal.returns-then-flags-points
unfolding lists_not_whole first as_number number_of
returns-then-flags-points c = rw (ne_eqb _ _ c.if-flags-points.true, or-true)

pub returns : goal.returns
unfolding lists_not_whole first as_number number_of
returns c = rw (eq-eqb _ _ c.if-flags-points.false, or-false) c.plain_lists.ensures
