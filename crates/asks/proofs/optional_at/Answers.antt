-- Absent past the flags and where the flag is 0, else the element at its place.
use Rattle.asks.proofs.Points.{flag-none, flag-past, flag-some}
use Rattle.asks.proofs.optional_at.Goals as goal

pub returns-then-flags-i : goal.returns-then-flags-i
returns-then-flags-i c = flag-past _ _ _ c.if-flags-i.true

pub returns-then-flags-i-eq0 : goal.returns-then-flags-i-eq0
returns-then-flags-i-eq0 c = flag-none _ _ _ c.if-flags-i-eq0.true

pub returns : goal.returns
returns c = flag-some _ _ _ c.if-flags-i-eq0.false _ c.element_at.ensures
