-- At each place what the sum and the counts will come to is the walk's; but for the buckets the limbs are as they were.
use Rattle.rules.specs.Values.{element_at}
use Rattle.rules.specs.Group.{elements}
use Rattle.laws.specs.BucketWalk.{Going}
use Rattle.pippenger.proofs.rows.Rows.walk.Given as goal

abbrev pub invariant-loop-j : goal.invariant-loop-j
invariant-loop-j l =
    Going elements 4 l.self.digits.now (element_at l.self.points.now) l.self.m l.w l.fn.buckets l.j l.buckets l.q l.additions l.doublings
