-- 128 halved as often as the width is below 8.
use Rattle.laws.specs.BucketWalk.{wide}
use Rattle.pippenger.proofs.buckets.buckets_count.Goals as goal

pub returns : goal.returns
returns c = (wide c.args.w c.requires.0 c.requires.1).halved
