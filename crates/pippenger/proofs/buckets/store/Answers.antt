-- Four stores, one a limb.
use mathlib.Core.Path.{refl}
use Rattle.pippenger.specs.Flat.{replaced}
use Rattle.pippenger.proofs.buckets.store.Goals as goal

pub returns : goal.returns
unfolding replaced
returns c = refl
