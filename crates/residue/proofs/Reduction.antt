-- L, a modulus of four limbs.
use mathlib.Core.Path.{◌≡◌, ap, ◌∙◌}
use Prim.Native.Nat.{◌<◌}
use lib.Dec.{lit<, lit≤}
use Rattle.rules.specs.declared.Element.{Element}
use Rattle.rules.specs.Values.{value_of, element_of}
use Rattle.rules.specs.Group.{L}
use Rattle.limbs.proofs.Elements.{value-of}
use Rattle.limbs.proofs.Modulo.{Modulus}

pub L-pos : 0 < L
unfolding L
L-pos = lit< tt

pub L-modulus : Modulus L
unfolding L
L-modulus = record { pos = lit< tt; small = lit< tt; twice = lit≤ tt }

-- the order's element says it
pub order_is : {o : Element} → o ≡ element_of L → value_of o ≡ L
order_is e = ap value_of e ∙ value-of L L-modulus.small
