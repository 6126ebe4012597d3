-- Four steps make the sum and its carry.
use Rattle.std.proofs.Common.{arith}
use Rattle.limbs.proofs.Carries.{sum_is}
use Rattle.limbs.proofs.sum.Goals as goal

pub returns : goal.returns
returns c =
    let x0 = c.add_limb-l0 in
    let x1 = c.add_limb-l1 in
    let x2 = c.add_limb-l2 in
    let x3 = c.add_limb-l3 in
    sum_is _ _ _ x0.result.1 x1.result.1 x2.result.1 _ (record { r0 = omega arith; r1 = omega arith; r2 = omega arith; r3 = omega arith }) x0.ensures x1.ensures x2.ensures x3.ensures
