-- Four steps make the difference and its borrow.
use Rattle.std.proofs.Common.{arith, sym}
use Rattle.limbs.proofs.Carries.{difference-is}
use Rattle.limbs.proofs.difference.Goals as goal

pub returns : goal.returns
returns c =
    let x0 = c.borrowing_sub-l0 in
    let x1 = c.borrowing_sub-l1 in
    let x2 = c.borrowing_sub-l2 in
    let x3 = c.borrowing_sub-l3 in
    difference-is _ _ _ x0.result.1 x1.result.1 x2.result.1 _ (record { r0 = omega arith; r1 = omega arith; r2 = omega arith; r3 = omega arith })
    (sym x0.ensures) (sym x1.ensures) (sym x2.ensures) (sym x3.ensures)
