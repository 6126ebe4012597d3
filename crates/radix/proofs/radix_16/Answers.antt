use native.Mathlib.Omega.{arith}
use Rattle.std.proofs.Common.{le_trans}
use Rattle.laws.proofs.Numerals.{part-lt}
use Rattle.radix.proofs.Ints.{out-is, left-is, more-is}
use Rattle.radix.proofs.NibbleTurn.{v-le, here-is, carry-le, next-is, centring-none, centring-more, centring-end}
use Rattle.radix.proofs.radix_16.Goals as goal

pub loop-i-init : goal.loop-i-init
loop-i-init c = centring-none _ _ c.nibbles-output.ensures

pub loop-i-preserved : goal.loop-i-preserved
loop-i-preserved c =
    let h = c.loop-i.invariant in
    let lt = c.loop-i-test.true in
    let is = here-is _ _ _ h lt in
    let le = v-le _ _ _ h lt in
    let out = out-is _ _ is le in
    centring-more _ _ _ h lt _ _ (left-is _ _ is le _ out) (more-is _ _ (next-is _ _ _ h lt _) (omega arith) _ _ out (le_trans (carry-le _ _ _ h lt) (omega arith)))

pub returns : goal.returns
returns c =
    centring-end _ (part-lt 8 c.args.scalar.now (λ i. (c.type_inv.scalar i).fits) 32 0) _ _ c.loop-i.invariant (omega arith)
