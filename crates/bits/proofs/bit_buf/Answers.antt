-- The bits that wait, from one word, or from two.
use Rattle.std.proofs.Common.{rules}
use borrow.Author.Tests.{lt-ltb, le-ltb}
use native.Mathlib.Omega.{arith}
use lib.ListN.{get_or}
use mir.Syntax.{w64}
use mir.Val.{Fits}
use Rattle.rules.specs.Helpers.{waiting_bits}
use Rattle.words.proofs.LimbBits.{in-limb, in_two}
use Rattle.bits.proofs.Waiting.{masked}
use Rattle.bits.proofs.bit_buf.Goals as goal

pub returns-then-pos-gt256 : goal.returns-then-pos-gt256
unfolding waiting_bits
returns-then-pos-gt256 c = rw (lt-ltb 256 _ c.if-pos-gt256.true)

pub returns-then-w-gt8 : goal.returns-then-w-gt8
unfolding waiting_bits
returns-then-w-gt8 c = rw (le-ltb 256 _ c.if-pos-gt256.false, lt-ltb 8 _ c.if-w-gt8.true)

pub returns-then-bit_idx-w : goal.returns-then-bit_idx-w
returns-then-bit_idx-w c =
    masked _ _ _ c.if-pos-gt256.false c.if-w-gt8.false _ _ c.power-window_mask.ensures (in-limb _ (λ i. let f : Fits w64 (get_or c.args.x i 0) = search rules in f.fits) c.args.pos c.args.w (omega arith))

pub returns-else-bit_idx-w : goal.returns-else-bit_idx-w
returns-else-bit_idx-w c =
    masked _ _ _ c.if-pos-gt256.false c.if-w-gt8.false _ _ c.power-window_mask.ensures (in_two _ (λ i. let f : Fits w64 (get_or c.args.x i 0) = search rules in f.fits) c.args.pos c.args.w (omega arith))
