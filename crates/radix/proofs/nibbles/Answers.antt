use Rattle.std.proofs.Common.{rules}
use mathlib.Core.Path.{◌∙◌}
use mir.Syntax.{w8}
use mir.Facts.{to_z-of_z}
use Rattle.radix.proofs.NibbleTurn.{halves-more, byte-is}
use Rattle.radix.proofs.nibbles.Goals as goal

pub loop-i-preserved : goal.loop-i-preserved
loop-i-preserved c =
    let i = c.loop-i-test.true in
    halves-more _ _ _ _ c.loop-i.invariant i
    (c.byte_at-x.ensures ∙ byte-is c.args.scalar.now (λ j. (c.type_inv.scalar j).fits) c.loop-i.i i)
    _ _ (to_z-of_z {w = w8} (search rules) ∙ c.bot_half.ensures) (to_z-of_z {w = w8} (search rules) ∙ c.top_half.ensures)
