-- Four limbs of eight bytes each.
use Rattle.std.proofs.Common.{ap, ◌∙◌, arith}
use native.Mathlib.Nat.{zero-add}
use Rattle.rules.specs.Values.{element_of}
use Rattle.words.proofs.Turns.{element-is}
use Rattle.words.proofs.Eight.{part-same}
use Rattle.words.proofs.element.Goals as goal

pub returns : goal.returns
returns c =
    element-is _ _ (record { r0 = omega arith; r1 = omega arith; r2 = omega arith; r3 = omega arith }) c.limb_of.ensures c.limb_of-2.ensures c.limb_of-3.ensures c.limb_of-4.ensures
    ∙ ap element_of (part-same c.first_32-first.result c.args.bytes.now 32 0 (λ k h. rw (zero-add k) (c.first_32-first.ensures k h)))
