-- Refused by 7, else what filling the slot's parts leaves.
use mathlib.Core.Path.{sym, ◌∙◌}
use native.Mathlib.Omega.{arith}
use Rattle.rules.specs.declared.Refusal.TheVariants.{BadPoint}
use Rattle.rules.specs.Numbers.{number_of}
use Rattle.rules.specs.Batch.{set_slot}
use Rattle.laws.specs.Results.{told}
use Rattle.limbs.proofs.Elements.{Ranged}
use Rattle.batch.proofs.Batches.{refused-is, edge-inside, over-is, set_is}
use Rattle.batch.proofs.set_point.Goals as goal

pub returns-then-over : goal.returns-then-over
unfolding set_slot number_of
returns-then-over c = refused-is (told BadPoint (over-is _ _ _ _ c.requires _ (sym c.over.ensures ∙ c.if-over.true))) _ _ _ _

pub overflow_mul-row : goal.overflow_mul-row
overflow_mul-row c = omega (arith, (edge-inside _ _ _ _ c.requires).few)

pub overflow_add-row : goal.overflow_add-row
overflow_add-row c = omega (arith, (edge-inside _ _ _ _ c.requires).few)

pub overflow_mul-window : goal.overflow_mul-window
overflow_mul-window c = omega (arith, (edge-inside _ _ _ _ c.requires).few)

pub overflow_add-window : goal.overflow_add-window
overflow_add-window c = omega (arith, (edge-inside _ _ _ _ c.requires).few)

pub slice_bounds-fill_slot-end : goal.slice_bounds-fill_slot-end
slice_bounds-fill_slot-end c = omega (arith, (edge-inside _ _ _ _ c.requires).digits-fit)

pub slice_bounds-fill_slot-end-2 : goal.slice_bounds-fill_slot-end-2
slice_bounds-fill_slot-end-2 c = omega (arith, (edge-inside _ _ _ _ c.requires).windows-fit)

pub returns : goal.returns
returns c =
    let g = c.well_formed in
    let range : Ranged c.args.p = record { r0 = omega (arith, g); r1 = omega (arith, g); r2 = omega (arith, g); r3 = omega (arith, g) } in
    set_is _ _ _ _ c.requires _ range (sym c.over.ensures ∙ c.if-over.false) _ _ _ c.fill_slot.ensures
