-- Refused, zeros and room as it was; done, what the walk gives, and room cleared.
use mathlib.Core.Path.{sym, ◌∙◌}
use Rattle.laws.specs.Results.{passed-as-0, handed-on}
use Rattle.std.proofs.lemmas.Result.{err_from_is_err_and}
use Rattle.precomputed_straus.proofs.DoneMixed.{refused-mixed, fits, room, digits-part, limbs-part, ready, done-mixed}
use Rattle.precomputed_straus.proofs.optional_mixed_multiscalar_mul.Goals as goal

pub returns-in_err-refusal : goal.returns-in_err-refusal
returns-in_err-refusal c =
    let p = err_from_is_err_and c.from_residual.result c.from_residual.ensures.1 in
    let r = handed-on p.1 p.2 c.in_err-refusal.was c.refusal.ensures in
    refused-mixed _ _ _ _ _ _ _ r

pub overflow_mul-e : goal.overflow_mul-e
overflow_mul-e c = record { fits = fits _ _ _ _ _ c.args.digits.now c.args.limbs.now (sym c.refusal.ensures ∙ passed-as-0 c.in_ok-refusal.was) }

pub slice_bounds-walk-end : goal.slice_bounds-walk-end
slice_bounds-walk-end c = (room _ _ _ _ _ c.args.digits.now c.args.limbs.now (sym c.refusal.ensures ∙ passed-as-0 c.in_ok-refusal.was)).0

pub slice_bounds-walk-end-2 : goal.slice_bounds-walk-end-2
slice_bounds-walk-end-2 c = digits-part _ _ _ _ _ c.args.digits.now c.args.limbs.now (sym c.refusal.ensures ∙ passed-as-0 c.in_ok-refusal.was)

pub slice_bounds-walk-end-3 : goal.slice_bounds-walk-end-3
slice_bounds-walk-end-3 c = (room _ _ _ _ _ c.args.digits.now c.args.limbs.now (sym c.refusal.ensures ∙ passed-as-0 c.in_ok-refusal.was)).1

pub slice_bounds-walk-end-4 : goal.slice_bounds-walk-end-4
slice_bounds-walk-end-4 c = limbs-part _ _ _ _ _ c.args.digits.now c.args.limbs.now (sym c.refusal.ensures ∙ passed-as-0 c.in_ok-refusal.was)

pub walk-w-requires : goal.walk-w-requires
walk-w-requires c = ready _ _ _ _ _ c.args.digits.now c.args.limbs.now (sym c.refusal.ensures ∙ passed-as-0 c.in_ok-refusal.was) (λ i. (c.type_inv.dynamic_points i).fits)

pub returns : goal.returns
returns c = done-mixed _ _ _ _ _ c.args.digits.now c.args.limbs.now (sym c.refusal.ensures ∙ passed-as-0 c.in_ok-refusal.was) c.walk-w.new.digits c.walk-w.new.limbs c.walk-w.ensures c.walk-w.auto.digits c.walk-w.auto.limbs c.clear.ensures c.clear-2.ensures
