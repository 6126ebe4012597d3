-- Refused by its number, else the slots are laid and walked; then the room is cleared.
use mathlib.Core.Path.{◌≡◌, sym, ◌∙◌}
use native.Mathlib.Omega.{arith}
use lib.ListN.{length}
use lib.Seq.{length-take-le}
use Rattle.std.proofs.lemmas.Result.{err_from_is_err_and}
use Rattle.laws.specs.Results.{passed-as-0, handed-on}
use Rattle.rules.specs.Engines.{naf_straus_refusal}
use Rattle.straus.proofs.Refusing.{Ready}
use Rattle.straus.proofs.Answering.{naf-refused}
use Rattle.straus.proofs.NafDone.{naf-ok, naf-counts, naf-done}
use Rattle.straus.proofs.optional_multiscalar_mul.Goals as goal
use Rattle.straus.proofs.optional_multiscalar_mul.Goals.{After-pairs-m}

pub returns-in_err-refusal : goal.returns-in_err-refusal
returns-in_err-refusal c =
    let p = err_from_is_err_and c.from_residual.result c.from_residual.ensures.1 in
    let r = handed-on p.1 p.2 c.in_err-refusal.was c.refusal.ensures in
    naf-refused _ _ _ _ _ r

-- all tests have passed
passed : (c : After-pairs-m) → naf_straus_refusal c.args.scalars.now c.args.points.now c.args.flags.now (length c.args.digits.now) (length c.args.limbs.now) ≡ 0
passed c = sym c.refusal.ensures ∙ passed-as-0 c.in_ok-refusal.was

ready : (c : After-pairs-m) → Ready 256 c.args.scalars.now c.args.points.now c.pairs-m.result (length c.args.digits.now) (length c.args.limbs.now)
ready c = naf-ok _ _ _ c.args.digits.now c.args.limbs.now c.pairs-m.ensures (passed c)

pub overflow_mul-e : goal.overflow_mul-e
overflow_mul-e c = omega (arith, (ready (goal.at.overflow_mul-e c).After-pairs-m).few)

pub overflow_mul-f : goal.overflow_mul-f
overflow_mul-f c = omega (arith, (ready (goal.at.overflow_mul-f c).After-pairs-m).few)

-- rows and windows lie in the room
pub slice_bounds-rows-end : goal.slice_bounds-rows-end
slice_bounds-rows-end c = rw c.rows.auto.digits (ready (goal.at.slice_bounds-rows-end c).After-pairs-m).digits

pub slice_bounds-rows-end-2 : goal.slice_bounds-rows-end-2
slice_bounds-rows-end-2 c = sym (length-take-le _ _ (rw c.rows.auto.digits (ready (goal.at.slice_bounds-rows-end-2 c).After-pairs-m).digits))

pub slice_bounds-windows-end : goal.slice_bounds-windows-end
slice_bounds-windows-end c = rw c.windows-made.auto.limbs (ready (goal.at.slice_bounds-windows-end c).After-pairs-m).limbs

pub slice_bounds-windows-end-2 : goal.slice_bounds-windows-end-2
slice_bounds-windows-end-2 c = sym (length-take-le _ _ (rw c.windows-made.auto.limbs (ready (goal.at.slice_bounds-windows-end-2 c).After-pairs-m).limbs))

pub overflow_add-result : goal.overflow_add-result
overflow_add-result c =
    let n = naf-counts _ _ _ _ _ c.pairs-m.ensures (passed (goal.at.overflow_add-result c).After-pairs-m) (λ i. (c.type_inv.points i).fits) c.rows.ensures c.windows-made.ensures c.walk-w.ensures in
    record { fits = omega (arith, n, (ready (goal.at.overflow_add-result c).After-pairs-m).few) }

pub overflow_add-result-2 : goal.overflow_add-result-2
overflow_add-result-2 c =
    let n = naf-counts _ _ _ _ _ c.pairs-m.ensures (passed (goal.at.overflow_add-result-2 c).After-pairs-m) (λ i. (c.type_inv.points i).fits) c.rows.ensures c.windows-made.ensures c.walk-w.ensures in
    record { fits = omega (arith, n, (ready (goal.at.overflow_add-result-2 c).After-pairs-m).few) }

pub returns : goal.returns
returns c =
    naf-done _ _ _ _ _ c.pairs-m.ensures (passed (goal.at.returns c).After-pairs-m) (λ i. (c.type_inv.points i).fits) c.rows.ensures c.windows-made.ensures c.walk-w.ensures
    c.clear.ensures
    c.clear-2.ensures
