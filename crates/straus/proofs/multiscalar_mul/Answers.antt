-- Refused by its number, else rows, windows and the walk; then the room is cleared.
use mathlib.Core.Path.{◌≡◌, sym, ◌∙◌}
use native.Mathlib.Omega.{arith}
use lib.ListN.{length}
use lib.Seq.{length-take-le}
use Rattle.std.proofs.lemmas.Result.{err_from_is_err_and}
use Rattle.laws.specs.Results.{passed-as-0, handed-on}
use Rattle.rules.specs.Engines.{radix_straus_refusal}
use Rattle.straus.proofs.Refusing.{Ready}
use Rattle.straus.proofs.Answering.{radix-refused}
use Rattle.straus.proofs.RadixDone.{radix-ok, radix-counts, radix-done}
use Rattle.straus.proofs.multiscalar_mul.Goals as goal
use Rattle.straus.proofs.multiscalar_mul.Goals.{After-pairs-m}

pub returns-in_err-refusal : goal.returns-in_err-refusal
returns-in_err-refusal c =
    let p = err_from_is_err_and c.from_residual.result c.from_residual.ensures.1 in
    let r = handed-on p.1 p.2 c.in_err-refusal.was c.refusal.ensures in
    radix-refused _ _ _ _ r

-- all tests have passed
passed : (c : After-pairs-m) → radix_straus_refusal c.args.scalars.now c.args.points.now (length c.args.digits.now) (length c.args.limbs.now) ≡ 0
passed c = sym c.refusal.ensures ∙ passed-as-0 c.in_ok-refusal.was

ready : (c : After-pairs-m) → Ready 64 c.args.scalars.now c.args.points.now c.pairs-m.result (length c.args.digits.now) (length c.args.limbs.now)
ready c = radix-ok _ _ c.args.digits.now c.args.limbs.now c.pairs-m.ensures (passed c)

pub overflow_mul-m : goal.overflow_mul-m
overflow_mul-m c = omega (arith, (ready (goal.at.overflow_mul-m c).After-pairs-m).few)

pub overflow_mul-m-2 : goal.overflow_mul-m-2
overflow_mul-m-2 c = omega (arith, (ready (goal.at.overflow_mul-m-2 c).After-pairs-m).few)

pub overflow_mul-m-3 : goal.overflow_mul-m-3
overflow_mul-m-3 c = omega (arith, (ready (goal.at.overflow_mul-m-3 c).After-pairs-m).few)

pub overflow_mul-m-4 : goal.overflow_mul-m-4
overflow_mul-m-4 c = omega (arith, (ready (goal.at.overflow_mul-m-4 c).After-pairs-m).few)

-- rows and windows lie in the room
pub slice_bounds-walk-end : goal.slice_bounds-walk-end
slice_bounds-walk-end c = rw c.rows.auto.digits (ready (goal.at.slice_bounds-walk-end c).After-pairs-m).digits

pub slice_bounds-walk-end-2 : goal.slice_bounds-walk-end-2
slice_bounds-walk-end-2 c = sym (length-take-le _ _ (rw c.rows.auto.digits (ready (goal.at.slice_bounds-walk-end-2 c).After-pairs-m).digits))

pub slice_bounds-walk-end-3 : goal.slice_bounds-walk-end-3
slice_bounds-walk-end-3 c = rw c.windows-made.auto.limbs (ready (goal.at.slice_bounds-walk-end-3 c).After-pairs-m).limbs

pub slice_bounds-walk-end-4 : goal.slice_bounds-walk-end-4
slice_bounds-walk-end-4 c = sym (length-take-le _ _ (rw c.windows-made.auto.limbs (ready (goal.at.slice_bounds-walk-end-4 c).After-pairs-m).limbs))

pub overflow_add-result : goal.overflow_add-result
overflow_add-result c = omega (arith, radix-counts _ _ _ _ c.pairs-m.ensures (passed (goal.at.overflow_add-result c).After-pairs-m) c.rows.ensures c.windows-made.ensures c.walk-w.ensures, (ready (goal.at.overflow_add-result c).After-pairs-m).few)

pub overflow_add-result-2 : goal.overflow_add-result-2
overflow_add-result-2 c = omega (arith, radix-counts _ _ _ _ c.pairs-m.ensures (passed (goal.at.overflow_add-result-2 c).After-pairs-m) c.rows.ensures c.windows-made.ensures c.walk-w.ensures)

pub returns : goal.returns
returns c = radix-done _ _ _ _ c.pairs-m.ensures (passed (goal.at.returns c).After-pairs-m) c.rows.ensures c.windows-made.ensures c.walk-w.ensures c.clear.ensures c.clear-2.ensures
