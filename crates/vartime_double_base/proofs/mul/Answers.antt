-- Refused, the zeros; done, what the walk comes to.
use mathlib.Core.Path.{◌≡◌, refl, sym, ◌∙◌}
use native.Mathlib.Omega.{arith}
use Rattle.std.proofs.lemmas.Result.{err_from_is_err_and}
use Rattle.laws.specs.Results.{passed-as-0, handed-on}
use Rattle.rules.specs.Engines.{double_refusal, double}
use Rattle.laws.specs.Results.{refused-sum}
use Rattle.limbs.proofs.Done.{done-sum}
use Rattle.vartime_double_base.proofs.Search.{start-inside}
use Rattle.vartime_double_base.proofs.DoneSum.{Done, sum_done_lem}
use Rattle.vartime_double_base.proofs.mul.Goals as goal

pub returns-in_err-refusal : goal.returns-in_err-refusal
unfolding double
returns-in_err-refusal c =
    let p = err_from_is_err_and c.from_residual.result c.from_residual.ensures.1 in
    let r = handed-on p.1 p.2 c.in_err-refusal.was c.refusal.ensures in
    refused-sum r _ _ _

pub overflow_add-i : goal.overflow_add-i
overflow_add-i c =
    omega (arith, c.start-i.ensures, start-inside c.naf_row-a_naf.result c.naf_row-b_naf.result)

pub overflow_add-result : goal.overflow_add-result
overflow_add-result c = record {
  fits = (sum_done_lem _ _ _ (sym c.refusal.ensures ∙ passed-as-0 c.in_ok-refusal.was) (λ i. (c.type_inv.point i).fits)
      c.naf_row-a_naf.ensures c.naf_row-b_naf.ensures c.start-i.ensures c.element_at.ensures _ refl c.make_odd8-made.ensures c.walk-w.ensures).few-additions;
}

pub overflow_add-result-2 : goal.overflow_add-result-2
overflow_add-result-2 c = record {
  fits = (sum_done_lem _ _ _ (sym c.refusal.ensures ∙ passed-as-0 c.in_ok-refusal.was) (λ i. (c.type_inv.point i).fits)
      c.naf_row-a_naf.ensures c.naf_row-b_naf.ensures c.start-i.ensures c.element_at.ensures _ refl c.make_odd8-made.ensures c.walk-w.ensures).few-doublings;
}

pub returns : goal.returns
unfolding double
returns c =
    let passed : double_refusal c.args.a.now c.args.point.now c.args.b.now ≡ 0 = sym c.refusal.ensures ∙ passed-as-0 c.in_ok-refusal.was in
    let done : Done c.args.a.now c.args.point.now c.args.b.now c.make_odd8-made.result c.walk-w.result = sum_done_lem _ _ _ passed (λ i. (c.type_inv.point i).fits)
    c.naf_row-a_naf.ensures c.naf_row-b_naf.ensures c.start-i.ensures c.element_at.ensures _ refl c.make_odd8-made.ensures c.walk-w.ensures in
    done-sum passed _ done.element done.additions done.doublings
