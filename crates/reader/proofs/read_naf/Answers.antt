-- The scalar that has a NAF row.
use mathlib.Core.Path.{◌∙◌, sym, ap}
use Rattle.std.proofs.lemmas.Result.{err_from_is_err_and}
use Rattle.rules.specs.Numbers.{NafRow, row_answer}
use Rattle.rules.specs.Rows.{naf_of, naf_row, read_naf, read_naf_refusal}
use Rattle.laws.specs.RowsRule.{naf-obeys}
use Rattle.laws.specs.Results.{passed-as-0, handed-on}
use Rattle.bits.proofs.Refusals.{width-in}
use Rattle.reader.proofs.Fronts.{shape-passed, read-refused}
use Rattle.reader.proofs.Reading.{compared_is}
use Rattle.reader.proofs.read_naf.Goals as goal

pub returns-in_err-shape_refusal : goal.returns-in_err-shape_refusal
unfolding read_naf read_naf_refusal
returns-in_err-shape_refusal c =
    let p = err_from_is_err_and c.from_residual.result c.from_residual.ensures.1 in
    read-refused 256 2 _ _ _ _ (handed-on p.1 p.2 c.in_err-shape_refusal.was c.shape_refusal.ensures)

pub returns : goal.returns
unfolding read_naf read_naf_refusal naf_of row_answer
returns c =
    let w = c.args.w in
    let right = sym (passed-as-0 c.in_ok-shape_refusal.was) ∙ c.shape_refusal.ensures in
    let p = shape-passed 256 2 _ w right in
    let in-range = width-in 2 w p.1 in
    let again = c.non_adjacent_form.ensures in
    c.compared.ensures
    ∙ compared_is 1 256 (naf_row w) (λ k l. (naf-obeys w in-range.0 k l).sum_is) _ p.0 _ c.row_bytes-bytes.ensures 2 w right _ (ap (λ (x : NafRow). x.number) again) _ _ (ap (λ (x : NafRow). x.row) again)
