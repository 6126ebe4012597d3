-- The scalar that has a radix row.
use mathlib.Core.Path.{◌∙◌, sym, ap}
use Rattle.std.proofs.lemmas.Result.{err_from_is_err_and}
use Rattle.rules.specs.Numbers.{RadixRow, row_answer}
use Rattle.rules.specs.Rows.{radix_of, radix_row, read_radix, read_radix_refusal}
use Rattle.laws.specs.RowsRule.{radix-sum}
use Rattle.laws.specs.Results.{passed-as-0, handed-on}
use Rattle.bits.proofs.Refusals.{width-in}
use Rattle.reader.proofs.Fronts.{shape-passed, read-refused}
use Rattle.reader.proofs.Reading.{compared_is}
use Rattle.reader.proofs.read_radix.Goals as goal

pub returns-in_err-shape_refusal : goal.returns-in_err-shape_refusal
unfolding read_radix read_radix_refusal
returns-in_err-shape_refusal c =
    let p = err_from_is_err_and c.from_residual.result c.from_residual.ensures.1 in
    read-refused 64 4 _ _ _ _ (handed-on p.1 p.2 c.in_err-shape_refusal.was c.shape_refusal.ensures)

pub returns : goal.returns
unfolding read_radix read_radix_refusal radix_of row_answer
returns c =
    let w = c.args.w in
    let right = sym (passed-as-0 c.in_ok-shape_refusal.was) ∙ c.shape_refusal.ensures in
    let p = shape-passed 64 4 _ w right in
    let in-range = width-in 4 w p.1 in
    let again = c.as_radix_2w.ensures in
    c.compared.ensures
    ∙ compared_is w 64 (radix_row w) (λ k _. radix-sum w in-range.0 in-range.1 k) _ p.0 _ c.row_bytes-bytes.ensures 4 w right _ (ap (λ (x : RadixRow). x.number) again) _ _ (ap (λ (x : RadixRow). x.row) again)
