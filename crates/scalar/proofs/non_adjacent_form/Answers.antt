-- The row of a scalar, or why there is none.
use Rattle.std.proofs.Common.{◌≡◌, sym, ◌∙◌}
use Rattle.std.proofs.lemmas.Result.{err_from_is_err_and}
use Rattle.rules.specs.Rows.{recode_refusal, naf_row_of, naf_of}
use Rattle.laws.specs.Results.{passed-as-0, handed-on, refused-row, done-row}
use Rattle.bits.proofs.Refusals.{passed, all-taken}
use Rattle.scalar.proofs.non_adjacent_form.Goals as goal

pub returns-in_err-recode_refusal : goal.returns-in_err-recode_refusal
unfolding naf_of
returns-in_err-recode_refusal c =
    let p = err_from_is_err_and c.from_residual.result c.from_residual.ensures.1 in
    refused-row (handed-on p.1 p.2 c.in_err-recode_refusal.was c.recode_refusal.ensures) _

pub returns : goal.returns
unfolding naf_of naf_row_of
returns c =
    let z : recode_refusal 2 c.args.scalar.now c.args.w ≡ 0 = sym c.recode_refusal.ensures ∙ passed-as-0 c.in_ok-recode_refusal.was in
    let p = passed 2 _ _ (sym z) in
    done-row z (c.naf_row.ensures ∙ rw (p.1.0, all-taken _ p.0))
