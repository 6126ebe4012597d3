-- Refused, or the window made in zeros.
use mathlib.Core.Path.{sym, ap, ◌∙◌}
use lib.ListN.{length-replicate}
use Rattle.std.proofs.lemmas.Result.{err_from_is_err_and}
use Rattle.rules.specs.Helpers.{Made}
use Rattle.laws.specs.Results.{passed-as-0, handed-on, refused-window, done-window}
use Rattle.window.proofs.Tables.{odd-window}
use Rattle.window.proofs.naf_lookup_table.Goals as goal

pub returns-in_err-point_refusal : goal.returns-in_err-point_refusal
returns-in_err-point_refusal g c =
    let p = err_from_is_err_and c.from_residual.result c.from_residual.ensures.1 in
    refused-window (handed-on p.1 p.2 c.in_err-point_refusal.was c.point_refusal.ensures) _

pub returns : goal.returns
returns g c =
    let z = sym c.point_refusal.ensures ∙ passed-as-0 c.in_ok-point_refusal.was in
    done-window z
    (ap (λ (m : Made). m.limbs) c.make_odd.ensures
    ∙ odd-window _ (λ i. (c.type_inv.point i).fits) z g.row.N _ (length-replicate g.row.M 0 ∙ c.requires.limbs) c.element_at.ensures)
