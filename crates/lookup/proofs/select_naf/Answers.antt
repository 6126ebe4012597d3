-- The first test that holds gives the number; else every entry is a member.
use mathlib.Core.Path.{sym, ap, ap₂, ◌∙◌}
use lib.IntN.{nat_abs}
use Rattle.std.proofs.lemmas.Result.{err_from_is_err_and}
use Rattle.laws.specs.Results.{passed-as-0, handed-on}
use Rattle.rules.specs.Values.{element_at}
use Rattle.rules.specs.Group.{elements}
use Rattle.rules.specs.Loops.{odd_entry}
use Rattle.rules.specs.Windows.{select_naf}
use Rattle.digit.proofs.Machine.{back8}
use Rattle.laws.specs.Results.{refused-value}
use Rattle.limbs.proofs.Done.{done-value}
use Rattle.lookup.proofs.Lookups.{by_sign, number-odd, found-odd}
use Rattle.lookup.proofs.select_naf.Goals as goal

pub returns-in_err-lookup_refusal : goal.returns-in_err-lookup_refusal
unfolding select_naf
returns-in_err-lookup_refusal c =
    let m = c.magnitude-a.ensures ∙ ap nat_abs (back8 _ c.ranges.d) in
    let p = err_from_is_err_and c.from_residual.result c.from_residual.ensures.1 in
    refused-value (handed-on p.1 p.2 c.in_err-lookup_refusal.was (number-odd c.args.n c.args.window.now c.args.d m c.lookup_refusal.ensures)) _

pub returns : goal.returns
unfolding select_naf
returns c =
    let e = back8 _ c.ranges.d in
    let z = sym (number-odd c.args.n c.args.window.now c.args.d (c.magnitude-a.ensures ∙ ap nat_abs e) c.lookup_refusal.ensures) ∙ (passed-as-0 c.in_ok-lookup_refusal.was) in
    done-value z _
    (c.by_sign.ensures
    ∙ ap₂ (by_sign elements) e (c.element_at.ensures ∙ ap (element_at c.args.window.now) (c.odd_entry.ensures ∙ ap odd_entry e))
    ∙ found-odd c.args.n c.args.window.now (λ i. (c.type_inv.window i).fits) c.args.d z)
