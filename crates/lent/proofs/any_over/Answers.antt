-- A search by the value of each element.
use Rattle.std.proofs.Common.{arith, refl, ◌∙◌, rules, tests, ℕ, ◌/◌, length, leb}
use Rattle.std.proofs.lemmas.Iterator.{YieldsList-from_range}
use Rattle.std.proofs.lemmas.Iterator.Search.{any_from_yields_List}
use Rattle.rules.specs.Values.{value_of, element_at, point_at}
use Rattle.rules.specs.Group.{L}
use Rattle.rules.specs.Windows.{over, any_over}
use Rattle.lent.proofs.Search.{places-below}
use Rattle.lent.proofs.any_over.Goals as goal

pub returns : goal.returns
unfolding any_over over point_at
returns c =
    let l = c.args.limbs.now in
    let n : ℕ = length l / 4 in
    any_from_yields_List (λ i. leb L (value_of (element_at l i))) _ _ _ c.any.ensures.ran (YieldsList-from_range 0 n n refl (omega arith)) (λ x b q k. search (rules, tests))
    ∙ places-below _ _ n (λ i. refl)
