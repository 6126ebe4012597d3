-- A search by the top byte of each scalar.
use Rattle.std.proofs.Common.{ap, ◌∙◌, rules, tests, ℕ, ◌/◌, Bool, List, length, get_or, ltb}
use Rattle.std.specs.List.{list_any}
use Rattle.std.proofs.lemmas.Iterator.{YieldsList-from_slice}
use Rattle.std.proofs.lemmas.Iterator.Search.{any_from_yields_List}
use Rattle.rules.specs.Lists.{any_big}
use Rattle.lent.proofs.Search.{chunks-below}
use Rattle.lent.proofs.TopByte.{top-is}
use Rattle.lent.proofs.any_big.Goals as goal

-- a scalar's top byte is above 127
abbrev big : List ℕ → Bool
big s = ltb 127 (get_or s 31 0)

pub returns : goal.returns
unfolding any_big
returns c =
    let l = c.args.scalars.now in
    let xs : List (List ℕ) = c.as_chunks.result.0.now in
    any_from_yields_List big _ _ _ c.any.ensures.ran (YieldsList-from_slice xs cc) (λ x b q k. search (rules, tests))
    ∙ ap (λ (x : List (List ℕ)). list_any big x) c.as_chunks.ensures.front
    ∙ chunks-below 32 big _ l (length l / 32) (top-is l (λ i. (c.type_inv.scalars i).fits))
