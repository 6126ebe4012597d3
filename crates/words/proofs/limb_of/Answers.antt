-- A limb: what its eight bytes say.
use Rattle.std.proofs.Common.{ℕ, ◌*◌, List, [], get_or, ap, ◌∙◌, arith}
use Rattle.words.proofs.Eight.{chunk_at, eight-says}
use Rattle.words.proofs.limb_of.Goals as goal

pub returns : goal.returns
returns c =
    let l = c.args.bytes.now in
    let i = c.args.i in
    c.from_le_bytes.ensures
    ∙ eight-says l (8 * i) (get_or c.as_chunks.result.0.now i []) (λ k h. ap (λ (x : List (List ℕ)). get_or (get_or x i []) k 0) c.as_chunks.ensures.front ∙ chunk_at 8 _ l i k (omega arith) h)
