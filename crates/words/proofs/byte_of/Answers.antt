-- A byte of a limb, and 0 past its eight.
use Rattle.std.proofs.Common.{◌∙◌, ap, List, ℕ, get_or, arith}
use Rattle.words.proofs.Eight.{byte-is}
use Rattle.words.proofs.byte_of.Goals as goal

pub returns : goal.returns
returns c = c.byte_at.ensures ∙ ap (λ (l : List ℕ). get_or l c.args.k 0) c.to_le_bytes.ensures ∙ byte-is c.args.x c.args.k (omega arith)
