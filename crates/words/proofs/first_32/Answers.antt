-- What the list has, and 0 past its end.
use Rattle.std.proofs.Common.{ℕ, ◌++◌, drop, List, get_or, ap, ◌∙◌, replicate}
use Rattle.words.proofs.Eight.{padded, zeros}
use Rattle.words.proofs.first_32.Goals as goal

pub returns : goal.returns
returns c = λ k h. ap (λ (x : List ℕ). get_or (x ++ drop c.min-n.result (replicate 32 0)) k 0) c.copy_from_slice.ensures.after ∙ padded c.args.bytes.now (replicate 32 0) c.min-n.result k c.min-n.ensures (zeros 32) h
