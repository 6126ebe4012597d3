-- The four limbs of the sum, as bytes.
use mathlib.Core.Path.{ap, ◌∙◌}
use mathlib.Core.List.{List}
use Prim.Native.Nat.{ℕ}
use Rattle.rules.specs.Values.{places, element_at, point_at}
use Rattle.reader.proofs.Modulo.{says-bytes}
use Rattle.reader.proofs.row_bytes.Goals as goal

pub returns : goal.returns
unfolding point_at element_at
returns c = says-bytes _ _ _ c.row_sum.ensures _ (c.bytes.ensures ∙ ap (λ (l : List ℕ). places 256 32 (point_at l 0)) c.array-limbs.ensures)
