-- Buckets of four limbs in flat memory: an element stored, a point put by its digit.
use Rattle.std.specs.Prelude.{List, ℕ, ◌+◌, ◌*◌, set, ℤ}
use Rattle.rules.specs.declared.Element.{Element}
use Rattle.rules.specs.Values.{element_at}
use Rattle.rules.specs.Group.{elements}
use Rattle.laws.specs.Cells.{put_in, put_rows_in}

-- flat limbs with element k replaced
unfoldable pub replaced : List ℕ → ℕ → Element → List ℕ
replaced l k e = set (set (set (set l (4 * k) e.l0) (4 * k + 1) e.l1) (4 * k + 2) e.l2) (4 * k + 3) e.l3

abbrev pub put_flat : ℤ → Element → List ℕ → List ℕ
put_flat = put_in elements element_at replaced

abbrev pub put_rows : List ℤ → List ℕ → ℕ → ℕ → List ℕ → List ℕ
put_rows ds ps = put_rows_in elements element_at replaced ds (element_at ps)
