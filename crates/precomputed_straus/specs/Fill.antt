-- What the walk over both kinds of row asks, and what it gives.
use Rattle.std.specs.Prelude.{◌≡◌, false, List, ℕ, ◌+◌, ◌*◌, ◌/◌, ◌%◌, ◌<◌, ◌≤◌, get_or, length}
use Rattle.rules.specs.declared.Walk.{Walk}
use Rattle.rules.specs.Values.{limb, element_of, point_at, scalar_at}
use Rattle.rules.specs.Group.{L}
use Rattle.rules.specs.Loops.{weight}
use Rattle.rules.specs.Numbers.{most, row_bound}
use Rattle.rules.specs.Rows.{naf_row}
use Rattle.rules.specs.Windows.{any_over}
use Rattle.rules.specs.Lists.{scalar_count, point_count}
use Rattle.rules.specs.Engines.{products, rows_digit, entry_sum, entry_at}

-- lists that have passed every test, with room of so many digits and limbs
pub record Ready (ts sss ss ps : List ℕ) (digits limbs : ℕ) : Type 0 where
  pub few : scalar_count ss ≤ most
  pub few-static : scalar_count sss ≤ most
  pub even : point_count ps ≡ scalar_count ss
  pub tabled : scalar_count sss ≤ length ts / 256
  pub rows : digits ≡ 256 * (scalar_count sss + scalar_count ss)
  pub windows : limbs ≡ 32 * scalar_count ss
  pub small : (i : ℕ) → i < scalar_count ss → scalar_at ss i < row_bound
  pub limb-range : (k : ℕ) → get_or ps k 0 < limb
  pub under : (i : ℕ) → i < scalar_count ss → point_at ps i < L
  pub entries : any_over ts ≡ false

-- the sum, the additions and the doublings of a mixed sum that is done
unfoldable pub mixed_walk : List ℕ → List ℕ → List ℕ → List ℕ → Walk
mixed_walk ts sss ss ps = record {
  element = element_of ((products ss ps (scalar_count ss) + entry_sum (rows_digit (naf_row 8) sss) (entry_at 256 ts) (scalar_count sss) 256) % L);
  additions = 7 * scalar_count ss + (weight (rows_digit (naf_row 5) ss) (scalar_count ss) 256 + weight (rows_digit (naf_row 8) sss) (scalar_count sss) 256);
  doublings = 256 + scalar_count ss;
}
