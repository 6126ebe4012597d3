-- The loop down the columns, with the rows and the places that there are.
use mathlib.Core.Path.{◌≡◌, ap, ap₂, ◌∙◌}
use mathlib.Core.List.{List}
use Prim.Native.Nat.{ℕ, ◌+◌, min}
use native.Mathlib.Omega.{arith}
use lib.IntN.{ℤ}
use Rattle.rules.specs.declared.Element.{Element}
use Rattle.rules.specs.declared.Walk.{Walk}
use Rattle.rules.specs.Group.{elements}
use Rattle.rules.specs.Helpers.{window_entry, windowed_rows, walked}
use Rattle.laws.specs.Running as R
use Rattle.columns.specs.Running.{run}

module _ (ds : List ℤ) (ws : List ℕ) (ds' : List ℤ) (ts : List ℕ) (places : ℕ) where
  abbrev Rest : Walk → ℕ → Type 0
  Rest w j = R.Walking elements ds (window_entry 32 ws) (windowed_rows 32 ds ws) ds' (window_entry 256 ts) (windowed_rows 256 ds' ts) (min places 256) (run w) j

  -- j places are still to come, and there was a doubling for each that has been
  pub record Walking (w : Walk) (j : ℕ) : Type 0 where
    pub rest : Rest w j
    pub doublings : w.doublings + j ≡ min places 256

  pub walking-end : (w : Walk) (j : ℕ) → Walking w j → j ≡ 0 → w ≡ walked ds ws ds' ts places
  unfolding walked
  walking-end w j h e =
      let z = R.walking-end elements ds (window_entry 32 ws) (windowed_rows 32 ds ws) ds' (window_entry 256 ts) (windowed_rows 256 ds' ts) (min places 256) (run w) j h.rest e in
      let d : w.doublings ≡ min places 256 = omega (arith, h.doublings) in
      ap₂ (λ (x : Element) (a : ℕ). took x a w.doublings) z.0 z.1 ∙ ap (took _ _) d
    where
      took : Element → ℕ → ℕ → Walk
      took e a n = record { element = e; additions = a; doublings = n }
