-- What `walked` leaves, for lists of m and m' rows whose entries are members.
use mathlib.Core.Path.{◌≡◌, ap, ap₂, ◌∙◌}
use mathlib.Core.List.{List}
use Prim.Native.Nat.{ℕ, ◌+◌, ◌*◌, ◌/◌, ◌%◌, ◌<◌, min}
use native.Mathlib.Nat.{mul-div_cancel_left, min-eq_left, le_refl}
use lib.ListN.{length}
use lib.IntN.{ℤ}
use lib.Dec.{lit<}
use Rattle.rules.specs.declared.Element.{Element}
use Rattle.rules.specs.declared.Walk.{Walk}
use Rattle.rules.specs.Values.{element_of, point_at}
use Rattle.rules.specs.Group.{L, elements}
use Rattle.rules.specs.Loops.{walk, weight}
use Rattle.rules.specs.Batch.{slot_digit}
use Rattle.rules.specs.Engines.{entry_sum, entry_at}
use Rattle.rules.specs.Helpers.{entry_in, window_entry, windowed_rows, walked}
use Rattle.laws.specs.Walk.{Named}
use Rattle.columns.proofs.Entries.{walk-element}

-- lists of exactly m rows, each with a window of n limbs
pub rows_are : (n m : ℕ) (ds : List ℤ) (ws : List ℕ) → 0 < n → length ds ≡ 256 * m → length ws ≡ n * m → windowed_rows n ds ws ≡ m
unfolding windowed_rows
rows_are n m ds ws h e g =
    ap₂ min (ap (λ (k : ℕ). k / 256) e ∙ mul-div_cancel_left m (lit< tt)) (ap (λ (k : ℕ). k / n) g ∙ mul-div_cancel_left m h)
    ∙ min-eq_left (le_refl m)

-- an element, and what it took
abbrev pub took : Element → ℕ → ℕ → Walk
took e a n = record { element = e; additions = a; doublings = n }

module _ (ds : List ℤ) (ws : List ℕ) (ds' : List ℤ) (ts : List ℕ) (p m m' n : ℕ) (rows : windowed_rows 32 ds ws ≡ m)
    (rows' : windowed_rows 256 ds' ts ≡ m') (places : min p 256 ≡ n) where
  pub walked-entries : Named (λ a. a < L) (slot_digit ds) (entry_at 32 ws) m n → Named (λ a. a < L) (slot_digit ds') (entry_at 256 ts) m' n
      → walked ds ws ds' ts p
      ≡ took (element_of ((entry_sum (slot_digit ds) (entry_at 32 ws) m n + entry_sum (slot_digit ds') (entry_at 256 ts) m' n) % L))
      (weight (slot_digit ds) m n + weight (slot_digit ds') m' n) n
  unfolding walked entry_at point_at entry_in
  walked-entries h h' =
      ap (λ (m : ℕ). all m (windowed_rows 256 ds' ts) (min p 256)) rows
      ∙ ap (λ (m' : ℕ). all m m' (min p 256)) rows'
      ∙ ap (all m m') places
      ∙ ap (λ (e : Element). took e (weight (slot_digit ds) m n + weight (slot_digit ds') m' n) n)
      (walk-element (slot_digit ds) m (slot_digit ds') m' n (window_entry 32 ws) (window_entry 256 ts) h h')
    where
      all : ℕ → ℕ → ℕ → Walk
      all m m' n =
          took (walk elements (slot_digit ds) (window_entry 32 ws) m (slot_digit ds') (window_entry 256 ts) m' n) (weight (slot_digit ds) m n + weight (slot_digit ds') m' n) n
