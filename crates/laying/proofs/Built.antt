-- What laying leaves where there is room for all: the rows of the scalars; the windows of the points, of residues where these are members.
use mathlib.Core.Path.{◌≡◌, refl, ap, ap₂, ◌∙◌}
use mathlib.Core.List.{List}
use Prim.Native.Nat.{ℕ, ◌-◌, ◌*◌, ◌<◌, ◌≤◌, min}
use native.Mathlib.Nat.{min-eq_left, le_refl, one-mul, zero-mul}
use native.Mathlib.Omega.{arith}
use lib.ListN.{length, get_or, take, drop}
use lib.Seq.{take-take}
use lib.IntN.{ℤ}
use borrow.Author.Tests.{le-ltb}
use Rattle.rules.specs.declared.Row.TheVariants.{Naf, Radix}
use Rattle.rules.specs.declared.Window.{Window}
use Rattle.rules.specs.declared.Window.TheVariants.{Successive8, Odd8, Odd64}
use Rattle.rules.specs.Values.{limb, number, part, element_at, point_at, scalar_at}
use Rattle.rules.specs.Group.{L, elements, residues}
use Rattle.rules.specs.Rows.{naf_row, radix_row, width_off, naf_row_of, radix_row_of}
use Rattle.rules.specs.Windows.{successive, odd, limbs_flat}
use Rattle.rules.specs.Lists.{scalar_count, point_count}
use Rattle.rules.specs.Helpers.{elements_flat, Made, laid, fitting, row_places, row_of, laid_rows, window_entries, window_of, window_doublings, laid_windows}
use Rattle.laws.proofs.Laid.{laid-ext}
use Rattle.laws.proofs.Laying.{fitting-all}
use Rattle.window.proofs.Flat.{read-ranged, odd-limbs}
use Rattle.laying.proofs.Parts.{cost}

-- n of c, and room for n
all : {A : Type 0} (u n c : ℕ) (l : List A) → 0 < u → n ≤ c → u * n ≤ length l → fitting u (min n c) l ≡ n
all u n c l some h g = ap (λ (k : ℕ). fitting u k l) (min-eq_left h) ∙ fitting-all u n l some g

module _ (w : ℕ) (hi : w ≤ 8) (ss : List ℕ) (n : ℕ) (ds : List ℤ) (there : n ≤ scalar_count ss) where
  bytes : (i : ℕ) → number 256 (take 32 (part 32 i ss)) ≡ scalar_at ss i
  unfolding scalar_at part
  bytes i = ap (number 256) (take-take 32 32 (drop (32 * i) ss) (le_refl 32))

  pub naf-laid : 2 ≤ w → 256 * n ≤ length ds → laid_rows (Naf w) ss n ds ≡ laid 256 (λ i. naf_row w (scalar_at ss i)) n ds
  unfolding laid_rows row_places row_of naf_row_of width_off
  naf-laid lo room =
      ap (λ (m : ℕ). laid 256 (λ i. row_of (Naf w) (part 32 i ss)) m ds) (all 256 n (scalar_count ss) ds (omega arith) there room)
      ∙ laid-ext 256 n ds (λ i p. rw (le-ltb w 2 lo, le-ltb 8 w hi) (ap (naf_row w) (bytes i)))

  pub radix-laid : 4 ≤ w → 64 * n ≤ length ds → laid_rows (Radix w) ss n ds ≡ laid 64 (λ i. radix_row w (scalar_at ss i)) n ds
  unfolding laid_rows row_places row_of radix_row_of width_off
  radix-laid lo room =
      ap (λ (m : ℕ). laid 64 (λ i. row_of (Radix w) (part 32 i ss)) m ds) (all 64 n (scalar_count ss) ds (omega arith) there room)
      ∙ laid-ext 64 n ds (λ i p. rw (le-ltb w 4 lo, le-ltb 8 w hi) (ap (radix_row w) (bytes i)))

-- so many windows, and what they took
abbrev made : ℕ → ℕ → List ℕ → Made
made a d l = record { counts = record { additions = a; doublings = d }; limbs = l }

module _ (ps : List ℕ) (n : ℕ) (ls : List ℕ) (there : n ≤ point_count ps) where
  fit : (k : Window) → 4 * window_entries k * n ≤ length ls
      → laid_windows k ps n ls ≡ made ((window_entries k - 1) * n) (window_doublings k * n) (laid (4 * window_entries k) (λ i. window_of k (element_at ps i)) n ls)
  unfolding laid_windows
  fit k room =
      ap (λ (m : ℕ). made ((window_entries k - 1) * m) (window_doublings k * m) (laid (4 * window_entries k) (λ i. window_of k (element_at ps i)) m ls))
      (all (4 * window_entries k) n (point_count ps) ls (omega (arith, (cost k).some)) there room)

  pub successive-laid : 32 * n ≤ length ls → laid_windows Successive8 ps n ls ≡ made (7 * n) 0 (laid 32 (λ i. elements_flat (successive elements (element_at ps i)) 8) n ls)
  unfolding window_entries window_doublings window_of
  successive-laid room = fit Successive8 room ∙ ap₂ (made (7 * n)) (zero-mul n) refl

  -- of members
  module _ (range : (k : ℕ) → get_or ps k 0 < limb) (members : (i : ℕ) → i < n → point_at ps i < L) where
    odds : (u e : ℕ) → laid u (λ i. elements_flat (odd elements (element_at ps i)) e) n ls ≡ laid u (λ i. limbs_flat (odd residues (point_at ps i)) e) n ls
    unfolding point_at
    odds u e = laid-ext u n ls (λ i p. odd-limbs (element_at ps i) (read-ranged ps range i) (members i p) e)

    pub odd8-laid : 32 * n ≤ length ls → laid_windows Odd8 ps n ls ≡ made (7 * n) n (laid 32 (λ i. limbs_flat (odd residues (point_at ps i)) 8) n ls)
    unfolding window_entries window_doublings window_of
    odd8-laid room = fit Odd8 room ∙ ap₂ (made (7 * n)) (one-mul n) (odds 32 8)

    pub odd64-laid : 256 * n ≤ length ls → laid_windows Odd64 ps n ls ≡ made (63 * n) n (laid 256 (λ i. limbs_flat (odd residues (point_at ps i)) 64) n ls)
    unfolding window_entries window_doublings window_of
    odd64-laid room = fit Odd64 room ∙ ap₂ (made (63 * n)) (one-mul n) (odds 256 64)
