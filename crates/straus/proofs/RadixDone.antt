-- Radix-16 Straus where all has passed: what it asks of the walk, what it took, and what it leaves.
use mathlib.Core.Path.{◌≡◌, refl, sym, ap, ap₂, ◌∙◌}
use mathlib.Core.List.{List}
use Prim.Native.Nat.{ℕ, ◌+◌, ◌*◌, ◌/◌, ◌%◌, ◌<◌, min}
use native.Mathlib.Nat.{mul-div_cancel_left, min-eq_left, le_refl}
use native.Mathlib.Omega.{arith}
use lib.ListN.{length, take}
use lib.Dec.{lit<, lit≤}
use lib.IntN.{ℤ, pos}
use Rattle.std.specs.Prelude.{Ok}
use Rattle.rules.specs.declared.Counts.{Counts}
use Rattle.rules.specs.declared.Row.TheVariants.{Radix}
use Rattle.rules.specs.declared.Window.TheVariants.{Successive8}
use Rattle.rules.specs.declared.Walk.{Walk}
use Rattle.rules.specs.Values.{element_of, flat, element_at, point_at, scalar_at}
use Rattle.rules.specs.Group.{L, elements}
use Rattle.rules.specs.Numbers.{cleared}
use Rattle.rules.specs.Rows.{digit, radix_row}
use Rattle.rules.specs.Windows.{successive}
use Rattle.rules.specs.Lists.{pairs}
use Rattle.rules.specs.Engines.{products, radix_straus_refusal, radix_straus}
use Rattle.rules.specs.Helpers.{elements_flat, looked_up, Made, laid, laid_rows, laid_windows}
use Rattle.rules.specs.Results.{as_sum}
use Rattle.laws.proofs.Room.{room-done}
use Rattle.laws.proofs.Laid.{laid-front, laid-cleared}
use Rattle.laws.specs.Parts.{flat-length, flat-part}
use Rattle.laws.specs.RadixRows.{radix-length}
use Rattle.lent.proofs.Passed.{pairs-points}
use Rattle.limbs.proofs.Done.{done-sum}
use Rattle.window.proofs.Flat.{elements-length}
use Rattle.lookup.proofs.RadixSums.{radix16-walked}
use Rattle.laying.proofs.Built.{radix-laid, successive-laid}
use Rattle.straus.specs.Radix.{radix_rows, row_entry, radix_walked}
use Rattle.straus.proofs.Refusing.{Ready, radix-ready}
use Rattle.straus.proofs.Answering.{after}

module _ (ss ps : List ℕ) (ds : List ℤ) (ls : List ℕ) {m : ℕ} (em : m ≡ pairs ss ps) (z : radix_straus_refusal ss ps (length ds) (length ls) ≡ 0) where
  pub radix-ok : Ready 64 ss ps m (length ds) (length ls)
  radix-ok = radix-ready ss ps (length ds) (length ls) em z

  abbrev row_of : ℕ → List ℤ
  row_of i = radix_row 4 (scalar_at ss i)

  abbrev window_of : ℕ → List ℕ
  window_of i = elements_flat (successive elements (element_at ps i)) 8

  row-long : (i : ℕ) → i < m → length (row_of i) ≡ 64
  row-long i _ = radix-length 4 (lit≤ tt) (lit≤ tt) (scalar_at ss i)

  window-long : (i : ℕ) → i < m → length (window_of i) ≡ 32
  window-long i _ = elements-length (successive elements (element_at ps i)) 8

  module _ {c : Counts} {d : List ℤ} {l : List ℕ} (recoded : d ≡ laid_rows (Radix 4) ss m ds)
      (made : ◌≡◌ {A = Made} (record { counts = c; limbs = l }) (laid_windows Successive8 ps m ls)) where
    rows : d ≡ laid 64 row_of m ds
    rows = recoded ∙ radix-laid 4 (lit≤ tt) ss m ds (omega (arith, radix-ok.scalars)) (lit≤ tt) radix-ok.digits

    all : ◌≡◌ {A = Made} (record { counts = c; limbs = l }) (record { counts = record { additions = 7 * m; doublings = 0 }; limbs = laid 32 window_of m ls })
    all = made ∙ successive-laid ps m ls (omega (arith, em, pairs-points ss ps)) radix-ok.limbs

    windows : l ≡ laid 32 window_of m ls
    windows = ap (λ (t : Made). t.limbs) all

    abbrev fronts : List ℤ
    fronts = flat row_of m

    abbrev tables : List ℕ
    tables = flat window_of m

    rows_are : radix_rows fronts tables ≡ m
    unfolding radix_rows
    rows_are =
        ap₂ min (ap (λ (k : ℕ). k / 64) (flat-length 64 row_of m row-long) ∙ mul-div_cancel_left m (lit< tt))
        (ap (λ (k : ℕ). k / 32) (flat-length 32 window_of m window-long) ∙ mul-div_cancel_left m (lit< tt))
        ∙ min-eq_left (le_refl m)

    looks : (i j : ℕ) → i < m → j < 64 → row_entry fronts tables i j ≡ looked_up 8 (window_of i) (digit (row_of i) j)
    unfolding row_entry
    looks i j p _ = rw (flat-part 32 window_of m i window-long p, flat-part 64 row_of m i row-long p) refl

    module _ {k : Walk} (went : k ≡ radix_walked (take (64 * m) d) (take (32 * m) l) (radix_rows (take (64 * m) d) (take (32 * m) l))) where
      walked : k ≡ radix_walked fronts tables m
      walked =
          went
          ∙ ap₂ (λ (x : List ℤ) (y : List ℕ). radix_walked x y (radix_rows x y))
          (ap (take (64 * m)) rows ∙ laid-front 64 row_of m ds row-long)
          (ap (take (32 * m)) windows ∙ laid-front 32 window_of m ls window-long)
          ∙ ap (radix_walked fronts tables) rows_are

      element-is : k.element ≡ element_of (products ss ps m % L)
      unfolding radix_walked products point_at
      element-is = ap (λ (t : Walk). t.element) walked ∙ radix16-walked (row_entry fronts tables) (element_at ps) (scalar_at ss) m radix-ok.members radix-ok.small-ones looks

      pub radix-counts : (c.additions + k.additions ≡ 71 * m) × (c.doublings + k.doublings ≡ 256)
      unfolding radix_walked
      radix-counts =
          let a : c.additions ≡ 7 * m = ap (λ (t : Made). t.counts.additions) all in
          let b : k.additions ≡ 64 * m = ap (λ (t : Walk). t.additions) walked in
          (omega arith, ap₂ ◌+◌ (ap (λ (t : Made). t.counts.doublings) all) (ap (λ (t : Walk). t.doublings) walked))

      pub radix-done : {d' : List ℤ} {l' : List ℕ} → d' ≡ cleared (pos 0) (64 * m) d → l' ≡ cleared 0 (32 * m) l → record { result = as_sum (Ok (record { element = k.element; additions = c.additions + k.additions; doublings = c.doublings + k.doublings })); digits = d'; limbs = l' } ≡ radix_straus ss ps ds ls
      unfolding radix_straus
      radix-done g h =
          rw (sym radix-ok.pairs-are)
          (after (done-sum z _ element-is radix-counts.0 radix-counts.1)
          (g ∙ ap (cleared (pos 0) (64 * m)) rows ∙ laid-cleared 64 row_of m ds row-long (pos 0) (64 * m) radix-ok.digits (omega arith) ∙ sym (rw z (room-done (pos 0) (64 * m) ds)))
          (h ∙ ap (cleared 0 (32 * m)) windows ∙ laid-cleared 32 window_of m ls window-long 0 (32 * m) radix-ok.limbs (omega arith) ∙ sym (rw z (room-done 0 (32 * m) ls))))
