-- NAF Straus where all has passed: that its parts lie in the room, what it took, and what it leaves.
use mathlib.Core.Path.{◌≡◌, refl, sym, ap, ap₂, ◌∙◌}
use mathlib.Core.List.{List, []}
use Prim.Native.Nat.{ℕ, ◌+◌, ◌*◌, ◌%◌, ◌<◌, ◌≤◌}
use native.Mathlib.Nat.{add-zero}
use native.Mathlib.Omega.{arith}
use lib.ListN.{length, get_or, take}
use lib.Dec.{lit≤}
use lib.IntN.{ℤ, pos}
use Rattle.std.specs.Prelude.{Ok}
use Rattle.rules.specs.declared.Counts.{Counts}
use Rattle.rules.specs.declared.Row.TheVariants.{Naf}
use Rattle.rules.specs.declared.Window.TheVariants.{Odd8}
use Rattle.rules.specs.declared.Walk.{Walk}
use Rattle.rules.specs.Values.{limb, element_of, point_at, scalar_at}
use Rattle.rules.specs.Group.{L, residues, total}
use Rattle.rules.specs.Loops.{weight}
use Rattle.rules.specs.Numbers.{cleared}
use Rattle.rules.specs.Rows.{naf_row}
use Rattle.rules.specs.Windows.{odd, limbs_flat}
use Rattle.rules.specs.Lists.{pairs}
use Rattle.rules.specs.Engines.{products, rows_digit, entry_sum, naf_straus_refusal, naf_straus}
use Rattle.rules.specs.Helpers.{Made, windowed_rows, walked, laid, laid_rows, laid_windows}
use Rattle.rules.specs.Results.{as_sum}
use Rattle.laws.specs.Weight.{weight-le}
use Rattle.laws.specs.NafRows.{naf-length}
use Rattle.laws.specs.RadixRows.{scalar-has-row}
use Rattle.laws.proofs.Room.{room-done}
use Rattle.laws.proofs.Laid.{laid-front, laid-cleared}
use Rattle.lent.proofs.Passed.{pairs-points}
use Rattle.limbs.proofs.Done.{done-sum}
use Rattle.window.proofs.Flat.{limbs-length}
use Rattle.laying.proofs.Built.{naf-laid, odd8-laid}
use Rattle.columns.proofs.Walked.{took}
use Rattle.columns.proofs.Slots.{walked-slots}
use Rattle.straus.proofs.Refusing.{Ready, naf-ready}
use Rattle.straus.proofs.Answering.{after}

module _ (ss ps fs : List ℕ) (ds : List ℤ) (ls : List ℕ) {m : ℕ} (em : m ≡ pairs ss ps) (z : naf_straus_refusal ss ps fs (length ds) (length ls) ≡ 0) where
  pub naf-ok : Ready 256 ss ps m (length ds) (length ls)
  naf-ok = naf-ready ss ps (length ds) (length ls) em fs z

  abbrev row_of : ℕ → List ℤ
  row_of i = naf_row 5 (scalar_at ss i)

  abbrev window_of : ℕ → List ℕ
  window_of i = limbs_flat (odd residues (point_at ps i)) 8

  row-long : (i : ℕ) → i < m → length (row_of i) ≡ 256
  row-long i _ = naf-length 5 (scalar_at ss i)

  window-long : (i : ℕ) → i < m → length (window_of i) ≡ 32
  window-long i _ = limbs-length (odd residues (point_at ps i)) 8

  module _ (range : (k : ℕ) → get_or ps k 0 < limb) {c : Counts} {d : List ℤ} {l : List ℕ} (recoded : d ≡ laid_rows (Naf 5) ss m ds)
      (made : ◌≡◌ {A = Made} (record { counts = c; limbs = l }) (laid_windows Odd8 ps m ls)) where
    rows : d ≡ laid 256 row_of m ds
    rows = recoded ∙ naf-laid 5 (lit≤ tt) ss m ds (omega (arith, naf-ok.scalars)) (lit≤ tt) naf-ok.digits

    all : ◌≡◌ {A = Made} (record { counts = c; limbs = l }) (record { counts = record { additions = 7 * m; doublings = m }; limbs = laid 32 window_of m ls })
    all = made ∙ odd8-laid ps m ls (omega (arith, em, pairs-points ss ps)) range naf-ok.members naf-ok.limbs

    windows : l ≡ laid 32 window_of m ls
    windows = ap (λ (t : Made). t.limbs) all

    module _ {k : Walk} (went : k ≡ walked (take (256 * m) d) (take (32 * m) l) [] [] 256) where
      abbrev over : ℕ
      over = weight (rows_digit (naf_row 5) ss) m 256

      walk_is : k ≡ record { element = element_of (products ss ps m % L); additions = over; doublings = 256 }
      unfolding windowed_rows entry_sum weight total products rows_digit
      walk_is =
          went
          ∙ ap₂ (λ (x : List ℤ) (y : List ℕ). walked x y [] [] 256)
          (ap (take (256 * m)) rows ∙ laid-front 256 row_of m ds row-long)
          (ap (take (32 * m)) windows ∙ laid-front 32 window_of m ls window-long)
          ∙ walked-slots (scalar_at ss) (point_at ps) m (λ i p. scalar-has-row (naf-ok.small-ones i p)) naf-ok.members [] [] 0 refl (λ i j p _. absurd (omega arith))
          ∙ ap₂ (λ (v a : ℕ). took (element_of (v % L)) a 256) (add-zero (products ss ps m)) (add-zero over)

      pub naf-counts : (c.additions + k.additions ≡ 7 * m + over) × (c.doublings + k.doublings ≡ 256 + m) × (over ≤ m * 256)
      naf-counts =
          let a : c.additions ≡ 7 * m = ap (λ (t : Made). t.counts.additions) all in
          let b : c.doublings ≡ m = ap (λ (t : Made). t.counts.doublings) all in
          let e : k.additions ≡ over = ap (λ (t : Walk). t.additions) walk_is in
          let f : k.doublings ≡ 256 = ap (λ (t : Walk). t.doublings) walk_is in
          (omega arith, omega arith, weight-le (rows_digit (naf_row 5) ss) m 256)

      pub naf-done : {d' : List ℤ} {l' : List ℕ} → d' ≡ cleared (pos 0) (256 * m) d → l' ≡ cleared 0 (32 * m) l → record { result = as_sum (Ok (record { element = k.element; additions = c.additions + k.additions; doublings = c.doublings + k.doublings })); digits = d'; limbs = l' } ≡ naf_straus ss ps fs ds ls
      unfolding naf_straus
      naf-done g h =
          rw (sym naf-ok.pairs-are)
          (after (done-sum z _ (ap (λ (t : Walk). t.element) walk_is) naf-counts.0 naf-counts.1)
          (g ∙ ap (cleared (pos 0) (256 * m)) rows ∙ laid-cleared 256 row_of m ds row-long (pos 0) (256 * m) naf-ok.digits (omega arith) ∙ sym (rw z (room-done (pos 0) (256 * m) ds)))
          (h ∙ ap (cleared 0 (32 * m)) windows ∙ laid-cleared 32 window_of m ls window-long 0 (32 * m) naf-ok.limbs (omega arith) ∙ sym (rw z (room-done 0 (32 * m) ls))))
