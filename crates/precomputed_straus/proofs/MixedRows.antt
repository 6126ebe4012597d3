-- The walk over dynamic pairs and static rows, laid one behind the other: its sum and its counts.
use mathlib.Core.Path.{◌≡◌, ap, ap₂, ◌∙◌}
use mathlib.Core.List.{List, ◌++◌, append-nil}
use Prim.Native.Nat.{ℕ, ◌+◌, ◌-◌, ◌*◌, ◌%◌, ◌^◌, ◌<◌}
use native.Mathlib.Omega.{arith}
use lib.ListN.{length, take, drop, length-append, length-drop, drop_of_length-le}
use lib.Seq.{length-take-le, take_at, drop_at, take_all}
use lib.IntN.{ℤ}
use lib.Dec.{lit≤}
use Rattle.rules.specs.declared.Counts.{Counts}
use Rattle.rules.specs.declared.Row.TheVariants.{Naf}
use Rattle.rules.specs.declared.Window.TheVariants.{Odd8}
use Rattle.rules.specs.declared.Walk.{Walk}
use Rattle.rules.specs.Values.{element_of, flat, point_at, scalar_at}
use Rattle.rules.specs.Group.{L, residues}
use Rattle.rules.specs.Loops.{weight}
use Rattle.rules.specs.Rows.{naf_row}
use Rattle.rules.specs.Windows.{odd, limbs_flat}
use Rattle.rules.specs.Lists.{scalar_count}
use Rattle.rules.specs.Engines.{products, rows_digit, entry_sum, entry_at}
use Rattle.rules.specs.Helpers.{Made, windowed_rows, walked, laid_rows, laid_windows}
use Rattle.laws.specs.Parts.{flat-length}
use Rattle.laws.proofs.Laid.{laid-front, laid-all}
use Rattle.laws.specs.Weight.{weight-le}
use Rattle.laws.specs.NafRows.{naf-length}
use Rattle.window.proofs.Flat.{limbs-length}
use Rattle.laying.proofs.Built.{naf-laid, odd8-laid}
use Rattle.columns.proofs.Walked.{took}
use Rattle.columns.proofs.Slots.{naf_rows, slot-weight, slot-entries, walked-slots}
use Rattle.columns.proofs.Under.{entry-under}
use Rattle.precomputed_straus.specs.Fill.{Ready, mixed_walk}

-- xs laid into y from the place n on
abbrev behind : ℕ → List ℤ → List ℤ → List ℤ
behind n y xs = take n y ++ (xs ++ drop (length y - n) (drop n y))

module _ (n m : ℕ) (y xs : List ℤ) (room : length y ≡ n + m) (rest : length xs ≡ m) where
  first : length (take n y) ≡ n
  first = length-take-le n y (omega arith)

  behind-is : behind n y xs ≡ take n y ++ xs
  behind-is =
      ap (λ (t : List ℤ). take n y ++ (xs ++ t)) (drop_of_length-le (drop n y) {i = length y - n} (simp length-drop (omega arith)))
      ∙ ap (λ (t : List ℤ). take n y ++ t) (append-nil xs)

  front-is : take n (behind n y xs) ≡ take n y
  front-is = ap (take n) behind-is ∙ take_at (take n y) xs n first

  back_is : take (length (behind n y xs) - n) (drop n (behind n y xs)) ≡ xs
  back_is =
      ap (λ (l : List ℤ). take (length l - n) (drop n l)) behind-is
      ∙ ap (take (length (take n y ++ xs) - n)) (drop_at (take n y) xs n first)
      ∙ take_all (length (take n y ++ xs) - n) xs (simp length-append (omega (arith, first)))

module _ (ts sss ss ps : List ℕ) (ds : List ℤ) (ls : List ℕ) (ready : Ready ts sss ss ps (length ds) (length ls)) where
  abbrev p : ℕ
  p = scalar_count ss

  abbrev q : ℕ
  q = scalar_count sss

  abbrev slots : List ℤ
  slots = naf_rows 5 (scalar_at ss) p

  abbrev static : List ℤ
  static = naf_rows 8 (scalar_at sss) q

  static-long : length static ≡ 256 * q
  static-long = flat-length 256 (λ i. naf_row 8 (scalar_at sss i)) q (λ i h. naf-length 8 (scalar_at sss i))

  static-rows : windowed_rows 256 static ts ≡ q
  unfolding windowed_rows
  static-rows = rw static-long (omega (arith, ready.tabled))

  -- all of it, as the code has it
  module _ {made : Counts} {ys xs : List ℤ} {zs : List ℕ} (dynamic : ys ≡ laid_rows (Naf 5) ss p ds) (long : length ys ≡ length ds)
      (fixed : xs ≡ laid_rows (Naf 8) sss q (take (length ys - 256 * p) (drop (256 * p) ys))) (windowed : ◌≡◌ {A = Made} (record { counts = made; limbs = zs }) (laid_windows Odd8 ps p ls)) where
    dynamic-is : take (256 * p) ys ≡ slots
    dynamic-is =
        ap (take (256 * p)) (dynamic ∙ naf-laid 5 (lit≤ tt) ss p ds (omega arith) (lit≤ tt) (omega (arith, ready.rows)))
        ∙ laid-front 256 (λ i. naf_row 5 (scalar_at ss i)) p ds (λ i _. naf-length 5 (scalar_at ss i))

    -- the room behind the dynamic rows
    rest : length (take (length ys - 256 * p) (drop (256 * p) ys)) ≡ 256 * q
    rest = length-take-le (length ys - 256 * p) (drop (256 * p) ys) (simp length-drop (omega arith)) ∙ omega (arith, ready.rows, long)

    static-is : xs ≡ static
    static-is =
        fixed
        ∙ naf-laid 8 (lit≤ tt) sss q _ (omega arith) (lit≤ tt) (omega (arith, rest))
        ∙ laid-all 256 (λ i. naf_row 8 (scalar_at sss i)) q _ (λ i _. naf-length 8 (scalar_at sss i)) rest

    all : ◌≡◌ {A = Made} (record { counts = made; limbs = zs }) (record { counts = record { additions = 7 * p; doublings = p }; limbs = flat (λ i. limbs_flat (odd residues (point_at ps i)) 8) p })
    all =
        windowed
        ∙ odd8-laid ps p ls (omega (arith, ready.even)) ready.limb-range ready.under (omega (arith, ready.windows))
        ∙ ap (λ (l : List ℕ). record { counts = record { additions = 7 * p; doublings = p }; limbs = l })
        (laid-all 32 _ p ls (λ i _. limbs-length (odd residues (point_at ps i)) 8) ready.windows)

    room : length ys ≡ 256 * p + 256 * q
    room = omega (arith, ready.rows, long)

    xs-long : length xs ≡ 256 * q
    xs-long = ap length static-is ∙ static-long

    module _ {w : Walk} (walk : w ≡ walked (take (256 * p) (behind (256 * p) ys xs)) zs (take (length (behind (256 * p) ys xs) - 256 * p) (drop (256 * p) (behind (256 * p) ys xs))) ts 256) where
      walk_is : w ≡ took (element_of ((products ss ps p + entry_sum (rows_digit (naf_row 8) sss) (entry_at 256 ts) q 256) % L))
          (weight (rows_digit (naf_row 5) ss) p 256 + weight (rows_digit (naf_row 8) sss) q 256) 256
      unfolding products rows_digit
      walk_is =
          walk
          ∙ ap₂ (λ (d d' : List ℤ). walked d zs d' ts 256) (front-is (256 * p) (256 * q) ys xs room xs-long ∙ dynamic-is) (back_is (256 * p) (256 * q) ys xs room xs-long ∙ static-is)
          ∙ ap (λ (l : List ℕ). walked slots l static ts 256) (ap (λ (m : Made). m.limbs) all)
          ∙ walked-slots (scalar_at ss) (point_at ps) p ready.small ready.under static ts q static-rows
          (λ i j a b. entry-under 64 ts q i _ ready.entries (omega (arith, ready.tabled)) a)
          ∙ ap₂ (λ (v a : ℕ). took (element_of ((products ss ps p + v) % L)) (weight (rows_digit (naf_row 5) ss) p 256 + a) 256)
          (slot-entries 8 (scalar_at sss) q (entry_at 256 ts) 256)
          (slot-weight 8 (scalar_at sss) q 256)

      made-is : (made.additions ≡ 7 * p) × (made.doublings ≡ p)
      made-is = (ap (λ (m : Made). m.counts.additions) all, ap (λ (m : Made). m.counts.doublings) all)

      pub few-additions : made.additions + w.additions < 2 ^ 64
      few-additions =
          omega (arith, made-is.0, ap (λ (x : Walk). x.additions) walk_is, ready.few, ready.few-static, weight-le (rows_digit (naf_row 5) ss) p 256, weight-le (rows_digit (naf_row 8) sss) q 256)

      pub few-doublings : made.doublings + w.doublings < 2 ^ 64
      few-doublings = omega (arith, made-is.1, ap (λ (x : Walk). x.doublings) walk_is, ready.few)

      pub mixed-walk : took w.element (made.additions + w.additions) (made.doublings + w.doublings) ≡ mixed_walk ts sss ss ps
      unfolding mixed_walk
      mixed-walk =
          ap₂ (λ (x : Walk) (a : ℕ). took x.element (a + x.additions) (made.doublings + x.doublings)) walk_is made-is.0
          ∙ ap (took _ _) (ap (λ (a : ℕ). a + 256) made-is.1 ∙ omega arith)
