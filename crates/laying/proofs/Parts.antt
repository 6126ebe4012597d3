-- The rows and windows of each kind, and the loops that lay them: before them, one more, after them.
use mathlib.Core.Path.{◌≡◌, refl, sym, ap, ◌∙◌}
use mathlib.Core.Bool.{Bool, true, false, cond}
use mathlib.Core.List.{List, ◌++◌}
use Prim.Native.Nat.{ℕ, ◌+◌, ◌-◌, ◌*◌, ◌/◌, ◌<◌, ◌≤◌, min}
use native.Mathlib.Nat.{mul-zero}
use native.Mathlib.Omega.{arith}
use lib.ListN.{length, replicate, take, drop, length-replicate}
use lib.IntN.{ℤ, pos}
use lib.Dec.{ltb}
use borrow.Author.Tests.{ltb-false}
use Rattle.rules.specs.declared.Element.{Element}
use Rattle.rules.specs.declared.Counts.{Counts}
use Rattle.rules.specs.declared.Row.{Row}
use Rattle.rules.specs.declared.Row.TheVariants.{Naf, Radix}
use Rattle.rules.specs.declared.Window.{Window}
use Rattle.rules.specs.declared.Window.TheVariants.{Successive8, Odd8, Odd64}
use Rattle.rules.specs.Values.{part, element_at}
use Rattle.rules.specs.Group.{elements}
use Rattle.rules.specs.Rows.{width_off, naf_row_of, radix_row_of}
use Rattle.rules.specs.Windows.{successive, odd}
use Rattle.rules.specs.Lists.{put, scalar_count, point_count}
use Rattle.rules.specs.Helpers.{Made, made_successive, made_odd_in, fitting, row_places, row_of, laid_rows, window_entries, window_of, made_window, window_doublings, laid_windows}
use Rattle.laws.specs.Conditions.{or_split}
use Rattle.laws.specs.Parts.{part-is}
use Rattle.laws.proofs.Laying.{counted-more, counted-fits, fitting-is, fitting-room, Laying, laying-none, laying-more, laying-end}
use Rattle.laws.specs.NafRows.{naf-length}
use Rattle.laws.specs.RadixRows.{radix-length}
use Rattle.window.proofs.Flat.{elements-length}

-- a row chosen by the test of its width
either : {n : ℕ} (b : Bool) (row : List ℤ) → (b ≡ false → length row ≡ n) → length (cond b (replicate n (pos 0)) row) ≡ n
either {n} true row h = length-replicate n (pos 0)
either false row h = h refl

pub row-long : (k : Row) (s : List ℕ) → length (row_of k s) ≡ row_places k
unfolding row_of row_places naf_row_of radix_row_of width_off
row-long (Naf w) s = either (width_off 2 w) _ (λ e. naf-length w _)
row-long (Radix w) s =
    either (width_off 4 w) _ (λ e. let o = or_split (ltb w 4) (ltb 8 w) e in radix-length w (ltb-false w 4 o.0) (ltb-false 8 w o.1) _)

pub row-some : (k : Row) → (0 < row_places k) × (row_places k ≤ 256)
unfolding row_places
row-some (Naf w) = (omega arith, omega arith)
row-some (Radix w) = (omega arith, omega arith)

pub window-long : (k : Window) (p : Element) → length (window_of k p) ≡ 4 * window_entries k
unfolding window_of window_entries
window-long Successive8 p = elements-length (successive elements p) 8
window-long Odd8 p = elements-length (odd elements p) 8
window-long Odd64 p = elements-length (odd elements p) 64

-- it has some entries, and is by fewer additions and doublings than it has limbs
pub record Cost (k : Window) : Type 0 where
  pub some : 0 < window_entries k
  pub most : window_entries k ≤ 64
  pub doublings : window_doublings k ≤ 4 * window_entries k

pub cost : (k : Window) → Cost k
unfolding window_entries window_doublings
cost Successive8 = record { some = omega arith; most = omega arith; doublings = omega arith }
cost Odd8 = record { some = omega arith; most = omega arith; doublings = omega arith }
cost Odd64 = record { some = omega arith; most = omega arith; doublings = omega arith }

-- what making one leaves
pub window-made : (k : Window) (p : Element) (l : List ℕ)
    → made_window k p l ≡ (record { counts = record { additions = window_entries k - 1; doublings = window_doublings k }; limbs = put (window_of k p) l })
unfolding made_window made_successive made_odd_in window_entries window_doublings window_of
window-made Successive8 p l = refl
window-made Odd8 p l = refl
window-made Odd64 p l = refl

-- the loop over scalars: rows of the kind k laid into ds, i of m so far, u places each
module _ (k : Row) (ss : List ℕ) (n : ℕ) (ds : List ℤ) where
  abbrev row_at : ℕ → List ℤ
  row_at i = row_of k (part 32 i ss)

  pub record RowsLaying (u m : ℕ) (d : List ℤ) (i : ℕ) : Type 0 where
    pub unit : u ≡ row_places k
    pub count : m ≡ fitting u (min n (scalar_count ss)) ds
    pub laying : Laying u row_at m ds d i

  pub rows_none : {u m c : ℕ} → u ≡ row_places k → c ≡ min n (scalar_count ss) → m ≡ min c (length ds / u) → RowsLaying u m ds 0
  rows_none {u} {m} e f g = record { unit = e; count = fitting-is u n ds (scalar_count ss) f g; laying = laying-none u row_at m ds }

  module _ {u m : ℕ} {d : List ℤ} {i : ℕ} (h : RowsLaying u m d i) where
    long : (j : ℕ) → length (row_at j) ≡ u
    long j = row-long k (part 32 j ss) ∙ sym h.unit

    fits : u * m ≤ length ds
    fits = rw h.count (fitting-room u _ ds)

    pub rows_more : i < m → (ys : List ℤ) → ys ≡ put (row_of k (take (32 * i + 32 - 32 * i) (drop (32 * i) ss))) (take (u * i + u - u * i) (drop (u * i) d))
        → RowsLaying u m (take (u * i) d ++ (ys ++ drop (u * i + u - u * i) (drop (u * i) d))) (i + 1)
    rows_more p ys e = record { unit = h.unit; count = h.count; laying = laying-more u row_at m ds long fits h.laying p (ap (row_of k) (part-is 32 i ss)) e }

    pub rows_end : m ≤ i → d ≡ laid_rows k ss n ds
    unfolding laid_rows
    rows_end g = laying-end u row_at m ds h.laying g ∙ rw (h.count, h.unit)

-- the loop over points: windows of the kind k laid into ls, and what they took
module _ (k : Window) (ps : List ℕ) (n : ℕ) (ls : List ℕ) where
  abbrev window_at : ℕ → List ℕ
  window_at i = window_of k (element_at ps i)

  pub record WindowsLaying (u m : ℕ) (l : List ℕ) (a b i : ℕ) : Type 0 where
    pub unit : u ≡ 4 * window_entries k
    pub count : m ≡ fitting u (min n (point_count ps)) ls
    pub laying : Laying u window_at m ls l i
    pub additions : a ≡ (window_entries k - 1) * i
    pub doublings : b ≡ window_doublings k * i

  pub windows-none : {e u m c : ℕ} → e ≡ window_entries k → u ≡ 4 * e → c ≡ min n (point_count ps) → m ≡ min c (length ls / u) → WindowsLaying u m ls 0 0 0
  windows-none {e} {u} {m} p q f g = record {
    unit = q ∙ ap (λ (x : ℕ). 4 * x) p;
    count = fitting-is u n ls (point_count ps) f g;
    laying = laying-none u window_at m ls;
    additions = sym (mul-zero (window_entries k - 1));
    doublings = sym (mul-zero (window_doublings k));
  }

  module _ {u m : ℕ} {l : List ℕ} {a b i : ℕ} (h : WindowsLaying u m l a b i) where
    long' : (j : ℕ) → length (window_at j) ≡ u
    long' j = window-long k (element_at ps j) ∙ sym h.unit

    fits' : u * m ≤ length ls
    fits' = rw h.count (fitting-room u _ ls)

    -- one window more, made of the point x
    module _ (p : i < m) {x : Element} {c : Counts} {v : List ℕ} (ex : x ≡ element_at ps i)
        (made : ◌≡◌ {A = Made} (record { counts = c; limbs = v }) (made_window k x (take (u * i + u - u * i) (drop (u * i) l)))) where
      all : ◌≡◌ {A = Made} (record { counts = c; limbs = v }) (record { counts = record { additions = window_entries k - 1; doublings = window_doublings k }; limbs = put (window_of k x) (take (u * i + u - u * i) (drop (u * i) l)) })
      all = made ∙ window-made k x _

      additions-are : c.additions ≡ window_entries k - 1
      additions-are = ap (λ (t : Made). t.counts.additions) all

      doublings-are : c.doublings ≡ window_doublings k
      doublings-are = ap (λ (t : Made). t.counts.doublings) all

      pub counts-fit : (a + c.additions ≤ length ls) × (b + c.doublings ≤ length ls)
      counts-fit = (
        counted-fits (window_entries k - 1) u i m (length ls) (omega (arith, h.unit)) p fits' h.additions additions-are,
        counted-fits (window_doublings k) u i m (length ls) (omega (arith, h.unit, (cost k).doublings)) p fits' h.doublings doublings-are,
      )

      pub windows-more : WindowsLaying u m (take (u * i) l ++ (v ++ drop (u * i + u - u * i) (drop (u * i) l))) (a + c.additions) (b + c.doublings) (i + 1)
      windows-more = record {
        unit = h.unit;
        count = h.count;
        laying = laying-more u window_at m ls long' fits' h.laying p (ap (window_of k) ex) (ap (λ (t : Made). t.limbs) all);
        additions = counted-more (window_entries k - 1) i h.additions additions-are;
        doublings = counted-more (window_doublings k) i h.doublings doublings-are;
      }

    pub windows-end : m ≤ i → ◌≡◌ {A = Made} (record { counts = record { additions = a; doublings = b }; limbs = l }) (laid_windows k ps n ls)
    unfolding laid_windows
    windows-end g =
        let e : i ≡ m = omega (arith, h.laying.place) in
        rw (laying-end u window_at m ls h.laying g, h.additions, h.doublings, e, h.count, h.unit)
