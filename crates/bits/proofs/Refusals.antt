-- What a recoding refuses: by the length, the width and the top byte of a scalar.
use mathlib.Core.Path.{◌≡◌, refl}
use mathlib.Core.Bool.{true, false}
use mathlib.Core.List.{List}
use Prim.Native.Nat.{ℕ, ◌*◌, ◌^◌, ◌≤◌, ◌<◌}
use native.Mathlib.Omega.{arith}
use lib.ListN.{length, get_or, take}
use lib.Seq.{take_all}
use lib.Dec.{eqb, leb, ltb}
use borrow.Author.Tests.{eq-eqb, lt-ltb, le-ltb, eqb-true, ltb-false, not-false}
use Rattle.rules.specs.Values.{number, Below}
use Rattle.rules.specs.Numbers.{row_bound}
use Rattle.rules.specs.Rows.{not_long, width_off, rowless, recode_refusal}
use Rattle.laws.specs.Conditions.{first-none, or_left, or_right, or_split}
use Rattle.laws.proofs.Numerals as numerals

-- ---- the width

pub too-low : (low w : ℕ) → w < low → width_off low w ≡ true
unfolding width_off
too-low low w h = or_left (ltb w low) (ltb 8 w) (lt-ltb w low h)

pub too-high : (low w : ℕ) → 8 < w → width_off low w ≡ true
unfolding width_off
too-high low w h = or_right (ltb w low) (ltb 8 w) (lt-ltb 8 w h)

pub within : (low w : ℕ) → low ≤ w → w ≤ 8 → width_off low w ≡ false
unfolding width_off
within low w l h = rw (le-ltb w low l, le-ltb 8 w h)

pub width-in : (low w : ℕ) → width_off low w ≡ false → (low ≤ w) × (w ≤ 8)
unfolding width_off
width-in low w e = let p = or_split (ltb w low) (ltb 8 w) e in (ltb-false w low p.0, ltb-false 8 w p.1)

-- ---- the length

pub is-long : {A : Type 0} (n : ℕ) (l : List A) → length l ≡ n → not_long n l ≡ false
unfolding not_long
is-long n l e = rw (eq-eqb (length l) n e)

pub long-is : {A : Type 0} (n : ℕ) (l : List A) → not_long n l ≡ false → length l ≡ n
unfolding not_long
long-is n l e = eqb-true (length l) n (not-false (eqb (length l) n) e)

-- ---- the top byte

-- the tie of the bound of rows to the byte that the code tests
bound-is : row_bound ≡ 128 * 2 ^ 248
unfolding row_bound
bound-is = refl

pub top-test : (l : List ℕ) → Below 256 l → length l ≡ 32 → leb row_bound (number 256 l) ≡ ltb 127 (get_or l 31 0)
top-test l b e = rw bound-is (numerals.top-test l b (omega arith))

-- ---- where a recoding refuses nothing

pub passed : (low : ℕ) (l : List ℕ) (w : ℕ) → 0 ≡ recode_refusal low l w → (length l ≡ 32) × ((width_off low w ≡ false) × (rowless l ≡ false))
unfolding recode_refusal
passed low l w e =
    let p = first-none _ 1 _ (λ q. omega arith) e in
    let q = first-none _ 3 _ (λ q. omega arith) p.1 in
    (long-is 32 l p.0, (q.0, (first-none _ 6 _ (λ q. omega arith) q.1).0))

-- of 32 bytes, all are taken
pub all-taken : (l : List ℕ) → length l ≡ 32 → take 32 l ≡ l
all-taken l e = take_all 32 l (omega arith)
