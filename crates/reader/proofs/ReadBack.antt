-- Recode then read gives the scalar; read then recode gives the row; a row is refused by 10 exactly where no scalar below the bound has it. For each width at once.
use mathlib.Core.Path.{◌≡◌, refl, sym, ap, ◌∙◌}
use mathlib.Core.Bool.{Bool, true, false, cond}
use mathlib.Core.List.{List, [], ◌∷◌}
use mathlib.Core.Logic.{◌↔◌}
use Prim.Native.Nat.{ℕ, suc, ◌*◌, ◌%◌, ◌/◌, ◌+◌, ◌^◌, ◌≤◌, ◌<◌}
use native.Mathlib.Nat.{lt_trans}
use native.Mathlib.Omega.{arith}
use lib.ListN.{length, replicate}
use lib.IntN.{ℤ, pos, nat_abs}
use borrow.Author.Tests.{leb-false, lt-leb}
use Rattle.rules.specs.Values.{number, places, Below}
use Rattle.rules.specs.Numbers.{row_bound, first, row_answer, bytes_answer, bad_digit}
use Rattle.rules.specs.Rows.{digit, row_sum, not_long, width_off, rowless, no_scalar, recode_refusal, naf_row, radix_row, naf_of, radix_of, read_naf, read_naf_refusal, read_radix, read_radix_refusal}
use Rattle.laws.specs.Conditions.{first-none, given-done}
use Rattle.laws.specs.NafRows.{naf-length}
use Rattle.laws.specs.RadixRows.{radix-length}
use Rattle.laws.specs.RowsRule.{naf-obeys, radix-sum}
use Rattle.laws.specs.RowsRead.{naf-reads, radix-reads}
use Rattle.laws.proofs.Numerals.{places-length, number-places}
use Rattle.bits.proofs.Refusals.{within, width-in, is-long, long-is, passed}
use Rattle.reader.proofs.Fronts.{read_refusal}
use Rattle.reader.proofs.Reading.{bound-room}

clash : ◌≡◌ {A = Bool} true false → ⊥
clash e = let z : ◌≡◌ {A = ℕ} 0 1 = cc in omega arith

-- bytes are the places of what they say
same-places : (l : List ℕ) → Below 256 l → places 256 (length l) (number 256 l) ≡ l
unfolding places number
same-places [] b = refl
same-places (x ∷ l) b =
    let h : x < 256 = b 0 in
    let r : (x + 256 * number 256 l) % 256 ≡ x = omega arith in
    let q : (x + 256 * number 256 l) / 256 ≡ number 256 l = omega arith in
    rw (r, q, same-places l (λ i. b (suc i)))

-- rows of n digits for the widths from low on: which scalar has the row is what the reader's condition decides
module _ (n low : ℕ) (row_of : ℕ → ℕ → List ℤ) (value : ℕ → List ℤ → ℤ)
    (long : (w s : ℕ) → low ≤ w → w ≤ 8 → length (row_of w s) ≡ n)
    (back : (w s : ℕ) → low ≤ w → w ≤ 8 → s < row_bound → value w (row_of w s) ≡ pos s)
    (reads : (w : ℕ) → low ≤ w → w ≤ 8 → (row : List ℤ) → (no_scalar (row_of w) (value w row) row ≡ false) ↔ ((s : ℕ) × (s < row_bound) × (row ≡ row_of w s))) where
  abbrev refusal : List ℤ → ℕ → ℕ
  refusal row w = read_refusal n low w (row_of w) row (value w row)

  -- a width within its bounds
  abbrev Width : ℕ → Type 0
  Width w = (low ≤ w) × (w ≤ 8)

  -- recoded, then read
  recoded : (l : List ℕ) (w : ℕ) → 0 ≡ recode_refusal low l w
      → (length l ≡ 32) × ((0 ≡ refusal (row_of w (number 256 l)) w) × (nat_abs (value w (row_of w (number 256 l))) ≡ number 256 l))
  unfolding first rowless
  recoded l w e =
      let p = passed low l w e in
      let i = width-in low w p.1.0 in
      let s : ℕ = number 256 l in
      let b : s < row_bound = leb-false row_bound s p.1.1 in (
        p.0,
        (
          sym (rw (is-long n (row_of w s) (long w s i.0 i.1), p.1.0, (reads w i.0 i.1 (row_of w s)).1 (s, b, refl))),
          ap nat_abs (back w s i.0 i.1 b),
        ),
      )

  -- the scalar of a row that is read
  found : (row : List ℤ) (w : ℕ) → 0 ≡ refusal row w → (width_off low w ≡ false) × ((nat_abs (value w row) < row_bound) × (row_of w (nat_abs (value w row)) ≡ row))
  found row w e =
      let p = first-none _ 1 _ (λ q. omega arith) e in
      let q = first-none _ 3 _ (λ q. omega arith) p.1 in
      let i = width-in low w q.0 in
      let r = (reads w i.0 i.1 row).0 (first-none _ 10 _ (λ q. omega arith) q.1).0 in
      let g : nat_abs (value w row) ≡ r.0 = ap (λ (x : List ℤ). nat_abs (value w x)) r.2 ∙ ap nat_abs (back w r.0 i.0 i.1 r.1) in
      (q.0, (rw g r.1, rw g (sym r.2)))

  -- read, then recoded
  read : (row : List ℤ) (w : ℕ) → 0 ≡ refusal row w
      → (0 ≡ recode_refusal low (places 256 32 (nat_abs (value w row))) w) × (row_of w (number 256 (places 256 32 (nat_abs (value w row)))) ≡ row)
  unfolding recode_refusal first rowless
  read row w e =
      let f = found row w e in
      let s : ℕ = nat_abs (value w row) in
      let m : number 256 (places 256 32 s) ≡ s = number-places 8 32 s (lt_trans f.1.0 bound-room) in
      (sym (rw (is-long 32 (places 256 32 s) (places-length 256 32 s), f.0, m, lt-leb row_bound s f.1.0)), rw m f.1.1)

  -- refused by 10
  ten : (row : List ℤ) (w : ℕ) → (refusal row w ≡ 10) ↔ ((length row ≡ n) × Width w × ((s : ℕ) → s < row_bound → row ≡ row_of w s → ⊥))
  unfolding first
  ten row w = (there (not_long n row) refl (width_off low w) refl (no_scalar (row_of w) (value w row) row) refl, here)
    where
      there : (a : Bool) → not_long n row ≡ a → (b : Bool) → width_off low w ≡ b → (c : Bool) → no_scalar (row_of w) (value w row) row ≡ c
          → ◌≡◌ {A = ℕ} (cond a 1 (cond b 3 (cond c 10 0))) 10 → (length row ≡ n) × Width w × ((s : ℕ) → s < row_bound → row ≡ row_of w s → ⊥)
      there true p b q c r e = absurd (omega arith)
      there false p true q c r e = absurd (omega arith)
      there false p false q false r e = absurd (omega arith)
      there false p false q true r e =
          let i = width-in low w q in
          (long-is n row p, i, λ s l f. clash (sym r ∙ (reads w i.0 i.1 row).1 (s, l, f)))

      here : (length row ≡ n) × Width w × ((s : ℕ) → s < row_bound → row ≡ row_of w s → ⊥) → refusal row w ≡ 10
      here (k, i, h) = rw (is-long n row k, within low w i.0 i.1, some (no_scalar (row_of w) (value w row) row) refl)
        where
          some : (c : Bool) → no_scalar (row_of w) (value w row) row ≡ c → c ≡ true
          some true r = refl
          some false r = let x = (reads w i.0 i.1 row).0 r in absurd (h x.0 x.1 x.2)

-- ---- NAF

abbrev naf-value : ℕ → List ℤ → ℤ
naf-value w row = row_sum 2 (digit row) 256

naf-long : (w s : ℕ) → 2 ≤ w → w ≤ 8 → length (naf_row w s) ≡ 256
naf-long w s lo hi = naf-length w s

naf-back : (w s : ℕ) → 2 ≤ w → w ≤ 8 → s < row_bound → naf-value w (naf_row w s) ≡ pos s
naf-back w s lo hi l = (naf-obeys w lo s l).sum_is

naf-found : (w : ℕ) → 2 ≤ w → w ≤ 8 → (row : List ℤ) → (no_scalar (naf_row w) (naf-value w row) row ≡ false) ↔ ((s : ℕ) × (s < row_bound) × (row ≡ naf_row w s))
naf-found w lo hi = naf-reads w lo

-- recode then read gives the scalar
pub naf-recode-read : (l : List ℕ) → Below 256 l → (w : ℕ) → (naf_of l w).number ≡ 0 → read_naf (naf_of l w).row w ≡ record { number = 0; bytes = l }
unfolding naf_of row_answer read_naf read_naf_refusal bytes_answer
naf-recode-read l b w e =
    let r = recoded 256 2 naf_row naf-value naf-long naf-back naf-found l w (sym e) in
    let t : places 256 32 (number 256 l) ≡ l = ap (λ (k : ℕ). places 256 k (number 256 l)) (sym r.0) ∙ same-places l b in
    rw (e, given-done (replicate 256 (pos 0)) (naf_row w (number 256 l)), ← r.1.0, given-done 0 (nat_abs (naf-value w (naf_row w (number 256 l)))), r.1.1, t)

-- read then recode gives the row
pub naf-read-recode : (row : List ℤ) (w : ℕ) → (read_naf row w).number ≡ 0 → naf_of (read_naf row w).bytes w ≡ record { number = 0; row = row }
unfolding naf_of row_answer read_naf read_naf_refusal bytes_answer
naf-read-recode row w e =
    let r = read 256 2 naf_row naf-value naf-long naf-back naf-found row w (sym e) in
    rw (e, given-done 0 (nat_abs (naf-value w row)), ← r.0, given-done (replicate 256 (pos 0)) (naf_row w (number 256 (places 256 32 (nat_abs (naf-value w row))))), r.1)

-- 10 exactly where the row has its length, the width is within its bounds, and no scalar below the bound has the row
pub naf-refused-by-10 : (row : List ℤ) (w : ℕ)
    → ((read_naf row w).number ≡ bad_digit) ↔ ((length row ≡ 256) × ((2 ≤ w) × (w ≤ 8)) × ((s : ℕ) → s < row_bound → row ≡ naf_row w s → ⊥))
unfolding read_naf read_naf_refusal bytes_answer
naf-refused-by-10 row w = ten 256 2 naf_row naf-value naf-long naf-back naf-found row w

-- ---- radix

abbrev radix-value : ℕ → List ℤ → ℤ
radix-value w row = row_sum (2 ^ w) (digit row) 64

radix-long : (w s : ℕ) → 4 ≤ w → w ≤ 8 → length (radix_row w s) ≡ 64
radix-long w s lo hi = radix-length w lo hi s

radix-back : (w s : ℕ) → 4 ≤ w → w ≤ 8 → s < row_bound → radix-value w (radix_row w s) ≡ pos s
radix-back w s lo hi l = radix-sum w lo hi s

radix-found : (w : ℕ) → 4 ≤ w → w ≤ 8 → (row : List ℤ) → (no_scalar (radix_row w) (radix-value w row) row ≡ false) ↔ ((s : ℕ) × (s < row_bound) × (row ≡ radix_row w s))
radix-found w lo hi = radix-reads w lo hi

-- recode then read gives the scalar
pub radix-recode-read : (l : List ℕ) → Below 256 l → (w : ℕ) → (radix_of l w).number ≡ 0 → read_radix (radix_of l w).row w ≡ record { number = 0; bytes = l }
unfolding radix_of row_answer read_radix read_radix_refusal bytes_answer
radix-recode-read l b w e =
    let r = recoded 64 4 radix_row radix-value radix-long radix-back radix-found l w (sym e) in
    let t : places 256 32 (number 256 l) ≡ l = ap (λ (k : ℕ). places 256 k (number 256 l)) (sym r.0) ∙ same-places l b in
    rw (e, given-done (replicate 64 (pos 0)) (radix_row w (number 256 l)), ← r.1.0, given-done 0 (nat_abs (radix-value w (radix_row w (number 256 l)))), r.1.1, t)

-- read then recode gives the row
pub radix-read-recode : (row : List ℤ) (w : ℕ) → (read_radix row w).number ≡ 0 → radix_of (read_radix row w).bytes w ≡ record { number = 0; row = row }
unfolding radix_of row_answer read_radix read_radix_refusal bytes_answer
radix-read-recode row w e =
    let r = read 64 4 radix_row radix-value radix-long radix-back radix-found row w (sym e) in
    rw (e, given-done 0 (nat_abs (radix-value w row)), ← r.0, given-done (replicate 64 (pos 0)) (radix_row w (number 256 (places 256 32 (nat_abs (radix-value w row))))), r.1)

-- 10 exactly where the row has its length, the width is within its bounds, and no scalar below the bound has the row
pub radix-refused-by-10 : (row : List ℤ) (w : ℕ)
    → ((read_radix row w).number ≡ bad_digit) ↔ ((length row ≡ 64) × ((4 ≤ w) × (w ≤ 8)) × ((s : ℕ) → s < row_bound → row ≡ radix_row w s → ⊥))
unfolding read_radix read_radix_refusal bytes_answer
radix-refused-by-10 row w = ten 64 4 radix_row radix-value radix-long radix-back radix-found row w
