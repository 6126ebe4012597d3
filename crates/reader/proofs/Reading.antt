-- What the readers do: rows compared, and that the row of what was read is the given row exactly where some scalar has it.
use mathlib.Core.Path.{◌≡◌, refl, sym, ap, ◌∙◌, subst}
use mathlib.Core.Bool.{Bool, true, false, cond, not, ◌&&◌, ◌||◌}
use mathlib.Core.List.{List}
use Prim.Native.Nat.{ℕ, ◌+◌, ◌-◌, ◌*◌, ◌/◌, ◌%◌, ◌^◌, ◌≤◌, ◌<◌}
use native.Mathlib.Nat.{mod-eq_of_lt, mod-add-mod, add-mul-mod_self_left, mod-lt, mod-add-div, mul-add, mul-one, lt_trans}
use native.Mathlib.Omega.{arith}
use lib.Dec.{eqb, ltb, leb, lit<}
use lib.ListN.{length}
use lib.IntN.{ℤ, pos, negsuc, nat_abs}
use borrow.Author.Tests.{lt-ltb, ltb-true, leb-true, leb-false}
use Rattle.std.specs.Ordering.{int_eq}
use Rattle.std.specs.Cmp.Rules.{signed_items}
use Rattle.std.proofs.lemmas.Bool.Decides.{same_from_decides}
use lib.Pointwise.{pointwise}
use Rattle.rules.specs.Values.{number, places}
use Rattle.rules.specs.Numbers.{row_bound, first, given, bytes_answer}
use Rattle.rules.specs.Rows.{digit, row_sum, rowless, recode_refusal, same_row, no_scalar}
use Rattle.laws.specs.Conditions.{given-done}
use Rattle.laws.specs.DigitsSum.{minus, weigh, balance}
use Rattle.laws.proofs.Numerals.{places-length}
use Rattle.laws.specs.RowsRead.{same_row_lem}
use Rattle.bits.proofs.Refusals.{is-long}
use Rattle.reader.specs.Readers.{shape_refusal, compared_rows}
use Rattle.reader.specs.Sums.{SaysBytes}
use Rattle.reader.proofs.Fronts.{shape-passed, read_refusal, read_none, read_found}

-- ---- rows are the same where `==` finds them equal

pub same-rows : (a b : List ℤ) → pointwise int_eq a b ≡ same_row a b
same-rows a b = same_from_decides _ _ (signed_items a b) (same_row_lem a b)

-- ---- what was read is the scalar that has the row, where one has it

-- m more on both sides, modulo M
cancel : (M v s m : ℕ) → v < M → s < M → (v + m) % M ≡ (s + m) % M → v ≡ s
cancel M v s m a b e =
    let k : ℕ = M - m % M in
    sym (back v a k refl) ∙ ap (λ (x : ℕ). (x + k) % M) e ∙ back s b k refl
  where
    -- what brings m up to a multiple of M, and back down to nothing
    back : (x : ℕ) → x < M → (k : ℕ) → k ≡ M - m % M → ((x + m) % M + k) % M ≡ x
    back x l k h =
        let r : m % M < M = mod-lt m (omega arith) in
        let q : x + m + k ≡ x + M * (m / M + 1) = rw (mul-add M (m / M) 1, mul-one M) (omega (arith, mod-add-div m M)) in
        mod-add-mod (x + m) M k ∙ ap (λ (y : ℕ). y % M) q ∙ add-mul-mod_self_left x M (m / M + 1) ∙ mod-eq_of_lt l

pub bound-room : row_bound < 2 ^ 256
unfolding row_bound
bound-room = lit< tt

-- a row of n digits in base 2 ^ u, and the bytes of what it sums to modulo 2 ^ 256
module _ (u n : ℕ) (row_of : ℕ → List ℤ) (obeys : (k : ℕ) → k < row_bound → row_sum (2 ^ u) (digit (row_of k)) n ≡ pos k)
    (row : List ℤ) (long : length row ≡ n) (bytes : List ℕ) (says : SaysBytes u row bytes) where
  abbrev v : ℕ
  v = number 256 bytes

  -- the only scalar that it can be
  only : (k : ℕ) → k < row_bound → row_sum (2 ^ u) (digit row) n ≡ pos k → v ≡ k
  only k l f =
      cancel (2 ^ 256) v k (weigh minus (2 ^ u) row) says.small (lt_trans l bound-room)
      (says.balance ∙ ap (λ (x : ℕ). x % 2 ^ 256) (balance (2 ^ u) row n k long f))

  sum_is : v < row_bound → row_of v ≡ row → row_sum (2 ^ u) (digit row) n ≡ pos v
  sum_is l f = subst (λ (x : List ℤ). row_sum (2 ^ u) (digit x) n ≡ pos v) f (obeys v l)

  found : v < row_bound → row_of v ≡ row → no_scalar row_of (row_sum (2 ^ u) (digit row) n) row ≡ false
  unfolding no_scalar
  found l f = rw (sum_is l f, lt-ltb v row_bound l, (same_row_lem (row_of v) row).1 f)

  none : (v < row_bound → row_of v ≡ row → ⊥) → no_scalar row_of (row_sum (2 ^ u) (digit row) n) row ≡ true
  unfolding no_scalar
  none h = go (row_sum (2 ^ u) (digit row) n) refl
    where
      at : (k : ℕ) → row_sum (2 ^ u) (digit row) n ≡ pos k → (a b : Bool) → ltb k row_bound ≡ a → same_row (row_of k) row ≡ b → not (a && b) ≡ true
      at k f true true p q =
          let l : k < row_bound = ltb-true k row_bound p in
          let g : v ≡ k = only k l f in
          absurd (h (rw g l) (rw g ((same_row_lem (row_of k) row).0 q)))
      at k f true false p q = refl
      at k f false b p q = refl

      go : (y : ℤ) → row_sum (2 ^ u) (digit row) n ≡ y → no_scalar row_of y row ≡ true
      go (pos k) f = at k f (ltb k row_bound) (same_row (row_of k) row) refl refl
      go (negsuc k) f = refl

  -- by what their recoding answered, and the row that it gave
  module _ (low w : ℕ) (right : 0 ≡ shape_refusal n low row w) (k : ℕ) (ek : k ≡ recode_refusal low bytes w)
      (zeros again : List ℤ) (f : again ≡ given (recode_refusal low bytes w) zeros (row_of v)) where
    answered : k ≡ cond (leb row_bound v) 6 0
    unfolding recode_refusal first rowless
    answered =
        let e : length bytes ≡ 32 = ap length says.whole ∙ places-length 256 32 v in
        ek ∙ rw (is-long 32 bytes e, (shape-passed n low row w right).1)

    pub compared_is : compared_rows row k again bytes ≡ bytes_answer (read_refusal n low w row_of row (row_sum (2 ^ u) (digit row) n)) (nat_abs (row_sum (2 ^ u) (digit row) n))
    unfolding compared_rows
    compared_is = go (leb row_bound v) refl (same_row again row) refl
      where
        z : ℤ
        z = row_sum (2 ^ u) (digit row) n

        not-both : (a b : ℕ) → a ≤ b → b < a → ⊥
        not-both a b p q = omega arith

        differ : same_row again row ≡ false → again ≡ row → ⊥
        differ q g = let t : ◌≡◌ {A = Bool} true false = sym ((same_row_lem again row).1 g) ∙ q in let w : ◌≡◌ {A = ℕ} 0 1 = cc in omega arith

        again-is : k ≡ 0 → again ≡ row_of v
        again-is e = f ∙ rw (← ek, e) (given-done zeros (row_of v))

        go : (a : Bool) → leb row_bound v ≡ a → (b : Bool) → same_row again row ≡ b
            → cond (not (eqb k 0) || not (same_row again row)) (bytes_answer 10 0) (record { number = k; bytes = bytes }) ≡ bytes_answer (read_refusal n low w row_of row z) (nat_abs z)
        go true p b q =
            let e : k ≡ 6 = answered ∙ rw p in
            rw e (read_none n low w row_of row z right (none (λ l _. not-both _ _ (leb-true row_bound v p) l)))
        go false p false q =
            let e : k ≡ 0 = answered ∙ rw p in
            rw (e, q) (read_none n low w row_of row z right (none (λ _ g. differ q (again-is e ∙ g))))
        go false p true q =
            let e : k ≡ 0 = answered ∙ rw p in
            let l : v < row_bound = leb-false row_bound v p in
            let g : row_of v ≡ row = sym (again-is e) ∙ (same_row_lem again row).0 q in
            rw (e, q) (read_found n low w row_of row z right (found l g) bytes (says.whole ∙ ap (places 256 32) (sym (ap nat_abs (sum_is l g)))))
