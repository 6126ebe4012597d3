-- What the readers answer: refused for a row's shape, refused since no scalar has it, and done.
use mathlib.Core.Path.{◌≡◌, refl, ◌∙◌}
use mathlib.Core.Bool.{Bool, true, false}
use mathlib.Core.List.{List, [], ◌∷◌}
use Prim.Native.Nat.{ℕ}
use native.Mathlib.Omega.{arith}
use lib.ListN.{length}
use lib.IntN.{ℤ, nat_abs}
use Rattle.std.specs.Prelude.{Result}
use Rattle.rules.specs.declared.Refusal.{Refusal}
use Rattle.rules.specs.Values.{places}
use Rattle.rules.specs.Numbers.{first, bytes_answer}
use Rattle.rules.specs.Rows.{not_long, width_off, no_scalar}
use Rattle.rules.specs.Results.{as_scalar_bytes}
use Rattle.laws.specs.Conditions.{first-none, given-done, given-refused, given-same}
use Rattle.laws.specs.Results.{Refused, refused-not-0, refused-bytes}
use Rattle.bits.proofs.Refusals.{is-long, long-is}
use Rattle.reader.specs.Readers.{shape_refusal}

pub shape-passed : (n low : ℕ) (row : List ℤ) (w : ℕ) → 0 ≡ shape_refusal n low row w → (length row ≡ n) × (width_off low w ≡ false)
unfolding shape_refusal
shape-passed n low row w e =
    let p = first-none _ 1 _ (λ q. omega arith) e in
    (long-is n row p.0, (first-none _ 3 _ (λ q. omega arith) p.1).0)

-- row a list of n digits, low the least width, z what it sums to
module _ (n low w : ℕ) (row_of : ℕ → List ℤ) (row : List ℤ) (z : ℤ) where
  abbrev pub read_refusal : ℕ
  read_refusal = first ((not_long n row, 1) ∷ (width_off low w, 3) ∷ (no_scalar row_of z row, 10) ∷ [])

  -- refused for its shape
  pub read-refused : {y : Result (List ℕ) Refusal} → Refused y (shape_refusal n low row w) → as_scalar_bytes y ≡ bytes_answer read_refusal (nat_abs z)
  unfolding shape_refusal first
  read-refused r = refused-bytes (record { number = r.number ∙ go (not_long n row) (width_off low w) (refused-not-0 r); not-0 = r.not-0 }) (nat_abs z)
    where
      go : (a b : Bool) → (first ((a, 1) ∷ (b, 3) ∷ []) ≡ 0 → ⊥) → first ((a, 1) ∷ (b, 3) ∷ []) ≡ first ((a, 1) ∷ (b, 3) ∷ (no_scalar row_of z row, 10) ∷ [])
      go true b h = refl
      go false true h = refl
      go false false h = absurd (h refl)

  -- where its shape is right, it is answered by whether a scalar has it
  module _ (right : 0 ≡ shape_refusal n low row w) where
    pub read_none : no_scalar row_of z row ≡ true → bytes_answer 10 0 ≡ bytes_answer read_refusal (nat_abs z)
    unfolding first bytes_answer
    read_none h = let p = shape-passed n low row w right in rw (is-long n row p.0, p.1, h, given-refused 0 (nat_abs z) 10 (λ e. omega arith), given-same {A = ℕ} 10 0)

    pub read_found : no_scalar row_of z row ≡ false → (bytes : List ℕ) → bytes ≡ places 256 32 (nat_abs z) → record { number = 0; bytes = bytes } ≡ bytes_answer read_refusal (nat_abs z)
    unfolding first bytes_answer
    read_found h bytes e = let p = shape-passed n low row w right in rw (is-long n row p.0, p.1, h, given-done 0 (nat_abs z), e)
