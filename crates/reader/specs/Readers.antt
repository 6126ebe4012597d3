-- The readers' steps.
use Rattle.std.specs.Prelude.{cond, not, ◌||◌, List, [], ◌∷◌, ℕ, ℤ, eqb}
use Rattle.rules.specs.Answers.{ScalarBytes}
use Rattle.rules.specs.Numbers.{not_whole, bad_width, bad_digit, first, bytes_answer}
use Rattle.rules.specs.Rows.{not_long, width_off, same_row}

-- a row not of n digits, a width outside low to 8
unfoldable pub shape_refusal : ℕ → ℕ → List ℤ → ℕ → ℕ
shape_refusal n low row w = first ((not_long n row, not_whole) ∷ (width_off low w, bad_width) ∷ [])

-- the bytes, refused where their recoding was or their row is another
unfoldable pub compared_rows : List ℤ → ℕ → List ℤ → List ℕ → ScalarBytes
compared_rows row n again bytes = cond (not (eqb n 0) || not (same_row again row)) (bytes_answer bad_digit 0) (record { number = n; bytes = bytes })
