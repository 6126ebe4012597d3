-- What a call's result says in 01's form: a done call has number 0 and what it carries; a refused one has its refusal's number, and zeros as value and counts.
use Rattle.std.specs.Prelude.{List, ℕ, ◌*◌, ℤ, pos, replicate, Result, Ok, Err}
use Rattle.rules.specs.declared.Refusal.{Refusal}
use Rattle.rules.specs.declared.Element.{Element}
use Rattle.rules.specs.declared.Counts.{Counts}
use Rattle.rules.specs.declared.Walk.{Walk}
use Rattle.rules.specs.declared.Value.{Value}
use Rattle.rules.specs.declared.Counted.{Counted}
use Rattle.rules.specs.declared.Sum.{Sum}
use Rattle.rules.specs.Answers.{RowAnswer, ScalarBytes, WindowAnswer}
use Rattle.rules.specs.Numbers.{done, number_of, valued, counted, summed}
use Rattle.rules.specs.Helpers.{value_done, counted_done, sum_done}

-- an element, counts, a sum with its counts
unfoldable pub as_value : Result Element Refusal → Value
as_value (Ok e) = value_done e
as_value (Err r) = valued (number_of r) 0

unfoldable pub as_counted : Result Counts Refusal → Counted
as_counted (Ok c) = counted_done c
as_counted (Err r) = counted (number_of r) 0 0

unfoldable pub as_sum : Result Walk Refusal → Sum
as_sum (Ok w) = sum_done w.element w.additions w.doublings
as_sum (Err r) = summed (number_of r) 0 0 0

-- a list of N, and as many zeros where the call is refused
unfoldable pub as_list : {A : Type 0} → ℕ → A → Result (List A) Refusal → List A
as_list N zero (Ok l) = l
as_list N zero (Err r) = replicate N zero

-- a row, the bytes of a scalar, a window
unfoldable pub as_row : (N : ℕ) → Result (List ℤ) Refusal → RowAnswer N
as_row N (Ok l) = record { number = done; row = l }
as_row N (Err r) = record { number = number_of r; row = replicate N (pos 0) }

unfoldable pub as_scalar_bytes : Result (List ℕ) Refusal → ScalarBytes
as_scalar_bytes (Ok l) = record { number = done; bytes = l }
as_scalar_bytes (Err r) = record { number = number_of r; bytes = replicate 32 0 }

unfoldable pub as_window : (N : ℕ) → Result (List ℕ) Refusal → WindowAnswer N
as_window N (Ok l) = record { number = done; limbs = l }
as_window N (Err r) = record { number = number_of r; limbs = replicate (4 * N) 0 }
