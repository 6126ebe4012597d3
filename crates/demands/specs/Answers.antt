-- One result: what a result says in 01's form (number, zeros where it is refused) is said by no other result. So where a contract says the form, it leaves one result.
use Rattle.std.specs.Prelude.{◌≡◌, ◌*◌, List, ℕ, ℤ, pos, Result}
use Rattle.rules.specs.declared.Refusal.{Refusal}
use Rattle.rules.specs.declared.Element.{Element}
use Rattle.rules.specs.declared.Counts.{Counts}
use Rattle.rules.specs.declared.Walk.{Walk}
use Rattle.rules.specs.Numbers.{number_of, as_number}
use Rattle.rules.specs.Results.{as_value, as_counted, as_sum, as_list, as_row, as_scalar_bytes, as_window}
use Rattle.arguments.proofs.Told.{number-told, question-told, asked-told, value-told, counted-told, sum-told, row-told, bytes-told, window-told, row-listed, bytes-listed, window-listed}

-- a refusal by its number
pub one-refusal : (r s : Refusal) → number_of r ≡ number_of s → r ≡ s
one-refusal = number-told

pub one-question : {A : Type 0} (one : (x y : A) → x ≡ y) (a b : Result A Refusal) → as_number a ≡ as_number b → a ≡ b
one-question = question-told

-- a question that carries nothing
pub one-asked : (a b : Result (Unit {0}) Refusal) → as_number a ≡ as_number b → a ≡ b
one-asked = asked-told

pub one-value : (a b : Result Element Refusal) → as_value a ≡ as_value b → a ≡ b
one-value = value-told

pub one-counts : (a b : Result Counts Refusal) → as_counted a ≡ as_counted b → a ≡ b
one-counts = counted-told

pub one-sum : (a b : Result Walk Refusal) → as_sum a ≡ as_sum b → a ≡ b
one-sum = sum-told

pub one-row : (n : ℕ) (a b : Result (List ℤ) Refusal) → as_row n a ≡ as_row n b → a ≡ b
one-row = row-told

pub one-scalar : (a b : Result (List ℕ) Refusal) → as_scalar_bytes a ≡ as_scalar_bytes b → a ≡ b
one-scalar = bytes-told

pub one-window : (n : ℕ) (a b : Result (List ℕ) Refusal) → as_window n a ≡ as_window n b → a ≡ b
one-window = window-told

-- a program that prints a row, bytes or a window prints its form: the number and the list are the fields of that
pub row-as-list : (n : ℕ) (r : Result (List ℤ) Refusal) → as_row n r ≡ record { number = as_number r; row = as_list n (pos 0) r }
row-as-list = row-listed

pub scalar-as-list : (r : Result (List ℕ) Refusal) → as_scalar_bytes r ≡ record { number = as_number r; bytes = as_list 32 0 r }
scalar-as-list = bytes-listed

pub window-as-list : (n : ℕ) (r : Result (List ℕ) Refusal) → as_window n r ≡ record { number = as_number r; limbs = as_list (4 * n) 0 r }
window-as-list = window-listed
