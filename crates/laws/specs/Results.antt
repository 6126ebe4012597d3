-- What a result says in 01's form: a refusal's number is not 0 and carries zeros, and a call that is done has 0 and what it found.
use mathlib.Core.Path.{◌≡◌, refl, sym, ap, ◌∙◌}
use mathlib.Core.List.{List}
use Prim.Native.Nat.{ℕ}
use native.Mathlib.Omega.{arith}
use lib.IntN.{ℤ}
use borrow.Author.Tests.{ne_eqb}
use Rattle.std.specs.Prelude.{Result, Ok, Err}
use Rattle.rules.specs.declared.Refusal.{Refusal}
use Rattle.rules.specs.declared.Refusal.TheVariants.{NotWhole, TooMany, BadWidth, NoSlot, BadRoom, BigScalar, BadPoint, AbsentPoint, Unequal, BadDigit}
use Rattle.rules.specs.declared.Element.{Element}
use Rattle.rules.specs.declared.Counts.{Counts}
use Rattle.rules.specs.declared.Walk.{Walk}
use Rattle.rules.specs.Values.{places}
use Rattle.rules.specs.Numbers.{number_of, as_number, given, valued, counted, summed, row_answer, bytes_answer, window_answer}
use Rattle.rules.specs.Helpers.{counted_done}
use Rattle.rules.specs.Results.{as_value, as_counted, as_sum, as_row, as_scalar_bytes, as_window}

-- no refusal has the number 0
pub refusal-not-0 : (r : Refusal) → number_of r ≡ 0 → ⊥
unfolding number_of
refusal-not-0 NotWhole q = omega arith
refusal-not-0 TooMany q = omega arith
refusal-not-0 BadWidth q = omega arith
refusal-not-0 NoSlot q = omega arith
refusal-not-0 BadRoom q = omega arith
refusal-not-0 BigScalar q = omega arith
refusal-not-0 BadPoint q = omega arith
refusal-not-0 AbsentPoint q = omega arith
refusal-not-0 Unequal q = omega arith
refusal-not-0 BadDigit q = omega arith

-- a passed question has the number 0
pub passed-as-0 : {A : Type 0} {x : Result A Refusal} {y : A} → x ≡ Ok y → as_number x ≡ 0
unfolding as_number
passed-as-0 e = rw e

-- a call y that hands on a question's refusal has that refusal's number m, which is not 0
pub record Refused {B : Type 0} (y : Result B Refusal) (m : ℕ) : Type 0 where
  pub number : as_number y ≡ m
  pub not-0 : as_number y ≡ 0 → ⊥

pub handed-on : {A B : Type 0} {x : Result A Refusal} {y : Result B Refusal} {e k : Refusal} {m : ℕ} → y ≡ Err e → e ≡ k → x ≡ Err k → as_number x ≡ m → Refused y m
unfolding as_number
handed-on {e = e} {k = k} {m = m} by on is asked =
    let n : number_of k ≡ m = rw is at asked in
    rw by record { number = ap number_of on ∙ n; not-0 = refusal-not-0 e }

-- a call that answers a refusal of its own
pub told : {B : Type 0} (r : Refusal) {m : ℕ} → number_of r ≡ m → Refused {B = B} (Err r) m
unfolding as_number
told r e = record { number = e; not-0 = refusal-not-0 r }

pub refused-not-0 : {B : Type 0} {y : Result B Refusal} {m : ℕ} → Refused y m → m ≡ 0 → ⊥
refused-not-0 r z = r.not-0 (r.number ∙ z)

-- refused: each kind carries zeros
module _ {m : ℕ} where
  pub refused-value : {y : Result Element Refusal} → Refused y m → (v : ℕ) → as_value y ≡ valued m v
  unfolding as_value as_number valued given
  refused-value {y = Ok e} r v = absurd (r.not-0 refl)
  refused-value {y = Err e} r v = rw (sym r.number, ne_eqb (number_of e) 0 r.not-0)

  pub refused-counted : {y : Result Counts Refusal} → Refused y m → (a d : ℕ) → as_counted y ≡ counted m a d
  unfolding as_counted as_number counted given
  refused-counted {y = Ok c} r a d = absurd (r.not-0 refl)
  refused-counted {y = Err e} r a d = rw (sym r.number, ne_eqb (number_of e) 0 r.not-0)

  pub refused-sum : {y : Result Walk Refusal} → Refused y m → (v a d : ℕ) → as_sum y ≡ summed m v a d
  unfolding as_sum as_number summed given
  refused-sum {y = Ok w} r v a d = absurd (r.not-0 refl)
  refused-sum {y = Err e} r v a d = rw (sym r.number, ne_eqb (number_of e) 0 r.not-0)

  pub refused-row : {N : ℕ} {y : Result (List ℤ) Refusal} → Refused y m → (row : List ℤ) → as_row N y ≡ row_answer N m row
  unfolding as_row as_number row_answer given
  refused-row {y = Ok l} r row = absurd (r.not-0 refl)
  refused-row {y = Err e} r row = rw (sym r.number, ne_eqb (number_of e) 0 r.not-0)

  pub refused-bytes : {y : Result (List ℕ) Refusal} → Refused y m → (s : ℕ) → as_scalar_bytes y ≡ bytes_answer m s
  unfolding as_scalar_bytes as_number bytes_answer given places
  refused-bytes {y = Ok l} r s = absurd (r.not-0 refl)
  refused-bytes {y = Err e} r s = rw (sym r.number, ne_eqb (number_of e) 0 r.not-0)

  pub refused-window : {N : ℕ} {y : Result (List ℕ) Refusal} → Refused y m → (w : List ℕ) → as_window N y ≡ window_answer N m w
  unfolding as_window as_number window_answer given
  refused-window {y = Ok l} r w = absurd (r.not-0 refl)
  refused-window {y = Err e} r w = rw (sym r.number, ne_eqb (number_of e) 0 r.not-0)

-- done: the number is 0
module _ {m : ℕ} (z : m ≡ 0) where
  pub done-counted : {c : Counts} {a d : ℕ} → c.additions ≡ a → c.doublings ≡ d → as_counted (Ok c) ≡ counted m a d
  unfolding as_counted counted given counted_done
  done-counted f g = rw (z, f, g)

  pub done-row : {N : ℕ} {l row : List ℤ} → l ≡ row → as_row N (Ok l) ≡ row_answer N m row
  unfolding as_row row_answer given
  done-row f = rw (z, f)

  pub done-window : {N : ℕ} {l w : List ℕ} → l ≡ w → as_window N (Ok l) ≡ window_answer N m w
  unfolding as_window window_answer given
  done-window f = rw (z, f)
