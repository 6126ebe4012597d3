-- Words of the claims: what a refused call leaves, what a contract says, a list of pairs beside its batch.
use Rattle.std.specs.Prelude.{◌≡◌, Bool, true, false, List, [], ◌∷◌, ◌↔◌, ℕ, ◌*◌, ◌%◌, ◌<◌, replicate, ℤ, pos}
use Rattle.rules.specs.declared.Value.{Value}
use Rattle.rules.specs.declared.Counted.{Counted}
use Rattle.rules.specs.declared.Sum.{Sum}
use Rattle.rules.specs.Answers.{RowAnswer, ScalarBytes, WindowAnswer}
use Rattle.rules.specs.Values.{limb, places}
use Rattle.rules.specs.Group.{L}
use Rattle.rules.specs.Numbers.{condition, counted, NafRow, RadixRow}
use Rattle.rules.specs.Lists.{scalar_count}
use Rattle.rules.specs.Engines.{products, After, AfterNew}
use Rattle.rules.specs.Batch.{Memory, AfterEdit, Pairs, Edit, apply, prepare, number_by, edited}

-- a kind of answer: its number, and what a call leaves that is refused by number n
pub record Kind (R : Type 0) : Type 0 where
  pub number : R → ℕ
  pub zeros : ℕ → R

-- an element, counts or a sum of zeros
abbrev pub a_value : Kind Value
a_value = record { number = λ r. r.number; zeros = λ n. record { number = n; value = 0 ∷ 0 ∷ 0 ∷ 0 ∷ [] } }

abbrev pub a_count : Kind Counted
a_count = record { number = λ r. r.number; zeros = λ n. record { number = n; additions = 0; doublings = 0 } }

abbrev pub a_sum : Kind Sum
a_sum = record { number = λ r. r.number; zeros = λ n. record { number = n; value = 0 ∷ 0 ∷ 0 ∷ 0 ∷ []; additions = 0; doublings = 0 } }

-- rows, bytes or windows of zeros
abbrev pub a_row : (N : ℕ) → Kind (RowAnswer N)
a_row N = record { number = λ r. r.number; zeros = λ n. record { number = n; row = replicate N (pos 0) } }

abbrev pub a_naf_row : Kind NafRow
a_naf_row = a_row 256

abbrev pub a_radix_row : Kind RadixRow
a_radix_row = a_row 64

abbrev pub a_scalar : Kind ScalarBytes
a_scalar = record { number = λ r. r.number; zeros = λ n. record { number = n; bytes = replicate 32 0 } }

abbrev pub a_window : (N : ℕ) → Kind (WindowAnswer N)
a_window N = record { number = λ r. r.number; zeros = λ n. record { number = n; limbs = replicate (4 * N) 0 } }

abbrev pub a_window8 : Kind (WindowAnswer 8)
a_window8 = a_window 8

abbrev pub a_window64 : Kind (WindowAnswer 64)
a_window64 = a_window 64

-- beside it working room, tables or memory as they were
abbrev pub with_room : List ℤ → List ℕ → Kind After
with_room ds ls = record { number = λ r. r.result.number; zeros = λ n. record { result = a_sum.zeros n; digits = ds; limbs = ls } }

abbrev pub with_tables : List ℕ → Kind AfterNew
with_tables ts = record { number = λ r. r.result.number; zeros = λ n. record { result = a_count.zeros n; tables = ts } }

abbrev pub with_memory : Memory → Kind AfterEdit
with_memory m = record { number = λ r. r.result.number; zeros = λ n. record { result = a_count.zeros n; memory = m } }

-- a call with these conditions answers n exactly when condition n holds and none lower does, 0 exactly when none holds;
-- refused, it leaves its kind's zeros, and every lent list as it was
pub record Refuses {R : Type 0} (k : Kind R) (conditions : List (Bool × ℕ)) (left : R) : Type 0 where
  pub answers : (n : ℕ) → (n ≡ 0 → ⊥) → (k.number left ≡ n) ↔ ((condition conditions n ≡ true) × ((i : ℕ) → i < n → condition conditions i ≡ false))
  pub done : (k.number left ≡ 0) ↔ ((i : ℕ) → condition conditions i ≡ false)
  pub refused : (k.number left ≡ 0 → ⊥) → left ≡ k.zeros (k.number left)

-- a contract, over lifetimes, arguments, the result and the lent lists at exit, says what `left` reads off these: it holds if and only if
-- that is what the definition gives for the arguments; so any two results that meet it, with what they leave, are equal
pub record Says {K : Type 0} {A R S : K → Type 0} {B : Type 0} (contract : (κ : K) → A κ → R κ → S κ → Type 0) (definition : (κ : K) → A κ → B) (left : (κ : K) → R κ → S κ → B) : Type 0 where
  pub exactly : (κ : K) (a : A κ) (r : R κ) (s : S κ) → contract κ a r s ↔ (left κ r s ≡ definition κ a)
  pub one : (κ : K) (a : A κ) (r r' : R κ) (s s' : S κ) → contract κ a r s → contract κ a r' s' → left κ r s ≡ left κ r' s'

-- an answer with number 0 and value v
pub record Answers (r : Sum) (v : ℕ) : Type 0 where
  pub number_is : r.number ≡ 0
  pub value-is : r.value ≡ places limb 4 v

-- an answer that counts a additions and d doublings
pub record Takes (r : Sum) (a d : ℕ) : Type 0 where
  pub additions-are : r.additions ≡ a
  pub doublings-are : r.doublings ≡ d

-- preparing a list of pairs, a slot for each scalar
abbrev pub prepared : Pairs → Memory → AfterEdit
prepared l m = prepare l.scalars l.points l.flags m

abbrev pub slots : Pairs → ℕ
slots l = scalar_count l.scalars

-- the sum of scalar times point modulo L over a list's pairs
abbrev pub sum_of : Pairs → ℕ
sum_of l = products l.scalars l.points (slots l) % L

-- the answers to a run of edits, in memory
unfoldable pub answers_in : Memory → List Edit → List Counted
answers_in m [] = []
answers_in m (e ∷ es) = (apply m e).result ∷ answers_in (apply m e).memory es

-- and by the list of pairs that they edit
unfoldable pub answers_by : Pairs → List Edit → List Counted
answers_by l [] = []
answers_by l (e ∷ es) = counted (number_by l e) 7 1 ∷ answers_by (edited l e) es
