-- Demand 3, on any memory, valid or not: an edit touches its own slot only; its answer and its slot depend on nothing else; edits of different slots swap.
use mathlib.Core.Path.{◌≡◌, refl, sym, ap, ap₂, ◌∙◌}
use mathlib.Core.Bool.{Bool, cond}
use mathlib.Core.List.{List}
use Prim.Native.Nat.{ℕ, ◌*◌, ◌/◌}
use native.Mathlib.Decide.{ℕ_discrete}
use lib.ListN.{length}
use lib.IntN.{ℤ}
use lib.Dec.{eqb}
use borrow.Author.Tests.{eq-eqb, ne_eqb}
use Rattle.rules.specs.Values.{part, scalar_at}
use Rattle.rules.specs.Numbers.{given, counted}
use Rattle.rules.specs.Lists.{stored}
use Rattle.rules.specs.Batch.{Memory, AfterEdit, Edit, apply, set_slot, set_in, set_refusal, value_in, slot_row, slot_window, slot_of, bytes_of, point_of}
use Rattle.laws.specs.Conditions.{given-done, given-refused}
use Rattle.arguments.proofs.Storing.{stored-long, stored_at, stored-swap}
use Rattle.arguments.proofs.Accepted.{as-set, row-long, window-long, Accepted, accepted}

-- the two lengths of memory
abbrev pub digits_long : Memory → ℕ
digits_long m = length m.digits

abbrev pub windows_long : Memory → ℕ
windows_long m = length m.windows

-- the number that an edit answers on a memory of these lengths
abbrev pub number_on : ℕ → ℕ → Edit → ℕ
number_on d w e = set_refusal d w (slot_of e) (bytes_of e) (point_of e)

abbrev pub number_of : Memory → Edit → ℕ
number_of m e = number_on (digits_long m) (windows_long m) e

pub answer-is : (m : Memory) (e : Edit) → (apply m e).result ≡ counted (number_of m e) 7 1
unfolding set_slot
answer-is m e = ap (λ (r : AfterEdit). r.result) (as-set m e)

memory-is : (m : Memory) (e : Edit) → (apply m e).memory ≡ given (number_of m e) m (set_in (slot_of e) (scalar_at (bytes_of e) 0) (value_in (point_of e)) m)
unfolding set_slot
memory-is m e = ap (λ (r : AfterEdit). r.memory) (as-set m e)

-- refused: memory is as it was
pub refused-keeps : (m : Memory) (e : Edit) → (number_of m e ≡ 0 → ⊥) → (apply m e).memory ≡ m
refused-keeps m e h = memory-is m e ∙ given-refused _ _ (number_of m e) h

-- accepted: its slot's row and window are stored
abbrev pub row_of : Edit → List ℤ
row_of e = slot_row (scalar_at (bytes_of e) 0)

abbrev pub window_of : Edit → List ℕ
window_of e = slot_window (value_in (point_of e))

pub accepted-stores : (m : Memory) (e : Edit) → number_of m e ≡ 0
    → (apply m e).memory ≡ record { digits = stored (256 * slot_of e) (row_of e) m.digits; windows = stored (32 * slot_of e) (window_of e) m.windows }
unfolding set_in
accepted-stores m e z =
    memory-is m e ∙ ap (λ (n : ℕ). given n m (set_in (slot_of e) (scalar_at (bytes_of e) 0) (value_in (point_of e)) m)) z ∙ given-done m _

module _ (m : Memory) (e : Edit) (z : number_of m e ≡ 0) where
  has : Accepted (digits_long m) (windows_long m) (slot_of e) (bytes_of e) (point_of e)
  has = accepted _ _ _ _ _ z

  row_at : (t : ℕ) → part 256 t (apply m e).memory.digits ≡ cond (eqb t (slot_of e)) (row_of e) (part 256 t m.digits)
  row_at t =
      ap (λ (k : Memory). part 256 t k.digits) (accepted-stores m e z)
      ∙ stored_at 256 (digits_long m / 256) (slot_of e) (row_of e) m.digits (row-long _) has.whole has.inside t

  window-at : (t : ℕ) → part 32 t (apply m e).memory.windows ≡ cond (eqb t (slot_of e)) (window_of e) (part 32 t m.windows)
  window-at t =
      ap (λ (k : Memory). part 32 t k.windows) (accepted-stores m e z)
      ∙ stored_at 32 (digits_long m / 256) (slot_of e) (window_of e) m.windows (window-long _) has.beside has.inside t

-- an edit keeps both lengths
pub record SameLengths (m m' : Memory) : Type 0 where
  pub of-digits : digits_long m ≡ digits_long m'
  pub of-windows : windows_long m ≡ windows_long m'

pub keeps-lengths : (m : Memory) (e : Edit) → SameLengths (apply m e).memory m
keeps-lengths m e = go (ℕ_discrete (number_of m e) 0)
  where
    go : Dec (number_of m e ≡ 0) → SameLengths (apply m e).memory m
    go (no h) = rw (refused-keeps m e h) (record { of-digits = refl; of-windows = refl })
    go (yes z) =
        record {
          of-digits = ap (λ (k : Memory). digits_long k) (accepted-stores m e z) ∙ stored-long 256 _ (slot_of e) (row_of e) m.digits (row-long _) (has m e z).whole (has m e z).inside;
          of-windows = ap (λ (k : Memory). windows_long k) (accepted-stores m e z) ∙ stored-long 32 _ (slot_of e) (window_of e) m.windows (window-long _) (has m e z).beside (has m e z).inside;
        }

-- slot j of a memory: its digits and its limbs
pub record SameSlot (j : ℕ) (m m' : Memory) : Type 0 where
  pub row : part 256 j m.digits ≡ part 256 j m'.digits
  pub window : part 32 j m.windows ≡ part 32 j m'.windows

-- an edit leaves every other slot's digits and limbs as they were, whatever they hold
pub other-slots-kept : (m : Memory) (e : Edit) (j : ℕ) → (j ≡ slot_of e → ⊥) → SameSlot j (apply m e).memory m
other-slots-kept m e j ne = go (ℕ_discrete (number_of m e) 0)
  where
    go : Dec (number_of m e ≡ 0) → SameSlot j (apply m e).memory m
    go (no h) = rw (refused-keeps m e h) (record { row = refl; window = refl })
    go (yes z) =
        record {
          row = row_at m e z j ∙ ap (λ (b : Bool). cond b (row_of e) (part 256 j m.digits)) (ne_eqb j (slot_of e) ne);
          window = window-at m e z j ∙ ap (λ (b : Bool). cond b (window_of e) (part 32 j m.windows)) (ne_eqb j (slot_of e) ne);
        }

-- an edit's answer depends on the two lengths, the slot, the scalar and the point alone
pub answer-depends : (m m' : Memory) (e : Edit) → SameLengths m m' → (apply m e).result ≡ (apply m' e).result
answer-depends m m' e s =
    answer-is m e ∙ ap₂ (λ (d w : ℕ). counted (number_on d w e) 7 1) s.of-digits s.of-windows ∙ sym (answer-is m' e)

-- and so does what its slot then holds
pub slot-depends : (m m' : Memory) (e : Edit) → SameLengths m m' → (apply m e).result.number ≡ 0 → SameSlot (slot_of e) (apply m e).memory (apply m' e).memory
slot-depends m m' e s z₀ = record { row = row m z ∙ sym (row m' z'); window = window m z ∙ sym (window m' z') }
  where
    z : number_of m e ≡ 0
    z = unfold counted in (ap (λ (r : Rattle.rules.specs.declared.Counted.Counted). r.number) (sym (answer-is m e)) ∙ z₀)

    z' : number_of m' e ≡ 0
    z' = ap₂ (λ (d w : ℕ). number_on d w e) (sym s.of-digits) (sym s.of-windows) ∙ z

    row : (m : Memory) → number_of m e ≡ 0 → part 256 (slot_of e) (apply m e).memory.digits ≡ row_of e
    row m z = row_at m e z (slot_of e) ∙ ap (λ (b : Bool). cond b (row_of e) (part 256 (slot_of e) m.digits)) (eq-eqb (slot_of e) (slot_of e) refl)

    window : (m : Memory) → number_of m e ≡ 0 → part 32 (slot_of e) (apply m e).memory.windows ≡ window_of e
    window m z = window-at m e z (slot_of e) ∙ ap (λ (b : Bool). cond b (window_of e) (part 32 (slot_of e) m.windows)) (eq-eqb (slot_of e) (slot_of e) refl)

-- edits of different slots swap: same memory, same answers, either way round, on any memory
pub record Swapped (m : Memory) (e f : Edit) : Type 0 where
  pub same_memory : (apply (apply m e).memory f).memory ≡ (apply (apply m f).memory e).memory
  pub same_answer : (apply m e).result ≡ (apply (apply m f).memory e).result
  pub same-other : (apply (apply m e).memory f).result ≡ (apply m f).result

same-lengths-sym : {m m' : Memory} → SameLengths m m' → SameLengths m' m
same-lengths-sym s = record { of-digits = sym s.of-digits; of-windows = sym s.of-windows }

pub edits-swap : (m : Memory) (e f : Edit) → (slot_of e ≡ slot_of f → ⊥) → Swapped m e f
edits-swap m e f ne =
    record {
      same_memory = go (ℕ_discrete (number_of m e) 0) (ℕ_discrete (number_of m f) 0);
      same_answer = answer-depends m (apply m f).memory e (same-lengths-sym (keeps-lengths m f));
      same-other = answer-depends (apply m e).memory m f (keeps-lengths m e);
    }
  where
    -- an edit answers the same after the other
    after : (g h : Edit) → number_of (apply m g).memory h ≡ number_of m h
    after g h = let s = keeps-lengths m g in ap₂ (λ (d w : ℕ). number_on d w h) s.of-digits s.of-windows

    -- where one is refused, both ways are the other alone
    alone : (g h : Edit) → (number_of m h ≡ 0 → ⊥) → (apply (apply m g).memory h).memory ≡ (apply (apply m h).memory g).memory
    alone g h n = refused-keeps (apply m g).memory h (λ z. n (sym (after g h) ∙ z)) ∙ ap (λ (k : Memory). (apply k g).memory) (sym (refused-keeps m h n))

    both : number_of m e ≡ 0 → number_of m f ≡ 0 → (apply (apply m e).memory f).memory ≡ (apply (apply m f).memory e).memory
    both z y =
        let a = has m e z in
        let b = has m f y in
        accepted-stores (apply m e).memory f (after e f ∙ y)
        ∙ ap (λ (k : Memory). record { digits = stored (256 * slot_of f) (row_of f) k.digits; windows = stored (32 * slot_of f) (window_of f) k.windows }) (accepted-stores m e z)
        ∙ ap₂ (λ (d : List ℤ) (w : List ℕ). record { digits = d; windows = w })
        (stored-swap 256 (digits_long m / 256) (slot_of e) (slot_of f) (row_of e) (row_of f) m.digits (row-long _) (row-long _) a.whole a.inside b.inside ne)
        (stored-swap 32 (digits_long m / 256) (slot_of e) (slot_of f) (window_of e) (window_of f) m.windows (window-long _) (window-long _) a.beside a.inside b.inside ne)
        ∙ sym (ap (λ (k : Memory). record { digits = stored (256 * slot_of e) (row_of e) k.digits; windows = stored (32 * slot_of e) (window_of e) k.windows }) (accepted-stores m f y))
        ∙ sym (accepted-stores (apply m f).memory e (after f e ∙ z))

    go : Dec (number_of m e ≡ 0) → Dec (number_of m f ≡ 0) → (apply (apply m e).memory f).memory ≡ (apply (apply m f).memory e).memory
    go (no n) y = sym (alone f e n)
    go (yes z) (no n) = alone e f n
    go (yes z) (yes y) = both z y
