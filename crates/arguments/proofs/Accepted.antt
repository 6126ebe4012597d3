-- An edit as slot, scalar and point; what it says that one is accepted, and what it then leaves.
use mathlib.Core.Path.{◌≡◌, refl}
use mathlib.Core.Bool.{false}
use mathlib.Core.List.{List}
use Prim.Native.Nat.{ℕ, ◌*◌, ◌/◌, ◌%◌, ◌<◌, ◌≤◌}
use native.Mathlib.Omega.{arith}
use lib.ListN.{length}
use borrow.Author.Tests.{leb-false, ltb-false, eqb-true, not-false}
use Rattle.std.specs.Prelude.{Option}
use Rattle.rules.specs.declared.Element.{Element}
use Rattle.rules.specs.Numbers.{most}
use Rattle.rules.specs.Rows.{not_long}
use Rattle.rules.specs.Windows.{limbs_flat}
use Rattle.rules.specs.Lists.{not_in, beyond_most, other_than, any_big, point_over, is_absent}
use Rattle.rules.specs.Batch.{Memory, Edit, to_set, to_clear, apply, set_slot, clear_slot, set_conditions, set_refusal, memory_not_whole, slot_row, slot_window, slot_of, bytes_of, point_of}
use Rattle.laws.specs.Conditions.{or_split}
use Rattle.laws.specs.NafRows.{naf-length}
use Rattle.laws.specs.Parts.{flat-length}
use Rattle.arguments.proofs.Passing.{passed}

-- an edit sets its slot; clearing is setting scalar 0 and point 0
pub as-set : (m : Memory) (e : Edit) → apply m e ≡ set_slot m (slot_of e) (bytes_of e) (point_of e)
unfolding apply clear_slot
as-set m (to_set slot s p) = refl
as-set m (to_clear slot) = refl

-- the rows and windows of slots have their lengths
pub row-long : (s : ℕ) → length (slot_row s) ≡ 256
unfolding slot_row
row-long s = naf-length 5 s

pub window-long : (p : ℕ) → length (slot_window p) ≡ 32
unfolding slot_window limbs_flat
window-long p = flat-length 4 _ 8 (λ i q. unfold Rattle.rules.specs.Values.places in refl)

-- what an accepted edit has passed
pub record Accepted (digits windows slot : ℕ) (s : List ℕ) (p : Option Element) : Type 0 where
  pub whole : digits ≡ 256 * (digits / 256)
  pub beside : windows ≡ 32 * (digits / 256)
  pub bytes : length s ≡ 32
  pub few : digits / 256 ≤ most
  pub inside : slot < digits / 256
  pub small : any_big s ≡ false
  pub below : point_over p ≡ false
  pub present : is_absent p ≡ false

pub accepted : (digits windows slot : ℕ) (s : List ℕ) (p : Option Element) → set_refusal digits windows slot s p ≡ 0 → Accepted digits windows slot s p
unfolding set_refusal memory_not_whole not_long not_in other_than beyond_most
accepted digits windows slot s p e =
    let h = passed 0 (set_conditions digits windows slot s p) (omega arith) e in
    let o2 = or_split _ _ h.1.0 in
    let w : digits % 256 ≡ 0 = eqb-true _ _ (not-false _ o2.0) in
    record {
      whole = omega arith;
      beside = eqb-true _ _ (not-false _ o2.1);
      bytes = eqb-true _ _ (not-false _ h.0);
      few = ltb-false _ _ h.1.1.0;
      inside = leb-false _ _ h.1.1.1.0;
      small = h.1.1.1.1.0;
      below = h.1.1.1.1.1.0;
      present = h.1.1.1.1.1.1.0;
    }
