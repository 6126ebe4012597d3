-- Demand 1, for every call and any input: it answers n exactly when condition n holds and none lower does, 0 exactly when none holds;
-- refused, its value and counts are zeros and every lent list is as at entry.
use Rattle.std.specs.Prelude.{◌≡◌, refl, List, ℕ, length, replicate, ℤ, Option, Some}
use Rattle.std.proofs.Common.{arith}
use Rattle.rules.specs.declared.Element.{Element}
use Rattle.rules.specs.Values.{element_of}
use Rattle.rules.specs.Numbers.{bad_digit, condition}
use Rattle.rules.specs.Rows.{recode_conditions, recode_refusal, naf_of, radix_of, read_naf_conditions, read_naf_refusal, read_naf, read_radix_conditions, read_radix_refusal, read_radix}
use Rattle.rules.specs.Windows.{point_conditions, point_refusal, lookup_table, naf_lookup_table5, naf_lookup_table8, lookup_conditions, lookup_refusal, beyond, beyond_odd, select, select_naf}
use Rattle.rules.specs.Calls.{pair_conditions, pair_refusal, group_add, group_subtract, group_negate, group_double}
use Rattle.rules.specs.Engines.{radix_straus_conditions, radix_straus_refusal, radix_straus, naf_straus_conditions, naf_straus_refusal, naf_straus, pippenger_conditions, pippenger_refusal, pippenger, new_conditions, new_refusal, new_tables, mixed_conditions, mixed_refusal, mixed, single_conditions, single_refusal, single, double_conditions, double_refusal, double}
use Rattle.rules.specs.Batch.{Memory, prepare_conditions, prepare_refusal, prepare, set_conditions, set_refusal, set_slot, clear_slot, total_conditions, total_refusal, total_of}
use Rattle.rules.specs.Claims.{Refuses, a_value, a_sum, a_naf_row, a_radix_row, a_scalar, a_window8, a_window64, with_room, with_tables, with_memory}
use Rattle.arguments.proofs.Refusing.{value-refuses, sum-refuses, row-refuses, scalar-refuses, window-refuses, room-refuses, tables-refuse, memory-refuses, never}

-- the group
pub group-add-refuses : (a b : List ℕ) → Refuses a_value (pair_conditions a b) (group_add a b)
unfolding group_add pair_refusal
group-add-refuses a b = value-refuses _ (omega arith) _

pub group-subtract-refuses : (a b : List ℕ) → Refuses a_value (pair_conditions a b) (group_subtract a b)
unfolding group_subtract pair_refusal
group-subtract-refuses a b = value-refuses _ (omega arith) _

pub group-negate-refuses : (a : List ℕ) → Refuses a_value (point_conditions a) (group_negate a)
unfolding group_negate point_refusal
group-negate-refuses a = value-refuses _ (omega arith) _

pub group-doubling-refuses : (a : List ℕ) → Refuses a_value (point_conditions a) (group_double a)
unfolding group_double point_refusal
group-doubling-refuses a = value-refuses _ (omega arith) _

-- rows
pub naf-refuses : (l : List ℕ) (w : ℕ) → Refuses a_naf_row (recode_conditions 2 l w) (naf_of l w)
unfolding naf_of recode_refusal
naf-refuses l w = row-refuses _ (omega arith) 256 _

pub radix-refuses : (l : List ℕ) (w : ℕ) → Refuses a_radix_row (recode_conditions 4 l w) (radix_of l w)
unfolding radix_of recode_refusal
radix-refuses l w = row-refuses _ (omega arith) 64 _

pub read-naf-refuses : (row : List ℤ) (w : ℕ) → Refuses a_scalar (read_naf_conditions row w) (read_naf row w)
unfolding read_naf read_naf_refusal
read-naf-refuses row w = scalar-refuses _ (omega arith) _

pub read-radix-refuses : (row : List ℤ) (w : ℕ) → Refuses a_scalar (read_radix_conditions row w) (read_radix row w)
unfolding read_radix read_radix_refusal
read-radix-refuses row w = scalar-refuses _ (omega arith) _

-- windows and lookups
pub lookup-table-refuses : (p : List ℕ) → Refuses a_window8 (point_conditions p) (lookup_table p)
unfolding lookup_table point_refusal
lookup-table-refuses p = window-refuses _ (omega arith) 8 _

pub naf-lookup-table5-refuses : (p : List ℕ) → Refuses a_window8 (point_conditions p) (naf_lookup_table5 p)
unfolding naf_lookup_table5 point_refusal
naf-lookup-table5-refuses p = window-refuses _ (omega arith) 8 _

pub naf-lookup-table8-refuses : (p : List ℕ) → Refuses a_window64 (point_conditions p) (naf_lookup_table8 p)
unfolding naf_lookup_table8 point_refusal
naf-lookup-table8-refuses p = window-refuses _ (omega arith) 64 _

pub select-refuses : (w : List ℕ) (d : ℤ) → Refuses a_value (lookup_conditions 8 (beyond 8 d) w) (select w d)
unfolding select lookup_refusal
select-refuses w d = value-refuses _ (omega arith) _

pub select-naf-refuses : (n : ℕ) (w : List ℕ) (d : ℤ) → Refuses a_value (lookup_conditions n (beyond_odd n d) w) (select_naf n w d)
unfolding select_naf lookup_refusal
select-naf-refuses n w d = value-refuses _ (omega arith) _

-- engines
pub single-base-refuses : (p s : List ℕ) → Refuses a_sum (single_conditions p s) (single p s)
unfolding single single_refusal
single-base-refuses p s = sum-refuses _ (omega arith) _ _ _

pub double-base-refuses : (a p b : List ℕ) → Refuses a_sum (double_conditions a p b) (double a p b)
unfolding double double_refusal
double-base-refuses a p b = sum-refuses _ (omega arith) _ _ _

pub radix-straus-refuses : (ss ps : List ℕ) (ds : List ℤ) (ls : List ℕ) → Refuses (with_room ds ls) (radix_straus_conditions ss ps (length ds) (length ls)) (radix_straus ss ps ds ls)
unfolding radix_straus radix_straus_refusal
radix-straus-refuses ss ps ds ls = room-refuses _ (omega arith) _ _ _ _ _ ds ls

pub naf-straus-refuses : (ss ps fs : List ℕ) (ds : List ℤ) (ls : List ℕ) → Refuses (with_room ds ls) (naf_straus_conditions ss ps fs (length ds) (length ls)) (naf_straus ss ps fs ds ls)
unfolding naf_straus naf_straus_refusal
naf-straus-refuses ss ps fs ds ls = room-refuses _ (omega arith) _ _ _ _ _ ds ls

pub pippenger-refuses : (ss ps fs : List ℕ) (ds : List ℤ) (bs : List ℕ) → Refuses (with_room ds bs) (pippenger_conditions ss ps fs (length ds) (length bs)) (pippenger ss ps fs ds bs)
unfolding pippenger pippenger_refusal
pippenger-refuses ss ps fs ds bs = room-refuses _ (omega arith) _ _ _ _ _ ds bs

pub new-tables-refuses : (ps ts : List ℕ) → Refuses (with_tables ts) (new_conditions ps (length ts)) (new_tables ps ts)
unfolding new_tables new_refusal
new-tables-refuses ps ts = tables-refuse _ (omega arith) _ _ ts _

pub precomputed-straus-refuses : (ts sss ss ps fs : List ℕ) (ds : List ℤ) (ls : List ℕ) → Refuses (with_room ds ls) (mixed_conditions ts sss ss ps fs (length ds) (length ls)) (mixed ts sss ss ps fs ds ls)
unfolding mixed mixed_refusal
precomputed-straus-refuses ts sss ss ps fs ds ls = room-refuses _ (omega arith) _ _ _ _ _ ds ls

-- batches
pub prepare-refuses : (ss ps fs : List ℕ) (m : Memory) → Refuses (with_memory m) (prepare_conditions ss ps fs (length m.digits) (length m.windows)) (prepare ss ps fs m)
unfolding prepare prepare_refusal
prepare-refuses ss ps fs m = memory-refuses _ (omega arith) _ _ m _

pub set-refuses : (m : Memory) (slot : ℕ) (s : List ℕ) (p : Option Element) → Refuses (with_memory m) (set_conditions (length m.digits) (length m.windows) slot s p) (set_slot m slot s p)
unfolding set_slot set_refusal
set-refuses m slot s p = memory-refuses _ (omega arith) _ _ m _

pub clear-refuses : (m : Memory) (slot : ℕ) → Refuses (with_memory m) (set_conditions (length m.digits) (length m.windows) slot (replicate 32 0) (Some (element_of 0))) (clear_slot m slot)
unfolding clear_slot
clear-refuses m slot = set-refuses m slot (replicate 32 0) (Some (element_of 0))

pub total-refuses : (m : Memory) → Refuses a_sum (total_conditions m) (total_of m)
unfolding total_of total_refusal
total-refuses m = sum-refuses _ (omega arith) _ _ _

-- an edit never answers 10
pub set-never-10 : (m : Memory) (slot : ℕ) (s : List ℕ) (p : Option Element) → (set_slot m slot s p).result.number ≡ bad_digit → ⊥
unfolding condition
set-never-10 m slot s p = never (set-refuses m slot s p) bad_digit (λ z. omega arith) refl

pub clear-never-10 : (m : Memory) (slot : ℕ) → (clear_slot m slot).result.number ≡ bad_digit → ⊥
unfolding clear_slot
clear-never-10 m slot = set-never-10 m slot (replicate 32 0) (Some (element_of 0))
