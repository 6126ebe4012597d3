-- What the calls on a batch answer and leave, from what was tested and made.
use mathlib.Core.Path.{◌≡◌, refl, sym, ap, ap₂, ◌∙◌}
use mathlib.Core.Bool.{true, false}
use mathlib.Core.List.{List, [], ◌∷◌, ◌++◌}
use Prim.Native.Nat.{ℕ, ◌+◌, ◌*◌, ◌/◌, ◌%◌, ◌-◌, ◌<◌, ◌≤◌}
use native.Mathlib.Nat.{add-zero, le_refl}
use native.Mathlib.Omega.{arith}
use lib.ListN.{length, get_or, take, drop}
use lib.IntN.{ℤ}
use lib.Dec.{leb, lit<, lit≤}
use borrow.Author.Tests.{eqb-true, ltb-false, leb-false, not-false}
use Rattle.std.specs.Prelude.{Option, Some, None, Result, Ok}
use Rattle.rules.specs.declared.Refusal.{Refusal}
use Rattle.rules.specs.declared.Element.{Element}
use Rattle.rules.specs.declared.Row.TheVariants.{Naf}
use Rattle.rules.specs.declared.Window.TheVariants.{Odd8}
use Rattle.rules.specs.declared.Counts.{Counts}
use Rattle.rules.specs.declared.Counted.{Counted}
use Rattle.rules.specs.declared.Walk.{Walk}
use Rattle.rules.specs.Values.{limb, value_of, element_of, part, point_at, scalar_at}
use Rattle.rules.specs.Group.{L, elements, residues}
use Rattle.rules.specs.Loops.{weight}
use Rattle.rules.specs.Numbers.{most, first, given, counted}
use Rattle.rules.specs.Lists.{not_in, other_than, beyond_most, scalar_count, point_count, bad_lists, any_flag, any_point, point_over, is_absent, any_wild, stored}
use Rattle.rules.specs.Rows.{naf_row_of, width_off}
use Rattle.rules.specs.Windows.{odd, any_over}
use Rattle.rules.specs.Engines.{entry_sum, entry_at}
use Rattle.rules.specs.Batch.{Memory, AfterEdit, memory_of, after_edit, edge_conditions, edge_refusal, slot_row, slot_window, slot_digit, memory_not_whole, prepare, prepare_refusal, fresh, set_slot, set_in, set_refusal, value_in, total_of, total_refusal}
use Rattle.rules.specs.Helpers.{Made, laid_rows, laid_windows, Filled, filled_slot, walked, elements_flat, made_odd_in}
use Rattle.laws.specs.Conditions.{or_split, first-none, joined-here, joined-next, given-done, given-refused}
use Rattle.laws.specs.Walk.{Named}
use Rattle.laws.specs.Weight.{weight-none}
use Rattle.lent.proofs.Passed.{there-under}
use Rattle.rules.specs.Results.{as_counted, as_sum}
use Rattle.laws.specs.Results.{Refused, refused-not-0, refused-counted, done-counted}
use Rattle.limbs.proofs.Done.{done-sum}
use Rattle.limbs.proofs.Elements.{Ranged}
use Rattle.window.proofs.Flat.{odd-limbs, limbs-length}
use Rattle.laws.proofs.Puts.{put-stored}
use Rattle.laws.specs.NafRows.{naf-length}
use Rattle.columns.proofs.Walked.{rows_are, walked-entries}
use Rattle.columns.proofs.Entries.{entries_none}
use Rattle.columns.proofs.Under.{entry-under}
use Rattle.laying.proofs.Built.{naf-laid, odd8-laid}
use Rattle.laws.proofs.Laid.{laid-all}

-- ---- the total

-- what memory has passed that is summed
module _ (ds : List ℤ) (ws : List ℕ) where
  pub record Summable (k : ℕ) : Type 0 where
    pub digits_are : length ds ≡ 256 * k
    pub windows-are : length ws ≡ 32 * k
    pub below : any_over ws ≡ false

  pub summable : total_refusal (memory_of ds ws) ≡ 0 → Summable (length ds / 256)
  unfolding total_refusal memory_not_whole not_in other_than
  summable e =
      let n1 = first-none _ _ _ (λ z. omega arith) (sym e) in
      let n2 = first-none _ _ _ (λ z. omega arith) n1.1 in
      let n10 = first-none _ _ _ (λ z. omega arith) n2.1 in
      let o1 = or_split _ _ n1.0 in
      let w : length ds % 256 ≡ 0 = eqb-true _ _ (not-false _ o1.0) in
      record {
        digits_are = omega arith;
        windows-are = eqb-true _ _ (not-false _ o1.1);
        below = (or_split (any_wild ds) (any_over ws) n10.0).1;
      }

  -- every entry is a member
  entries-in : (k : ℕ) → Summable k → Named (λ a. a < L) (slot_digit ds) (entry_at 32 ws) k 256
  entries-in k s i j hi hj = entry-under 8 ws k i _ s.below (omega (arith, s.windows-are)) hi

  -- what the walk over it leaves is its total
  pub total-is : (ds' : List ℤ) (ts : List ℕ) (w : Walk) → length ds' ≡ 0 → length ts ≡ 0 → total_refusal (memory_of ds ws) ≡ 0
      → w ≡ walked ds ws ds' ts 256 → as_sum (Ok w) ≡ total_of (memory_of ds ws)
  unfolding total_of
  total-is ds' ts w ed et z ew =
      let k : ℕ = length ds / 256 in
      let s = summable z in
      let q = ew ∙ walked-entries ds ws ds' ts 256 k 0 256 (rows_are 32 k ds ws (lit< tt) s.digits_are s.windows-are) (rows_are 256 0 ds' ts (lit< tt) ed et) refl (entries-in k s) (λ i j hi hj. absurd (omega arith)) in
      done-sum z _
      (ap (λ (x : Walk). x.element) q
      ∙ ap (λ (e : ℕ). element_of ((entry_sum (slot_digit ds) (entry_at 32 ws) k 256 + e) % L)) (entries_none (slot_digit ds') (entry_at 256 ts) 0 256)
      ∙ ap (λ (e : ℕ). element_of (e % L)) (add-zero _))
      (ap (λ (x : Walk). x.additions) q ∙ ap (λ (e : ℕ). weight (slot_digit ds) k 256 + e) (weight-none (slot_digit ds') 256) ∙ add-zero _)
      (ap (λ (x : Walk). x.doublings) q)

both : {r r' : Counted} {m m' : Memory} → r ≡ r' → m ≡ m' → ◌≡◌ {A = AfterEdit} (record { result = r; memory = m }) (record { result = r'; memory = m' })
both p q = cc

-- ---- preparing

-- what a list has passed that is prepared
pub record Preparable (ss ps fs : List ℕ) (d w : ℕ) : Type 0 where
  pub digits_are : d ≡ 256 * scalar_count ss
  pub windows-are : w ≡ 32 * scalar_count ss
  pub equal : scalar_count ss ≡ point_count ps
  pub below : (i : ℕ) → i < scalar_count ss → point_at ps i < L

pub preparable : (ss ps fs : List ℕ) (d w : ℕ) → prepare_refusal ss ps fs d w ≡ 0 → Preparable ss ps fs d w
unfolding prepare_refusal other_than bad_lists
preparable ss ps fs d w e =
    let n1 = first-none _ _ _ (λ z. omega arith) (sym e) in
    let n2 = first-none _ _ _ (λ z. omega arith) n1.1 in
    let n5 = first-none _ _ _ (λ z. omega arith) n2.1 in
    let n6 = first-none _ _ _ (λ z. omega arith) n5.1 in
    let n7 = first-none _ _ _ (λ z. omega arith) n6.1 in
    let n8 = first-none _ _ _ (λ z. omega arith) n7.1 in
    let n9 = first-none _ _ _ (λ z. omega arith) n8.1 in
    let o5 = or_split _ _ n5.0 in
    let q : scalar_count ss ≡ point_count ps = eqb-true _ _ (not-false _ n9.0) in
    record {
      digits_are = eqb-true _ _ (not-false _ o5.0);
      windows-are = eqb-true _ _ (not-false _ o5.1);
      equal = q;
      below = λ i h. there-under ps fs (point_count ps) i n8.0 (or_split (any_flag fs) (any_point ps fs) n7.0).1 (omega (arith, q)) (omega (arith, q));
    }

-- what laying the rows and windows of such a list leaves
pub prepare-is : (ss ps fs : List ℕ) (ds : List ℤ) (ws : List ℕ) (c : Counts) (d : List ℤ) (w : List ℕ) → ((k : ℕ) → get_or ps k 0 < limb)
    → prepare_refusal ss ps fs (length ds) (length ws) ≡ 0 → d ≡ laid_rows (Naf 5) ss (scalar_count ss) ds
    → ◌≡◌ {A = Made} (record { counts = c; limbs = w }) (laid_windows Odd8 ps (scalar_count ss) ws)
    → after_edit (as_counted (Ok c)) d w ≡ prepare ss ps fs (memory_of ds ws)
unfolding prepare fresh slot_row slot_window
prepare-is ss ps fs ds ws c d w range z ed ew =
    let s = preparable ss ps fs (length ds) (length ws) z in
    let n : ℕ = scalar_count ss in
    let q = ew ∙ odd8-laid ps n ws (omega (arith, s.equal)) range s.below (omega (arith, s.windows-are)) in
    both (done-counted z (ap (λ (m : Made). m.counts.additions) q) (ap (λ (m : Made). m.counts.doublings) q))
    (ap₂ (λ (x : List ℤ) (y : List ℕ). memory_of x y)
    (ed ∙ naf-laid 5 (lit≤ tt) ss n ds (le_refl n) (lit≤ tt) (omega (arith, s.digits_are)) ∙ laid-all 256 _ n ds (λ i _. naf-length 5 (scalar_at ss i)) s.digits_are)
    (ap (λ (m : Made). m.limbs) q ∙ laid-all 32 _ n ws (λ i _. limbs-length (odd residues (point_at ps i)) 8) s.windows-are)
    ∙ sym (ap (λ (k : ℕ). given k (memory_of ds ws) (fresh ss ps n)) z ∙ given-done _ (fresh ss ps n)))

-- a refused call on memory
pub refused-is : {y : Result Counts Refusal} {k : ℕ} → Refused y k → (m x : Memory) (a b : ℕ)
    → ◌≡◌ {A = AfterEdit} (record { result = as_counted y; memory = m }) (record { result = counted k a b; memory = given k m x })
refused-is r m x a b = both (refused-counted r a b) (sym (given-refused m x _ (refused-not-0 r)))

-- ---- edits

-- 1, 2, 4 and 6 decide before the point is looked at
pub edge-refused : (d w slot : ℕ) (s : List ℕ) (p : Option Element) (n : ℕ) → n ≡ edge_refusal d w slot s → (n ≡ 0 → ⊥) → n ≡ set_refusal d w slot s p
unfolding edge_refusal set_refusal
edge-refused d w slot s p n e h = joined-here _ _ e h

pub edge-passed : (d w slot : ℕ) (s : List ℕ) → edge_refusal d w slot s ≡ 0 → (p : Option Element) → set_refusal d w slot s p ≡ first ((point_over p, 7) ∷ (is_absent p, 8) ∷ [])
unfolding edge_refusal set_refusal
edge-passed d w slot s e p = sym (joined-next _ (edge_conditions d w slot s) (omega arith) refl e refl)

-- the slot lies in memory
pub record Inside (d w slot : ℕ) : Type 0 where
  pub digits-fit : 256 * slot + 256 ≤ d
  pub windows-fit : 32 * slot + 32 ≤ w
  pub few : slot < most

pub edge-inside : (d w slot : ℕ) (s : List ℕ) → edge_refusal d w slot s ≡ 0 → Inside d w slot
unfolding edge_refusal memory_not_whole not_in other_than beyond_most
edge-inside d w slot s e =
    let n0 = first-none _ _ _ (λ z. omega arith) (sym e) in
    let n1 = first-none _ _ _ (λ z. omega arith) n0.1 in
    let n2 = first-none _ _ _ (λ z. omega arith) n1.1 in
    let n4 = first-none _ _ _ (λ z. omega arith) n2.1 in
    let q = or_split (not_in 256 d) (other_than (32 * (d / 256)) w) n1.0 in
    let a : d % 256 ≡ 0 = eqb-true _ _ (not-false _ q.0) in
    let b : w ≡ 32 * (d / 256) = eqb-true _ _ (not-false _ q.1) in
    let c : slot < d / 256 = leb-false _ _ n4.0 in
    let f : d / 256 ≤ most = ltb-false _ _ n2.0 in
    record { digits-fit = omega arith; windows-fit = omega arith; few = omega arith }

module _ (d w slot : ℕ) (s : List ℕ) (z : edge_refusal d w slot s ≡ 0) where
  pub absent-is : 8 ≡ set_refusal d w slot s None
  absent-is = sym (edge-passed d w slot s z None ∙ (unfold first point_over is_absent in refl))

  pub over-is : (e : Element) → leb L (value_of e) ≡ true → 7 ≡ set_refusal d w slot s (Some e)
  over-is e h = sym (edge-passed d w slot s z (Some e) ∙ (unfold first point_over is_absent in (rw h)))

module _ (ds : List ℤ) (ws : List ℕ) (slot : ℕ) (s : List ℕ) (z : edge_refusal (length ds) (length ws) slot s ≡ 0) where
  module _ (e : Element) (range : Ranged e) (h : leb L (value_of e) ≡ false) where
    taken : set_refusal (length ds) (length ws) slot s (Some e) ≡ 0
    taken = edge-passed _ _ slot s z (Some e) ∙ (unfold first point_over is_absent in (rw h))

    row : naf_row_of s 5 ≡ slot_row (scalar_at s 0)
    unfolding naf_row_of width_off slot_row scalar_at part
    row = refl

    window : elements_flat (odd elements e) 8 ≡ slot_window (value_of e)
    unfolding slot_window
    window = odd-limbs e range (leb-false _ _ h) 8

    row-long : length (naf_row_of s 5) ≡ 256
    unfolding slot_row
    row-long = ap length row ∙ naf-length 5 (scalar_at s 0)

    window-long : length (elements_flat (odd elements e) 8) ≡ 32
    unfolding slot_window
    window-long = ap length window ∙ limbs-length (odd residues (value_of e)) 8

    -- what filling the slot's parts leaves
    pub set_is : (c : Counts) (d : List ℤ) (w : List ℕ)
        → ◌≡◌ {A = Filled} (record { counts = c; digits = d; windows = w }) (filled_slot s e (take (256 * slot + 256 - 256 * slot) (drop (256 * slot) ds)) (take (32 * slot + 32 - 32 * slot) (drop (32 * slot) ws)))
        → ◌≡◌ {A = AfterEdit} (after_edit (as_counted (Ok c)) (take (256 * slot) ds ++ (d ++ drop (256 * slot + 256 - 256 * slot) (drop (256 * slot) ds))) (take (32 * slot) ws ++ (w ++ drop (32 * slot + 32 - 32 * slot) (drop (32 * slot) ws)))) (set_slot (memory_of ds ws) slot s (Some e))
    unfolding set_slot set_in filled_slot made_odd_in value_in
    set_is c d w ef =
        let i = edge-inside _ _ slot s z in
        both (done-counted taken (ap (λ (f : Filled). f.counts.additions) ef) (ap (λ (f : Filled). f.counts.doublings) ef))
        (ap₂ (λ (x : List ℤ) (y : List ℕ). memory_of x y)
        (ap (λ (f : Filled). take (256 * slot) ds ++ (f.digits ++ drop (256 * slot + 256 - 256 * slot) (drop (256 * slot) ds))) ef
        ∙ put-stored (256 * slot) (256 * slot + 256) (naf_row_of s 5) ds (ap (λ (n : ℕ). 256 * slot + n) (sym row-long)) i.digits-fit
        ∙ ap (λ (x : List ℤ). stored (256 * slot) x ds) row)
        (ap (λ (f : Filled). take (32 * slot) ws ++ (f.windows ++ drop (32 * slot + 32 - 32 * slot) (drop (32 * slot) ws))) ef
        ∙ put-stored (32 * slot) (32 * slot + 32) (elements_flat (odd elements e) 8) ws (ap (λ (n : ℕ). 32 * slot + n) (sym window-long)) i.windows-fit
        ∙ ap (λ (x : List ℕ). stored (32 * slot) x ws) window)
        ∙ sym (ap (λ (k : ℕ). given k (memory_of ds ws) (set_in slot (scalar_at s 0) (value_of e) (memory_of ds ws))) taken ∙ given-done (memory_of ds ws) _))
