-- Demand 3: a prepared batch, after any run of edits, accepted or refused, equals one prepared afresh from the edited list.
use mathlib.Core.Path.{◌≡◌, refl, sym, ap, ap₂, ◌∙◌}
use mathlib.Core.Bool.{Bool, true, false, cond}
use mathlib.Core.List.{List, [], ◌∷◌}
use Prim.Native.Nat.{ℕ, ◌*◌, ◌/◌, ◌<◌}
use native.Mathlib.Decide.{ℕ_discrete}
use native.Mathlib.Omega.{arith}
use lib.ListN.{length, get_or}
use lib.IntN.{ℤ}
use lib.Dec.{eqb, leb}
use Rattle.std.specs.Prelude.{Option, Some, None}
use Rattle.rules.specs.declared.Element.{Element}
use Rattle.rules.specs.Values.{number, part, flat, point_at, optional_at, scalar_at}
use Rattle.rules.specs.Group.{L}
use Rattle.rules.specs.Numbers.{scalar_bound, given, counted}
use Rattle.rules.specs.Lists.{point_count, lists_not_whole, lists_too_many, any_big, big_at, any_point, bad_lists, point_over, is_absent, absent_below, stored}
use Rattle.rules.specs.Batch.{Memory, Pairs, Edit, apply, memory_after, limbs_in, value_in, edited, list_after, fresh, slot_row, slot_window, slot_of, bytes_of, point_of, number_by}
use Rattle.laws.specs.Conditions.{or-none, any_below_lem, any-absent, given-done, given-refused}
use Rattle.laws.specs.Parts.{flat-length, flat-ext, spliced-flat}
use Rattle.rules.specs.Claims.{prepared, slots, answers_in, answers_by}
use Rattle.arguments.proofs.Storing.{as-part, stored-long, stored_at}
use Rattle.arguments.proofs.Entries.{point-part, limbs-long, limbs-value, whole-scalar, over-by-flag, absent-by-flag}
use Rattle.arguments.proofs.Accepted.{row-long, window-long, Accepted, accepted}
use Rattle.arguments.proofs.Edits.{digits_long, windows_long, number_of, number_on, answer-is, refused-keeps, row_of, window_of, accepted-stores}
use Rattle.arguments.proofs.Ready.{Ready, lengths, right-both, prepared-is, prepared-from}

-- a function of one of two
by-case : {A B : Type 0} (f : A → B) (b : Bool) (x y : A) → f (cond b x y) ≡ cond b (f x) (f y)
by-case f true x y = refl
by-case f false x y = refl

either : (b : Bool) {x y : Bool} → x ≡ false → y ≡ false → cond b x y ≡ false
either true h g = h
either false h g = g

-- the memory of a list prepared afresh
abbrev pub fresh_of : Pairs → Memory
fresh_of l = fresh l.scalars l.points (slots l)

-- the list with an edit's pair in its slot
abbrev with_pair : Pairs → Edit → Pairs
with_pair l e = record { scalars = stored (32 * slot_of e) (bytes_of e) l.scalars; points = stored (4 * slot_of e) (limbs_in (point_of e)) l.points; flags = l.flags }

module _ (l : Pairs) (e : Edit) (r : Ready l) (z : number_by l e ≡ 0) where
  abbrev then : Pairs
  then = with_pair l e

  abbrev here : ℕ → Bool
  here i = eqb i (slot_of e)

  has : Accepted (256 * slots l) (32 * slots l) (slot_of e) (bytes_of e) (point_of e)
  has = accepted _ _ _ _ _ z

  inside : slot_of e < slots l
  inside = omega (arith, has.inside)

  long-scalars : length then.scalars ≡ length l.scalars
  long-scalars = stored-long 32 (slots l) (slot_of e) (bytes_of e) l.scalars has.bytes (lengths l r).0 inside

  long-points : length then.points ≡ length l.points
  long-points = stored-long 4 (slots l) (slot_of e) (limbs_in (point_of e)) l.points (limbs-long (point_of e)) (lengths l r).1 inside

  pub same-slots : slots then ≡ slots l
  same-slots = ap (λ (k : ℕ). k / 32) long-scalars

  same_points : point_count then.points ≡ point_count l.points
  same_points = ap (λ (k : ℕ). k / 4) long-points

  scalar-then : (i : ℕ) → scalar_at then.scalars i ≡ cond (here i) (scalar_at (bytes_of e) 0) (scalar_at l.scalars i)
  unfolding scalar_at
  scalar-then i =
      ap (number 256) (stored_at 32 (slots l) (slot_of e) (bytes_of e) l.scalars has.bytes (lengths l r).0 inside i)
      ∙ by-case (number 256) (here i) (bytes_of e) (part 32 i l.scalars)
      ∙ ap (λ (v : ℕ). cond (here i) v (number 256 (part 32 i l.scalars))) (whole-scalar (bytes_of e) has.bytes)

  point-then : (i : ℕ) → point_at then.points i ≡ cond (here i) (value_in (point_of e)) (point_at l.points i)
  point-then i =
      point-part then.points i
      ∙ ap (λ (t : List ℕ). point_at t 0) (stored_at 4 (slots l) (slot_of e) (limbs_in (point_of e)) l.points (limbs-long (point_of e)) (lengths l r).1 inside i)
      ∙ by-case (λ (t : List ℕ). point_at t 0) (here i) (limbs_in (point_of e)) (part 4 i l.points)
      ∙ ap₂ (cond (here i)) (limbs-value (point_of e) has.present) (sym (point-part l.points i))

  -- a flat list of parts made of these is stored into at the slot
  flat-then : {A : Type 0} (n : ℕ) (f : ℕ → List A) → ((v : ℕ) → length (f v) ≡ n) → (new : ℕ) (old now : ℕ → ℕ) → ((i : ℕ) → now i ≡ cond (here i) new (old i))
      → flat (λ i. f (now i)) (slots l) ≡ stored (n * slot_of e) (f new) (flat (λ i. f (old i)) (slots l))
  flat-then n f long new old now h =
      flat-ext (slots l) (λ i q. ap f (h i) ∙ by-case f (here i) new (old i))
      ∙ sym (spliced-flat n (slots l) (slot_of e) (λ i. f (old i)) (f new) (λ i q. long (old i)) (long new) inside)
      ∙ sym (as-part n (slot_of e) (f new) (flat (λ i. f (old i)) (slots l)) (long new))

  -- preparing the new list afresh is storing the new slot
  pub fresh-then : fresh then.scalars then.points (slots l)
      ≡ record { digits = stored (256 * slot_of e) (row_of e) (fresh_of l).digits; windows = stored (32 * slot_of e) (window_of e) (fresh_of l).windows }
  unfolding fresh
  fresh-then =
      ap₂ (λ (d : List ℤ) (w : List ℕ). record { digits = d; windows = w })
      (flat-then 256 slot_row row-long _ (scalar_at l.scalars) (scalar_at then.scalars) scalar-then)
      (flat-then 32 slot_window window-long _ (point_at l.points) (point_at then.points) point-then)

  small-then : any_big then.scalars ≡ false
  unfolding any_big big_at
  small-then =
      any-absent (big_at then.scalars) _
      (λ i h. ap (leb scalar_bound) (scalar-then i)
      ∙ by-case (leb scalar_bound) (here i) _ _
      ∙ either (here i) (any_below_lem (big_at (bytes_of e)) _ 0 has.small (omega (arith, has.bytes))) (any_below_lem (big_at l.scalars) _ i r.small (omega (arith, same-slots))))

  below_then : any_point then.points l.flags ≡ false
  unfolding any_point
  below_then =
      any-absent (λ i. point_over (optional_at then.points l.flags i)) _
      (λ i h. over-by-flag then.points l.flags i
      ∙ ap (λ (v : ℕ). cond (eqb (get_or l.flags i 0) 0) false (leb L v)) (point-then i)
      ∙ by-case (λ (v : ℕ). cond (eqb (get_or l.flags i 0) 0) false (leb L v)) (here i) _ _
      ∙ either (here i) (either (eqb (get_or l.flags i 0) 0) refl (new-below (point_of e) has.below has.present))
      (sym (over-by-flag l.points l.flags i) ∙ any_below_lem (λ j. point_over (optional_at l.points l.flags j)) _ i (right-both l r).1 (omega (arith, same_points))))
    where
      new-below : (p : Option Element) → point_over p ≡ false → is_absent p ≡ false → leb L (value_in p) ≡ false
      new-below (Some x) h g = unfold point_over value_in in h
      new-below None h g = let q : true ≡ false = unfold is_absent in g in let w : ◌≡◌ {A = ℕ} 0 1 = cc in absurd (omega arith)

  there-then : absent_below then.points l.flags (point_count then.points) ≡ false
  unfolding absent_below
  there-then =
      any-absent (λ i. is_absent (optional_at then.points l.flags i)) _
      (λ i h. absent-by-flag then.points l.flags i ∙ sym (absent-by-flag l.points l.flags i)
      ∙ any_below_lem (λ j. is_absent (optional_at l.points l.flags j)) _ i r.all_there (omega (arith, same_points)))

  -- it is ready again
  pub ready-then : Ready then
  unfolding lists_not_whole lists_too_many bad_lists
  ready-then =
      record {
        whole = rw (long-scalars, long-points) r.whole;
        few = rw (long-scalars, long-points) r.few;
        small = small-then;
        right = or-none _ _ (right-both l r).0 below_then;
        all_there = there-then;
        equal = rw (long-scalars, long-points) r.equal;
      }

module _ (l : Pairs) where
  pub fresh-digits : digits_long (fresh_of l) ≡ 256 * slots l
  unfolding fresh
  fresh-digits = flat-length 256 _ (slots l) (λ i h. row-long _)

  pub fresh-windows : windows_long (fresh_of l) ≡ 32 * slots l
  unfolding fresh
  fresh-windows = flat-length 32 _ (slots l) (λ i h. window-long _)

edited-is : (l : Pairs) (e : Edit) → edited l e ≡ given (number_by l e) l (with_pair l e)
unfolding edited
edited-is l e = refl

-- one edit, accepted or refused: memory stays what preparing the edited list afresh gives, and that list is ready
pub one-edit : (l : Pairs) (e : Edit) → Ready l → ((apply (fresh_of l) e).memory ≡ fresh_of (edited l e)) × Ready (edited l e) × (slots (edited l e) ≡ slots l)
one-edit l e r = go (ℕ_discrete (number_by l e) 0)
  where
    number_is : number_of (fresh_of l) e ≡ number_by l e
    number_is = ap₂ (λ (d w : ℕ). number_on d w e) (fresh-digits l) (fresh-windows l)

    go : Dec (number_by l e ≡ 0) → ((apply (fresh_of l) e).memory ≡ fresh_of (edited l e)) × Ready (edited l e) × (slots (edited l e) ≡ slots l)
    go (no h) =
        let q : edited l e ≡ l = edited-is l e ∙ given-refused l _ (number_by l e) h in
        (refused-keeps (fresh_of l) e (λ y. h (sym number_is ∙ y)) ∙ ap fresh_of (sym q), rw q r, ap slots q)
    go (yes z) =
        let q : edited l e ≡ with_pair l e = edited-is l e ∙ ap (λ (n : ℕ). given n l (with_pair l e)) z ∙ given-done l (with_pair l e) in (
          accepted-stores (fresh_of l) e (number_is ∙ z)
              ∙ sym (fresh-then l e r z)
              ∙ ap (fresh (with_pair l e).scalars (with_pair l e).points) (sym (same-slots l e r z))
              ∙ ap fresh_of (sym q),
          rw q (ready-then l e r z),
          ap slots q ∙ same-slots l e r z,
        )

many-edits : (l : Pairs) (es : List Edit) → Ready l → (memory_after (fresh_of l) es ≡ fresh_of (list_after l es)) × Ready (list_after l es) × (slots (list_after l es) ≡ slots l)
unfolding memory_after list_after
many-edits l [] r = (refl, r, refl)
many-edits l (e ∷ es) r =
    let a = one-edit l e r in
    let b = many-edits (edited l e) es a.1 in
    (ap (λ (m : Memory). memory_after m es) a.0 ∙ b.0, b.1, b.2 ∙ a.2)

-- the edited list is ready, and the edited memory is its own
module _ (l : Pairs) (m : Memory) (es : List Edit) (z : (prepared l m).result.number ≡ 0) where
  pub edited-ready : Ready (list_after l es)
  edited-ready = (many-edits l es (prepared-is l m z).2).1

  pub prepared-fresh : memory_after (prepared l m).memory es ≡ fresh_of (list_after l es)
  prepared-fresh = let a = prepared-is l m z in ap (λ (k : Memory). memory_after k es) a.3 ∙ (many-edits l es a.2).0

-- a list prepared into any memory of the needed length with answer 0; then any run of edits; then the memory is what preparing the
-- edited list into any memory of that length gives, and that preparing answers 0 too
pub record Afresh (l : Pairs) (m : Memory) (es : List Edit) (m' : Memory) : Type 0 where
  pub taken-again : (prepared (list_after l es) m').result.number ≡ 0
  pub same_memory : memory_after (prepared l m).memory es ≡ (prepared (list_after l es) m').memory

pub edited-is-fresh : (l : Pairs) (m : Memory) (es : List Edit) → (prepared l m).result.number ≡ 0
    → (m' : Memory) → digits_long m' ≡ digits_long m → windows_long m' ≡ windows_long m → Afresh l m es m'
edited-is-fresh l m es z m' ed ew =
    let a = prepared-is l m z in
    let b = many-edits l es a.2 in
    let c = prepared-from (list_after l es) m' (ed ∙ a.0 ∙ ap (λ (k : ℕ). 256 * k) (sym b.2)) (ew ∙ a.1 ∙ ap (λ (k : ℕ). 32 * k) (sym b.2)) b.1 in
    record { taken-again = c.0; same_memory = prepared-fresh l m es z ∙ sym c.1 }

-- edit by edit, the answer in the run is the answer by the list
answers-by-list : (l : Pairs) (es : List Edit) → Ready l → answers_in (fresh_of l) es ≡ answers_by l es
unfolding answers_in answers_by
answers-by-list l [] r = refl
answers-by-list l (e ∷ es) r =
    let a = one-edit l e r in
    ap₂ ◌∷◌
    (answer-is (fresh_of l) e ∙ ap₂ (λ (d w : ℕ). counted (number_on d w e) 7 1) (fresh-digits l) (fresh-windows l))
    (ap (λ (m : Memory). answers_in m es) a.0 ∙ answers-by-list (edited l e) es a.1)

pub edited-answers : (l : Pairs) (m : Memory) (es : List Edit) → (prepared l m).result.number ≡ 0 → answers_in (prepared l m).memory es ≡ answers_by l es
edited-answers l m es z = let a = prepared-is l m z in ap (λ (k : Memory). answers_in k es) a.3 ∙ answers-by-list l es a.2
