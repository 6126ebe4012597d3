use Rattle.std.proofs.Common.{ℕ, List, ℤ, ◌≤◌, ◌∙◌, subst, refl, arith, rules, w8, to_z-of_z}
use native.Mathlib.Nat.{le_refl}
use Rattle.laws.specs.RadixRows.{place}
use Rattle.radix.proofs.RadixTurn.{Part, known, nothing-done, starts, inside, turn-small, turn-asks, turned, end-asks, ended}
use Rattle.radix.proofs.radix_2w.Goals as goal

pub overflow_sub-last : goal.overflow_sub-last
overflow_sub-last c = let p = c.requires in omega (arith, (place _ (omega (arith, p.0)) p.1).some)

pub loop-i-init : goal.loop-i-init
loop-i-init c =
    let k = known _ _ _ _ _ c.requires (λ i. (c.type_inv.scalar i).fits) c.five_words-x_u64.ensures c.power-radix.ensures c.to_radix_2w_size_hint-last.ensures in
    record { known = k; part = nothing-done _ _ _ _ _ k }

-- ---- a turn

pub overflow_mul-i : goal.overflow_mul-i
overflow_mul-i c = omega (arith, starts _ _ _ _ _ c.loop-i.invariant.known _ c.loop-i.auto.i-end)

pub overflow_add-coef : goal.overflow_add-coef
overflow_add-coef c =
    let h = c.loop-i.invariant in omega (arith, turn-small _ _ _ _ _ h.known _ c.loop-i.auto.i-end _ _ _ h.part c.bit_buf.ensures)

pub overflow_add-carry : goal.overflow_add-carry
overflow_add-carry c =
    let h = c.loop-i.invariant in omega (arith, turn-small _ _ _ _ _ h.known _ c.loop-i.auto.i-end _ _ _ h.part c.bit_buf.ensures)

pub digit-requires : goal.digit-requires
digit-requires c =
    let h = c.loop-i.invariant in turn-asks _ _ _ _ _ h.known _ c.loop-i.auto.i-end _ _ _ h.part c.bit_buf.ensures

pub bounds-digits-i : goal.bounds-digits-i
bounds-digits-i c = inside _ _ _ _ _ c.loop-i.invariant.known _ c.loop-i.auto.i-end

pub loop-i-preserved : goal.loop-i-preserved
loop-i-preserved c =
    let h = c.loop-i.invariant in
    record {
      known = h.known;
      part = turned _ _ _ _ _ h.known _ c.loop-i.auto.i-end _ _ _ h.part c.bit_buf.ensures c.loop-i-test.true _ (to_z-of_z {w = w8} (search rules) ∙ c.digit.ensures);
    }

-- ---- the last place

-- the loop is left there
left : (w N : ℕ) (row : List ℤ) (carry i last : ℕ) → Part w N row carry i → i ≤ last → last ≤ i → Part w N row carry last
left w N row carry i last h a b = subst (λ (j : ℕ). Part w N row carry j) (omega arith) h

pub overflow_mul-last : goal.overflow_mul-last
overflow_mul-last c = omega (arith, starts _ _ _ _ _ c.loop-i.invariant.known _ (le_refl _))

pub overflow_add-coef-2 : goal.overflow_add-coef-2
overflow_add-coef-2 c =
    let h = c.loop-i.invariant in
    let p = left _ _ _ _ _ _ h.part c.loop-i.auto.i-end c.loop-i-test.false in
    omega (arith, turn-small _ _ _ _ _ h.known _ (le_refl _) _ _ _ p c.bit_buf-2.ensures)

pub digit-requires-2 : goal.digit-requires-2
digit-requires-2 c =
    let h = c.loop-i.invariant in
    let p = left _ _ _ _ _ _ h.part c.loop-i.auto.i-end c.loop-i-test.false in
    end-asks _ _ _ _ _ h.known _ (le_refl _) _ _ _ p c.bit_buf-2.ensures refl

pub bounds-digits-last : goal.bounds-digits-last
bounds-digits-last c = inside _ _ _ _ _ c.loop-i.invariant.known _ (omega arith)

pub returns : goal.returns
returns c =
    let h = c.loop-i.invariant in
    let p = left _ _ _ _ _ _ h.part c.loop-i.auto.i-end c.loop-i-test.false in
    ended _ _ _ _ _ h.known _ (le_refl _) _ _ _ p c.bit_buf-2.ensures refl _ (to_z-of_z {w = w8} (search rules) ∙ c.digit-2.ensures)
