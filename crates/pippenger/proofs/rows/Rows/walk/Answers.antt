use mathlib.Core.Path.{◌≡◌, refl, ap, ◌∙◌}
use mathlib.Core.List.{List}
use Prim.Native.Nat.{ℕ, ◌+◌, ◌-◌, ◌*◌, ◌^◌, ◌<◌, ◌≤◌}
use native.Mathlib.Omega.{arith}
use lib.IntN.{ℤ}
use Rattle.rules.specs.declared.Element.{Element}
use Rattle.rules.specs.Group.{added, elements}
use Rattle.rules.specs.Loops.{doubled}
use Rattle.laws.proofs.Room.{cleared-long}
use Rattle.laws.specs.BucketWalk.{wide, ColumnMade, column-asked, Going, going_start, going-turn, going-small, going_end}
use Rattle.pippenger.proofs.rows.Rows.walk.Goals as goal

-- after a turn: what is to come stays, and its counts are small
module _ (ds : List ℤ) (P : ℕ → Element) (m w : ℕ) (l₀ : List ℕ) (j : ℕ) {l l' : List ℕ} {n k a d : ℕ} {q x y z : Element} (p : 0 < j) (g : Going elements 4 ds P m w l₀ j l q a d)
    (e : n ≡ 2 ^ (w - 1)) (made : ColumnMade elements 4 ds P m (j - 1) n l l' x k) (ey : y ≡ doubled elements w q) (ez : z ≡ added y x) where
  next : Going elements 4 ds P m w l₀ (j - 1) l' z (a + (k + 1)) (d + w)
  next = going-turn elements 4 ds P m w l₀ j p g (rw e at made) (ez ∙ ap (λ (y : Element). added y x) ey)

  few : 6 ≤ w → w ≤ 8 → (a + (k + 1) ≤ m * 64 + 20000) × (d + w ≤ 504)
  few lo hi = going-small elements 4 ds P m w l₀ lo hi next

pub overflow_sub-c : goal.overflow_sub-c
overflow_sub-c c = omega (arith, c.to_radix_2w_size_hint-c.ensures, (wide c.args.w c.requires.low c.requires.high).some)

pub column-high-requires : goal.column-high-requires
column-high-requires c =
    column-asked c.requires c.buckets_count-n.ensures (omega (arith, c.to_radix_2w_size_hint-c.ensures, (wide c.args.w c.requires.low c.requires.high).some)) c.args.buckets.now refl

pub overflow_step-j : goal.overflow_step-j
overflow_step-j c = omega (arith, c.to_radix_2w_size_hint-c.ensures, (wide c.args.w c.requires.low c.requires.high).some)

pub loop-j-init : goal.loop-j-init
loop-j-init c =
    let h = rw (c.buckets_count-n.ensures, c.to_radix_2w_size_hint-c.ensures) at c.column-high.ensures in
    rw c.to_radix_2w_size_hint-c.ensures
    (going_start elements 4 _ _ _ _ _ (omega (arith, (wide c.args.w c.requires.low c.requires.high).some)) h)

pub column-col-requires : goal.column-col-requires
column-col-requires c =
    column-asked c.requires c.buckets_count-n.ensures (omega (arith, c.loop-j.invariant.place)) c.loop-j.buckets (cleared-long _ _ _ _ c.loop-j.invariant.kept)

pub overflow_add-additions : goal.overflow_add-additions
overflow_add-additions c =
    let f = few _ _ _ _ _ c.loop-j.j c.loop-j-test.true c.loop-j.invariant c.buckets_count-n.ensures c.column-col.ensures c.mul_by_pow_2.ensures c.plus-q.ensures c.requires.low c.requires.high in
    omega (arith, f.0, (c.requires.placed 0 (omega arith)).rows)

pub overflow_add-additions-in-loop-j : goal.overflow_add-additions-in-loop-j
overflow_add-additions-in-loop-j c =
    let f = few _ _ _ _ _ c.loop-j.j c.loop-j-test.true c.loop-j.invariant c.buckets_count-n.ensures c.column-col.ensures c.mul_by_pow_2.ensures c.plus-q.ensures c.requires.low c.requires.high in
    omega (arith, f.0, (c.requires.placed 0 (omega arith)).rows)

pub overflow_add-doublings : goal.overflow_add-doublings
overflow_add-doublings c =
    let f = few _ _ _ _ _ c.loop-j.j c.loop-j-test.true c.loop-j.invariant c.buckets_count-n.ensures c.column-col.ensures c.mul_by_pow_2.ensures c.plus-q.ensures c.requires.low c.requires.high in
    omega (arith, f.1)

pub loop-j-preserved : goal.loop-j-preserved
loop-j-preserved c =
    next _ _ _ _ _ c.loop-j.j c.loop-j-test.true c.loop-j.invariant c.buckets_count-n.ensures c.column-col.ensures c.mul_by_pow_2.ensures c.plus-q.ensures

pub returns : goal.returns
returns c = going_end elements 4 _ _ _ _ _ c.loop-j.j (omega arith) c.loop-j.invariant
