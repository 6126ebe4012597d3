-- The three parts in their order, each by what it answered.
use mathlib.Core.Path.{ap}
use Prim.Native.Nat.{◌*◌}
use native.Mathlib.Omega.{arith}
use Rattle.std.proofs.lemmas.Result.{err_from_is_err_and}
use Rattle.laws.specs.Results.{passed-as-0, handed-on}
use Rattle.rules.specs.Engines.{picked_by, pippenger_refusal}
use Rattle.laws.specs.Conditions.{joined-here, joined-next}
use Rattle.lent.proofs.Passed.{counts-few, room-is}
use Rattle.pippenger.proofs.Refusing.{picked, limbs-are, contents-is}
use Rattle.laws.specs.BucketWalk.{wide}
use Rattle.pippenger.proofs.refusal.Goals as goal

pub returns-in_err-lists : goal.returns-in_err-lists
unfolding pippenger_refusal
returns-in_err-lists c =
    let p = err_from_is_err_and c.from_residual.result c.from_residual.ensures.1 in
    let r = handed-on p.1 p.2 c.in_err-lists.was c.lists.ensures in
    joined-here _ _ r.number r.not-0

pub buckets_count-limbs-requires : goal.buckets_count-limbs-requires
buckets_count-limbs-requires c = picked _ c.width.ensures

pub overflow_mul-limbs : goal.overflow_mul-limbs
overflow_mul-limbs c = let p = picked _ c.width.ensures in omega (arith, c.buckets_count-limbs.ensures, (wide _ p.0 p.1).buckets)

pub overflow_mul-m : goal.overflow_mul-m
overflow_mul-m c =
    omega (arith, c.pairs-m.ensures, (counts-few _ _ _ c.lists.ensures (passed-as-0 c.in_ok-lists.was)).1)

pub returns-in_err-room : goal.returns-in_err-room
unfolding pippenger_refusal picked_by
returns-in_err-room c =
    let p = err_from_is_err_and c.from_residual-in_err-room.result c.from_residual-in_err-room.ensures.1 in
    let r = handed-on p.1 p.2 c.in_err-room.was c.room.ensures in
    joined-next _ _ (omega arith) c.lists.ensures (passed-as-0 c.in_ok-lists.was)
    (joined-here _ _ (room-is _ _ (ap (◌*◌ 64) c.pairs-m.ensures) (limbs-are c.width.ensures c.buckets_count-limbs.ensures) r.number) r.not-0)

pub returns : goal.returns
unfolding pippenger_refusal picked_by
returns c =
    joined-next _ _ (omega arith) c.lists.ensures (passed-as-0 c.in_ok-lists.was)
    (joined-next _ _ (omega arith) (room-is _ _ (ap (◌*◌ 64) c.pairs-m.ensures) (limbs-are c.width.ensures c.buckets_count-limbs.ensures) c.room.ensures) (passed-as-0 c.in_ok-room.was)
    (contents-is _ _ _ c.pairs-m.ensures c.contents.ensures))
