-- Refused by its number, else the rows laid, the walk made and the room cleared.
use mathlib.Core.Path.{◌≡◌, refl, sym, ◌∙◌}
use Prim.Native.Nat.{ℕ}
use mathlib.Core.List.{List}
use native.Mathlib.Omega.{arith}
use Rattle.std.proofs.lemmas.Result.{err_from_is_err_and}
use Rattle.laws.specs.Results.{passed-as-0, handed-on}
use Rattle.rules.specs.Lists.{pairs}
use Rattle.rules.specs.Engines.{bucket_width, picked_by, pippenger_refusal}
use Rattle.laws.specs.BucketWalk.{wide}
use Rattle.pippenger.proofs.Refusing.{Ready, ready}
use Rattle.pippenger.proofs.Summing.{walkable}
use Rattle.pippenger.proofs.Answering.{refused-after, done-after}
use Rattle.pippenger.proofs.optional_multiscalar_mul.Goals as goal

-- past the last test
passed : {ss ps : List ℕ} (fs : List ℕ) {m w n d b : ℕ} → m ≡ pairs ss ps → w ≡ bucket_width (picked_by ss) → n ≡ pippenger_refusal ss ps fs d b → n ≡ 0 → Ready ss ps m w d b
passed fs em ew en z = ready fs em ew (sym en ∙ z)

pub returns-in_err-refusal : goal.returns-in_err-refusal
returns-in_err-refusal c =
    let p = err_from_is_err_and c.from_residual.result c.from_residual.ensures.1 in
    let r = handed-on p.1 p.2 c.in_err-refusal.was c.refusal.ensures in
    refused-after _ _ _ _ _ r

pub walk-q-requires : goal.walk-q-requires
unfolding picked_by
walk-q-requires c = walkable (passed _ c.pairs-m.ensures c.width-w.ensures c.refusal.ensures (passed-as-0 c.in_ok-refusal.was)) _ refl c.rows.ensures

pub overflow_mul-m : goal.overflow_mul-m
unfolding picked_by
overflow_mul-m c = let p = passed _ c.pairs-m.ensures c.width-w.ensures c.refusal.ensures (passed-as-0 c.in_ok-refusal.was) in omega (arith, p.few)

pub buckets_count-requires : goal.buckets_count-requires
unfolding picked_by
buckets_count-requires c = let p = passed _ c.pairs-m.ensures c.width-w.ensures c.refusal.ensures (passed-as-0 c.in_ok-refusal.was) in (p.low, p.high)

pub overflow_mul-buckets_count : goal.overflow_mul-buckets_count
unfolding picked_by
overflow_mul-buckets_count c =
    let p = passed _ c.pairs-m.ensures c.width-w.ensures c.refusal.ensures (passed-as-0 c.in_ok-refusal.was) in
    omega (arith, c.buckets_count.ensures, (wide _ p.low p.high).buckets)

pub returns : goal.returns
unfolding picked_by
returns c =
    done-after _ _ _ _ _ (sym c.refusal.ensures ∙ passed-as-0 c.in_ok-refusal.was) c.pairs-m.ensures c.width-w.ensures (passed _ c.pairs-m.ensures c.width-w.ensures c.refusal.ensures (passed-as-0 c.in_ok-refusal.was))
    c.rows.ensures c.walk-q.ensures c.clear.ensures c.buckets_count.ensures c.clear-2.ensures
