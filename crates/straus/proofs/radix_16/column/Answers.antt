use mathlib.Core.Path.{◌≡◌, subst, ap}
use Prim.Native.Nat.{ℕ}
use native.Mathlib.Omega.{arith}
use lib.Dec.{lit<}
use Rattle.std.proofs.Common.{rules}
use Rattle.std.proofs.lemmas.List.{length_push}
use Rattle.rules.specs.declared.Walk.{Walk}
use Rattle.columns.proofs.Chunks.{beside-none, beside-more, beside-less, beside-all}
use Rattle.straus.specs.Radix.{radix_rows, with_column}
use Rattle.straus.proofs.Walking.{column-none, column-more}
use Rattle.straus.proofs.radix_16.column.Goals as goal

pub loop-row-init : goal.loop-row-init
loop-row-init c = record { beside = beside-none 64 _ 32 _ _ (search rules) (search rules) (search rules) (search rules); sum = column-none _ _ _ _ }

pub added-r-requires-clause-count : goal.added-r-requires-clause-count
unfolding radix_rows with_column
added-r-requires-clause-count c =
    let p = beside-less 64 _ 32 _ c.loop-row.row-iterator c.next.new.self _ c.loop-row.invariant.beside _ c.next.ensures.steps (lit< tt) (lit< tt) _ c.in-Some.is in
    let a = ap (λ (t : Walk). t.additions) c.loop-row.invariant.sum in
    omega (arith, p, a, c.requires.count)

pub loop-row-preserved : goal.loop-row-preserved
loop-row-preserved c =
    let n = beside-more 64 _ 32 _ c.loop-row.row-iterator c.next.new.self _ c.loop-row.invariant.beside _ c.next.ensures.steps _ c.in-Some.is in
    let e = length_push c.loop-row.yielded (c.in-Some.row, c.in-Some.window) in
    record {
      beside = rw e n.beside;
      sum = rw e (column-more _ _ c.args.j c.args.w _ _ _ n.first_is n.second_is c.loop-row.invariant.sum c.added-r.ensures);
    }

pub returns : goal.returns
unfolding radix_rows
returns c =
    let e = beside-all 64 _ 32 _ c.loop-row.row-iterator c.next.new.self _ c.loop-row.invariant.beside _ c.next.ensures.steps (lit< tt) (lit< tt) c.in-None.is in
    subst (λ (i : ℕ). c.loop-row.r ≡ with_column c.args.digits.now c.args.limbs.now i c.args.j c.args.w) e c.loop-row.invariant.sum
