use mathlib.Core.Path.{◌≡◌, refl, subst, ◌∙◌}
use Prim.Native.Nat.{ℕ}
use native.Mathlib.Omega.{arith}
use lib.Dec.{lit<}
use Rattle.std.proofs.Common.{rules}
use Rattle.std.proofs.lemmas.List.{length_push}
use Rattle.rules.specs.Values.{element_at}
use Rattle.rules.specs.Group.{elements}
use Rattle.rules.specs.Helpers.{windowed_rows, window_entry}
use Rattle.laws.specs.Running.{passed, passed_none, passed-row, passed-row-fits}
use Rattle.columns.specs.Running.{run}
use Rattle.columns.proofs.Chunks.{beside-none, beside-more, beside-less, beside-all}
use Rattle.columns.proofs.Rows.column.Goals as goal

pub loop-row-init : goal.loop-row-init
loop-row-init g c = record {
  beside = beside-none 256 _ g.row.LIMBS _ _ (search rules) (search rules) (search rules) (search rules);
  sum = passed_none _ _ _ _ _;
  doublings = refl;
}

pub moved-r-requires-clause-count : goal.moved-r-requires-clause-count
unfolding windowed_rows
moved-r-requires-clause-count g c =
    let p = beside-less 256 _ g.row.LIMBS _ c.loop-row.row-iterator c.next.new.self _ c.loop-row.invariant.beside _ c.next.ensures.steps (lit< tt) c.requires.limbs _ c.in-Some.is in
    let n = beside-more 256 _ g.row.LIMBS _ c.loop-row.row-iterator c.next.new.self _ c.loop-row.invariant.beside _ c.next.ensures.steps _ c.in-Some.is in
    passed-row-fits elements element_at _ c.args.self.now.windows.now g.row.LIMBS c.args.j (run c.args.w) _ _ n.first_is _ c.loop-row.invariant.sum _ (omega (arith, p)) c.requires.count

pub loop-row-preserved : goal.loop-row-preserved
loop-row-preserved g c =
    let n = beside-more 256 _ g.row.LIMBS _ c.loop-row.row-iterator c.next.new.self _ c.loop-row.invariant.beside _ c.next.ensures.steps _ c.in-Some.is in
    let e = length_push c.loop-row.yielded (c.in-Some.row, c.in-Some.window) in
    record {
      beside = rw e n.beside;
      sum = rw e (passed-row elements element_at _ _ g.row.LIMBS c.args.j (run c.args.w) _ _ n.first_is _ c.loop-row.invariant.sum _ n.second_is _ c.moved-r.ensures.sum);
      doublings = c.moved-r.ensures.doublings ∙ c.loop-row.invariant.doublings;
    }

pub returns-clause-sum : goal.returns-clause-sum
unfolding windowed_rows
returns-clause-sum g c =
    let e = beside-all 256 _ g.row.LIMBS _ c.loop-row.row-iterator c.next.new.self _ c.loop-row.invariant.beside _ c.next.ensures.steps (lit< tt) c.requires.limbs c.in-None.is in
    subst (λ (i : ℕ). run c.loop-row.r ≡ passed elements c.args.self.now.digits.now (window_entry g.row.LIMBS c.args.self.now.windows.now) i c.args.j (run c.args.w)) e
    c.loop-row.invariant.sum
