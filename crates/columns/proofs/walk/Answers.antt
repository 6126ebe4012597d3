use mathlib.Core.Path.{◌≡◌}
use Prim.Native.Nat.{min}
use native.Mathlib.Omega.{arith}
use Rattle.rules.specs.Helpers.{windowed_rows}
use Rattle.laws.specs.Running.{walking-none, walking-more, walking-counts, walking-counts'}
use Rattle.columns.proofs.Walking.{walking-end}
use Rattle.columns.proofs.walk.Goals as goal

pub loop-j-init : goal.loop-j-init
loop-j-init c =
    let e : c.min-j.result ≡ min c.args.places 256 = omega arith in
    record { rest = rw e (walking-none _ _ _ _ _ _ _ _ _ c.identity.ensures); doublings = omega arith }

pub column-u-requires : goal.column-u-requires
unfolding windowed_rows
column-u-requires c =
    let count = walking-counts _ _ _ _ _ _ _ _ _ _ c.loop-j.invariant.rest (omega arith) (omega arith) (omega arith) (omega arith) (omega arith) (omega arith) in
    (omega arith, (omega arith, (omega (arith, c.loop-j.invariant.rest.place), count)))

pub column-w-requires : goal.column-w-requires
unfolding windowed_rows
column-w-requires c =
    let count = walking-counts' _ _ _ _ _ _ _ _ _ _ c.loop-j.invariant.rest (omega arith) (omega arith) (omega arith) (omega arith) (omega arith) (omega arith) _ _ c.column-u.ensures.sum in
    (omega arith, (omega arith, (omega (arith, c.loop-j.invariant.rest.place), count)))

pub loop-j-preserved : goal.loop-j-preserved
loop-j-preserved c = record {
  rest = walking-more _ _ _ _ _ _ _ _ _ _ c.loop-j.invariant.rest (omega arith) _ _ _ c.twice.ensures c.column-u.ensures.sum c.column-w.ensures.sum;
  doublings = omega (arith, c.loop-j.invariant.doublings, c.column-u.ensures.doublings, c.column-w.ensures.doublings);
}

pub returns : goal.returns
returns c = walking-end _ _ _ _ _ _ _ c.loop-j.invariant (omega arith)
