-- Nothing for a digit 0, else the bucket that it names: its element added to, or taken from.
use Rattle.std.proofs.Common.{rules}
use Rattle.laws.proofs.BucketLoops.{put-none, put-below, put-above}
use mir.Syntax.{w8}
use mir.Val.{SFits}
use Rattle.rules.specs.Values.{element_at}
use Rattle.rules.specs.Group.{elements}
use Rattle.rules.specs.Rows.{digit}
use Rattle.pippenger.specs.Flat.{replaced}
use Rattle.pippenger.proofs.buckets.put.Goals as goal

pub returns-then-d-eq0 : goal.returns-then-d-eq0
returns-then-d-eq0 c =
    let f : SFits w8 (digit c.args.row.now c.args.j) = search rules in
    put-none elements element_at replaced 4 (digit c.args.row.now c.args.j) f _ _ c.if-d-eq0.true

pub returns-then-d-lt0 : goal.returns-then-d-lt0
returns-then-d-lt0 c =
    let f : SFits w8 (digit c.args.row.now c.args.j) = search rules in
    put-below elements element_at replaced 4 (digit c.args.row.now c.args.j) f c.if-d-eq0.false c.magnitude-k.ensures _ _ c.element_at-b.ensures c.store.ensures c.if-d-lt0.true c.minus.ensures

pub returns : goal.returns
returns c =
    let f : SFits w8 (digit c.args.row.now c.args.j) = search rules in
    put-above elements element_at replaced 4 (digit c.args.row.now c.args.j) f c.if-d-eq0.false c.magnitude-k.ensures _ _ c.element_at-b.ensures c.store-2.ensures c.if-d-lt0.false c.plus.ensures
