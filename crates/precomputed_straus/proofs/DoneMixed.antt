-- A mixed sum: what the tests that passed say, and what a refused call and a done one leave.
use mathlib.Core.Path.{◌≡◌, sym, ap, ap₂, ◌∙◌}
use mathlib.Core.Bool.{false}
use mathlib.Core.List.{List, ◌++◌}
use Prim.Native.Nat.{ℕ, ◌+◌, ◌*◌, ◌/◌, ◌<◌, ◌≤◌}
use native.Mathlib.Omega.{arith}
use lib.ListN.{length, get_or, take, drop, length-append, length-drop}
use lib.Seq.{length-take-le, drop_at}
use lib.IntN.{ℤ, pos}
use lib.Dec.{eqb, ltb}
use borrow.Author.Tests.{eqb-true, ltb-false, not-false}
use Rattle.std.specs.Prelude.{Result, Ok}
use Rattle.rules.specs.declared.Refusal.{Refusal}
use Rattle.rules.specs.declared.Sum.{Sum}
use Rattle.rules.specs.declared.Walk.{Walk}
use Rattle.rules.specs.Values.{limb}
use Rattle.rules.specs.Numbers.{most, cleared, room_after, condition}
use Rattle.rules.specs.Lists.{scalar_count, point_count, shorter, other_than, any_big, any_flag, any_point, bad_lists}
use Rattle.rules.specs.Engines.{after, mixed_conditions, mixed_refusal, mixed}
use Rattle.rules.specs.Results.{as_sum}
use Rattle.laws.specs.RadixRows.{scalar-has-row}
use Rattle.laws.specs.Conditions.{or_split}
use Rattle.laws.specs.Answers.{first_done}
use Rattle.laws.proofs.Room.{cleared-rest, room-refused, room-done}
use Rattle.laws.specs.Results.{Refused, refused-not-0, refused-sum}
use Rattle.limbs.proofs.Done.{done-sum}
use Rattle.lent.proofs.Passed.{small, there-under}
use Rattle.precomputed_straus.specs.Fill.{Ready, mixed_walk}
use Rattle.precomputed_straus.proofs.Asked.{few-rows}

-- room whose first n places were written to, cleared
written : {A : Type 0} (z : A) (n : ℕ) (l x : List A) → n ≤ length l → length x ≡ length (take n l) → cleared z n (x ++ drop n l) ≡ cleared z n l
written z n l x h e =
    let k : length x ≡ n = e ∙ length-take-le n l h in
    cleared-rest z n (x ++ drop n l) l (simp (length-append, length-drop) (omega arith)) (drop_at x (drop n l) n k)

module _ (ts sss ss ps fs : List ℕ) (ds : List ℤ) (ls : List ℕ) where
  pub refused-mixed : {y : Result Walk Refusal} → Refused y (mixed_refusal ts sss ss ps fs (length ds) (length ls)) → after (as_sum y) ds ls ≡ mixed ts sss ss ps fs ds ls
  unfolding mixed
  refused-mixed r =
      ap (λ (s : Sum). after s ds ls) (refused-sum r _ _ _)
      ∙ ap₂ (after _) (sym (room-refused (pos 0) _ _ ds (refused-not-0 r))) (sym (room-refused 0 _ _ ls (refused-not-0 r)))

  module _ (passed : mixed_refusal ts sss ss ps fs (length ds) (length ls) ≡ 0) where
    told : (i : ℕ) → condition (mixed_conditions ts sss ss ps fs (length ds) (length ls)) i ≡ false
    unfolding mixed_refusal
    told = (first_done (mixed_conditions ts sss ss ps fs (length ds) (length ls)) (omega arith)).0 passed

    few : (scalar_count sss ≤ most) × (scalar_count ss ≤ most)
    unfolding condition
    few = few-rows ts sss ss ps (told 2)

    pub room : (256 * (scalar_count sss + scalar_count ss) ≤ length ds) × (32 * scalar_count ss ≤ length ls)
    unfolding condition shorter
    room =
        let o = or_split (shorter (256 * (scalar_count sss + scalar_count ss)) (length ds)) (shorter (32 * scalar_count ss) (length ls)) (told 5) in
        (ltb-false (length ds) (256 * (scalar_count sss + scalar_count ss)) o.0, ltb-false (length ls) (32 * scalar_count ss) o.1)

    pub small-static : any_big sss ≡ false
    unfolding condition
    small-static = (or_split (any_big ss) (any_big sss) (told 6)).1

    small-dynamic : any_big ss ≡ false
    unfolding condition
    small-dynamic = (or_split (any_big ss) (any_big sss) (told 6)).0

    points-under : any_point ps fs ≡ false
    unfolding condition bad_lists
    points-under = (or_split (any_flag fs) (any_point ps fs) (told 7)).1

    pub counts : (scalar_count sss ≤ length ts / 256) × (scalar_count ss ≡ point_count ps)
    unfolding condition other_than
    counts =
        let o = or_split (ltb (length ts / 256) (scalar_count sss)) (other_than (point_count ps) (scalar_count ss)) (told 9) in
        (ltb-false (length ts / 256) (scalar_count sss) o.0, eqb-true (scalar_count ss) (point_count ps) (not-false (eqb (scalar_count ss) (point_count ps)) o.1))

    pub fits : 256 * (scalar_count sss + scalar_count ss) < 18446744073709551616
    fits = omega (arith, few)

    -- the parts of room that are handed on
    pub digits-part : 256 * (scalar_count sss + scalar_count ss) ≡ length (take (256 * (scalar_count sss + scalar_count ss)) ds)
    digits-part = sym (length-take-le _ ds room.0)

    pub limbs-part : 32 * scalar_count ss ≡ length (take (32 * scalar_count ss) ls)
    limbs-part = sym (length-take-le _ ls room.1)

    pub ready : ((k : ℕ) → get_or ps k 0 < limb) → Ready ts sss ss ps (length (take (256 * (scalar_count sss + scalar_count ss)) ds)) (length (take (32 * scalar_count ss) ls))
    unfolding condition
    ready range = record {
      few = few.1;
      few-static = few.0;
      even = sym counts.1;
      tabled = counts.0;
      rows = sym digits-part;
      windows = sym limbs-part;
      small = λ i h. scalar-has-row (small ss i small-dynamic h);
      limb-range = range;
      under = λ i h. there-under ps fs (point_count ps) i (told 8) points-under (omega (arith, counts.1)) (omega (arith, counts.1));
      entries = told 10;
    }

    pub done-mixed : {w : Walk} (x : List ℤ) (y : List ℕ) {d : List ℤ} {l : List ℕ} → w ≡ mixed_walk ts sss ss ps
        → length x ≡ length (take (256 * (scalar_count sss + scalar_count ss)) ds) → length y ≡ length (take (32 * scalar_count ss) ls)
        → d ≡ cleared (pos 0) (256 * (scalar_count sss + scalar_count ss)) (x ++ drop (256 * (scalar_count sss + scalar_count ss)) ds)
        → l ≡ cleared 0 (32 * scalar_count ss) (y ++ drop (32 * scalar_count ss) ls) → after (as_sum (Ok w)) d l ≡ mixed ts sss ss ps fs ds ls
    unfolding mixed mixed_walk
    done-mixed {w} x y {d} {l} walk hx hy hd hl =
        ap (λ (r : Sum). after r d l) (done-sum passed _ (ap (λ (x : Walk). x.element) walk) (ap (λ (x : Walk). x.additions) walk) (ap (λ (x : Walk). x.doublings) walk))
        ∙ ap₂ (after _)
        (hd ∙ written (pos 0) _ ds x room.0 hx ∙ sym (ap (λ (n : ℕ). room_after (pos 0) n (256 * (scalar_count sss + scalar_count ss)) ds) passed ∙ room-done (pos 0) _ ds))
        (hl ∙ written 0 _ ls y room.1 hy ∙ sym (ap (λ (n : ℕ). room_after 0 n (32 * scalar_count ss) ls) passed ∙ room-done 0 _ ls))
