-- Demand 3: on a ready list, with room enough, the multi-point engines answer 0 and the sum of scalar times point modulo L.
use mathlib.Core.Path.{◌≡◌, refl, sym, ap, ◌∙◌}
use mathlib.Core.Bool.{Bool, false, cond, ◌||◌}
use mathlib.Core.List.{List, []}
use Prim.Native.Nat.{ℕ, ◌*◌, ◌%◌, ◌<◌, ◌≤◌}
use native.Mathlib.Nat.{add-zero, zero-add}
use native.Mathlib.Omega.{arith}
use lib.ListN.{length, get_or}
use lib.IntN.{ℤ}
use lib.Dec.{eqb, leb}
use borrow.Author.Tests.{le-ltb}
use Rattle.rules.specs.Values.{limb, places, point_at, optional_at}
use Rattle.rules.specs.Group.{L, total}
use Rattle.rules.specs.Numbers.{most, most_static, any_below}
use Rattle.rules.specs.Windows.{over, any_over}
use Rattle.rules.specs.Lists.{not_in, lists_not_whole, beyond_most, point_count, pairs, shorter, any_big, point_over, is_absent, any_point, absent_below}
use Rattle.rules.specs.Engines.{products, radix_straus, radix_straus_refusal, naf_straus, naf_straus_refusal, bucket_width, picked_by, bucket_limbs, pippenger, pippenger_refusal, mixed, mixed_refusal, entry_sum}
use Rattle.rules.specs.Batch.{Pairs}
use Rattle.laws.specs.Conditions.{or_split, or-none, any_below_lem, any-absent}
use Rattle.rules.specs.Claims.{slots, sum_of, Answers}
use Rattle.arguments.proofs.Passing.{passes}
use Rattle.arguments.proofs.Answering.{answers}
use Rattle.arguments.proofs.Entries.{over-by-flag, absent-by-flag}
use Rattle.arguments.proofs.Ready.{Ready, lengths, right-both}

-- room enough
enough : (need n : ℕ) → need ≤ n → shorter need n ≡ false
unfolding shorter
enough need n h = le-ltb _ _ h

module _ (l : Pairs) (r : Ready l) where
  all-points : slots l ≡ point_count l.points
  all-points = omega (arith, (lengths l r).1)

  -- all pairs are used
  pub pairs-are : pairs l.scalars l.points ≡ slots l
  unfolding pairs
  pairs-are = omega (arith, all-points)

  present : (i : ℕ) → i < point_count l.points → eqb (get_or l.flags i 0) 0 ≡ false
  unfolding absent_below
  present i h = sym (absent-by-flag l.points l.flags i) ∙ any_below_lem (λ j. is_absent (optional_at l.points l.flags j)) _ i r.all_there h

  -- every point is below L
  pub points-below : (i : ℕ) → i < point_count l.points → leb L (point_at l.points i) ≡ false
  unfolding any_point
  points-below i h =
      sym (ap (λ (b : Bool). cond b false (leb L (point_at l.points i))) (present i h))
      ∙ sym (over-by-flag l.points l.flags i)
      ∙ any_below_lem (λ j. point_over (optional_at l.points l.flags j)) _ i (right-both l r).1 h

  none_over : any_over l.points ≡ false
  unfolding any_over over
  none_over = any-absent (over l.points) _ points-below

  plain : (not_in 32 (length l.scalars) || not_in 4 (length l.points)) ≡ false
  unfolding lists_not_whole
  plain = let o = or_split _ _ r.whole in o.0

  module _ (ds : List ℤ) (ls : List ℕ) where
    pub by-radix-straus : 64 * slots l ≤ length ds → 32 * slots l ≤ length ls → Answers (radix_straus l.scalars l.points ds ls).result (sum_of l)
    unfolding radix_straus radix_straus_refusal
    by-radix-straus hd hl =
        rw pairs-are (answers _ _ _ _ (passes _ (plain, (r.few, (or-none _ _ (enough _ _ hd) (enough _ _ hl), (r.small, (none_over, tt)))))))

    pub by-naf-straus : 256 * slots l ≤ length ds → 32 * slots l ≤ length ls → Answers (naf_straus l.scalars l.points l.flags ds ls).result (sum_of l)
    unfolding naf_straus naf_straus_refusal
    by-naf-straus hd hl =
        rw pairs-are (answers _ _ _ _ (passes _ (r.whole, (r.few, (or-none _ _ (enough _ _ hd) (enough _ _ hl), (r.small, (r.right, (r.all_there, tt))))))))

    pub by-pippenger : 64 * slots l ≤ length ds → bucket_limbs (bucket_width (slots l)) ≤ length ls → Answers (pippenger l.scalars l.points l.flags ds ls).result (sum_of l)
    unfolding pippenger pippenger_refusal picked_by
    by-pippenger hd hl =
        rw pairs-are (answers _ _ _ _ (passes _ (r.whole, (r.few, (or-none _ _ (enough _ _ hd) (enough _ _ hl), (r.small, (r.right, (rw all-points r.all_there, tt))))))))

    -- precomputed Straus with every pair dynamic
    taken-all : 256 * slots l ≤ length ds → 32 * slots l ≤ length ls → mixed_refusal [] [] l.scalars l.points l.flags (length ds) (length ls) ≡ 0
    unfolding mixed_refusal
    taken-all hd hl =
        passes _ (no-tables, (r.whole, (r.few, (few-static, (or-none _ _ (enough _ _ (rw (zero-add (slots l)) hd)) (enough _ _ hl), (none-big, (r.small, (r.right, (r.all_there, (or-none _ _ refl r.equal, (no-entry, tt)))))))))))
      where
        no-tables : (not_in 256 0 || not_in 32 0) ≡ false
        no-tables = unfold not_in in refl

        few-static : (beyond_most most_static 256 0 || beyond_most most 32 0) ≡ false
        few-static = unfold beyond_most in (or-none _ _ (le-ltb most_static 0 (omega arith)) (le-ltb most 0 (omega arith)))

        none-big : any_big [] ≡ false
        none-big = unfold any_big any_below in refl

        no-entry : any_over [] ≡ false
        no-entry = unfold any_over any_below in refl

    -- whatever tables are lent
    pub by-dynamic-pairs : (ts : List ℕ) → mixed_refusal ts [] l.scalars l.points l.flags (length ds) (length ls) ≡ 0 → Answers (mixed ts [] l.scalars l.points l.flags ds ls).result (sum_of l)
    unfolding mixed entry_sum total
    by-dynamic-pairs ts passed =
        let a = answers _ _ _ _ passed in
        record { number_is = a.number_is; value-is = a.value-is ∙ ap (λ (v : ℕ). places limb 4 (v % L)) (add-zero (products l.scalars l.points (slots l))) }

    pub by-precomputed-straus : 256 * slots l ≤ length ds → 32 * slots l ≤ length ls → Answers (mixed [] [] l.scalars l.points l.flags ds ls).result (sum_of l)
    by-precomputed-straus hd hl = by-dynamic-pairs [] (taken-all hd hl)
