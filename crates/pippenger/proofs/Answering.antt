-- All that the call leaves, refused and done.
use mathlib.Core.Path.{◌≡◌, refl, sym, ap, ◌∙◌}
use mathlib.Core.List.{List}
use Prim.Native.Nat.{ℕ, ◌-◌, ◌*◌, ◌^◌}
use native.Mathlib.Omega.{arith}
use lib.IntN.{ℤ, pos}
use lib.ListN.{length}
use Rattle.std.specs.Prelude.{Result, Ok}
use Rattle.rules.specs.declared.Refusal.{Refusal}
use Rattle.rules.specs.declared.Row.TheVariants.{Radix}
use Rattle.rules.specs.declared.Sum.{Sum}
use Rattle.rules.specs.declared.Walk.{Walk}
use Rattle.rules.specs.Values.{element_at}
use Rattle.rules.specs.Group.{elements}
use Rattle.rules.specs.Numbers.{cleared, room_after}
use Rattle.rules.specs.Helpers.{laid_rows}
use Rattle.rules.specs.Lists.{pairs}
use Rattle.rules.specs.Engines.{After, bucket_width, picked_by, bucket_limbs, pippenger_refusal, pippenger}
use Rattle.laws.proofs.Room.{room-refused, room-done}
use Rattle.laws.proofs.Laid.{laid-cleared}
use Rattle.laws.specs.BucketWalk.{Walked}
use Rattle.rules.specs.Results.{as_sum}
use Rattle.laws.specs.Results.{Refused, refused-not-0, refused-sum}
use Rattle.limbs.proofs.Done.{done-sum}
use Rattle.pippenger.proofs.Refusing.{Ready}
use Rattle.pippenger.proofs.Summing.{row-long, rows, sum_is, additions-are}

same_after : {r r' : Sum} {d d' : List ℤ} {l l' : List ℕ} → r ≡ r' → d ≡ d' → l ≡ l'
    → ◌≡◌ {A = After} (record { result = r; digits = d; limbs = l }) (record { result = r'; digits = d'; limbs = l' })
same_after p q s = cc

-- done: room cleared after the rows were laid, after the walk
module _ {N : ℕ} (none : N ≡ 0) {ss ps : List ℕ} {m w d b : ℕ} (h : Ready ss ps m w d b) where
  digits-after : (ds : List ℤ) {ds₁ ds₂ : List ℤ} → length ds ≡ d → ds₁ ≡ laid_rows (Radix w) ss m ds → ds₂ ≡ cleared (pos 0) (64 * m) ds₁
      → ds₂ ≡ room_after (pos 0) N (64 * m) ds
  digits-after ds l recoded e =
      e
      ∙ ap (cleared (pos 0) (64 * m)) (rows h ds l recoded)
      ∙ laid-cleared 64 _ m ds (row-long h ds l recoded) (pos 0) (64 * m) (omega (arith, h.digits)) (omega arith)
      ∙ rw none (sym (room-done (pos 0) (64 * m) ds))

  limbs-after : (bs bs₁ : List ℕ) {bs₂ : List ℕ} {k : ℕ} → cleared 0 (4 * 2 ^ (w - 1)) bs₁ ≡ cleared 0 (4 * 2 ^ (w - 1)) bs → k ≡ 2 ^ (w - 1) → bs₂ ≡ cleared 0 (4 * k) bs₁
      → bs₂ ≡ room_after 0 N (bucket_limbs w) bs
  unfolding bucket_limbs
  limbs-after bs bs₁ {k = k} kept ek e =
      e ∙ rw (ek, none) (kept ∙ sym (room-done 0 (4 * 2 ^ (w - 1)) bs))

module _ (ss ps fs : List ℕ) (ds : List ℤ) (bs : List ℕ) where
  pub refused-after : {y : Result Walk Refusal} → Refused y (pippenger_refusal ss ps fs (length ds) (length bs)) → record { result = as_sum y; digits = ds; limbs = bs } ≡ pippenger ss ps fs ds bs
  unfolding pippenger
  refused-after r = same_after (refused-sum r _ _ _) (sym (room-refused (pos 0) _ _ ds (refused-not-0 r))) (sym (room-refused 0 _ _ bs (refused-not-0 r)))

  pub done-after : {m w k : ℕ} {ds₁ ds₂ : List ℤ} {bs₁ bs₂ : List ℕ} {q : Walk} → pippenger_refusal ss ps fs (length ds) (length bs) ≡ 0 → m ≡ pairs ss ps → w ≡ bucket_width (picked_by ss)
      → Ready ss ps m w (length ds) (length bs) → ds₁ ≡ laid_rows (Radix w) ss m ds → Walked elements 4 ds₁ (element_at ps) m w bs bs₁ q.element q.additions q.doublings → ds₂ ≡ cleared (pos 0) (64 * m) ds₁
      → k ≡ 2 ^ (w - 1) → bs₂ ≡ cleared 0 (4 * k) bs₁
      → record { result = as_sum (Ok q); digits = ds₂; limbs = bs₂ } ≡ pippenger ss ps fs ds bs
  unfolding pippenger
  done-after none em ew h filled walked ed ek eb =
      rw (← em, ← ew)
      (same_after
      (done-sum none _ (walked.element ∙ sum_is h ds refl filled) (walked.additions ∙ additions-are h ds refl filled _) walked.doublings)
      (digits-after none h ds refl filled ed)
      (limbs-after none h bs _ walked.kept ek eb))
