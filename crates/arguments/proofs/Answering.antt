-- What a call with number 0 answers.
use mathlib.Core.Path.{◌≡◌, ap, ◌∙◌, subst}
use mathlib.Core.List.{List}
use Prim.Native.Nat.{ℕ, ◌%◌}
use native.Mathlib.Nat.{zero-mod}
use Rattle.rules.specs.declared.Sum.{Sum}
use Rattle.rules.specs.Values.{limb, places}
use Rattle.rules.specs.Group.{L, total}
use Rattle.rules.specs.Numbers.{given, summed}
use Rattle.rules.specs.Lists.{pairs}
use Rattle.rules.specs.Engines.{products}
use Rattle.rules.specs.Claims.{Answers, Takes}
use Rattle.laws.specs.Conditions.{given-done}

pub answers : (n v a d : ℕ) → n ≡ 0 → Answers (summed n v a d) v
unfolding summed
answers n v a d z = record { number_is = z; value-is = ap (λ (k : ℕ). places limb 4 (given k 0 v)) z ∙ ap (places limb 4) (given-done 0 v) }

pub takes : (n v a d : ℕ) → n ≡ 0 → Takes (summed n v a d) a d
unfolding summed
takes n v a d z =
    let counted : (k : ℕ) → given n 0 k ≡ k = λ k. ap (λ (i : ℕ). given i 0 k) z ∙ given-done 0 k in
    record { additions-are = counted a; doublings-are = counted d }

-- no pairs give 0
pub no_pairs : (ss ps : List ℕ) → pairs ss ps ≡ 0 → {r : Sum} → Answers r (products ss ps (pairs ss ps) % L) → Answers r 0
unfolding products total
no_pairs ss ps z {r} h = subst (Answers r) (ap (λ (m : ℕ). products ss ps m % L) z ∙ zero-mod L) h
