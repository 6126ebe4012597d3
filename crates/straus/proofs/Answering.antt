-- What each call leaves: the fields of its answer, and a refused one's.
use mathlib.Core.Path.{◌≡◌, sym}
use mathlib.Core.List.{List}
use Prim.Native.Nat.{ℕ}
use lib.ListN.{length}
use lib.IntN.{ℤ, pos}
use Rattle.std.specs.Prelude.{Result}
use Rattle.rules.specs.declared.Refusal.{Refusal}
use Rattle.rules.specs.declared.Walk.{Walk}
use Rattle.rules.specs.declared.Sum.{Sum}
use Rattle.rules.specs.Engines.{After, radix_straus_refusal, radix_straus, naf_straus_refusal, naf_straus}
use Rattle.rules.specs.Results.{as_sum}
use Rattle.laws.specs.Results.{Refused, refused-not-0}
use Rattle.laws.proofs.Room.{room-refused}
use Rattle.laws.specs.Results.{refused-sum}

pub after : {r s : Sum} {d e : List ℤ} {l k : List ℕ} → r ≡ s → d ≡ e → l ≡ k → ◌≡◌ {A = After} (record { result = r; digits = d; limbs = l }) (record { result = s; digits = e; limbs = k })
after p q t = cc

-- refused: nothing is written
module _ (ss ps : List ℕ) (ds : List ℤ) (ls : List ℕ) {y : Result Walk Refusal} where
  pub radix-refused : Refused y (radix_straus_refusal ss ps (length ds) (length ls)) → record { result = as_sum y; digits = ds; limbs = ls } ≡ radix_straus ss ps ds ls
  unfolding radix_straus
  radix-refused r = after (refused-sum r _ _ _) (sym (room-refused (pos 0) _ _ ds (refused-not-0 r))) (sym (room-refused 0 _ _ ls (refused-not-0 r)))

  pub naf-refused : (fs : List ℕ) → Refused y (naf_straus_refusal ss ps fs (length ds) (length ls)) → record { result = as_sum y; digits = ds; limbs = ls } ≡ naf_straus ss ps fs ds ls
  unfolding naf_straus
  naf-refused fs r = after (refused-sum r _ _ _) (sym (room-refused (pos 0) _ _ ds (refused-not-0 r))) (sym (room-refused 0 _ _ ls (refused-not-0 r)))
