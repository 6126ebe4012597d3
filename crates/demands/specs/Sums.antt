-- Demand 2, sums: every engine that does not refuse returns the sum of scalar times point modulo L over the pairs it takes; no pairs give 0.
use Rattle.std.specs.Prelude.{◌≡◌, refl, ℕ, ◌+◌, ◌*◌, ◌%◌, length, ℤ}
use Rattle.std.proofs.Math.Path.{subst}
use mathlib.Core.List.{List, []}
use Rattle.std.proofs.Math.Nat.{zero-mod}
use Rattle.rules.specs.Values.{point_at, scalar_at}
use Rattle.rules.specs.Group.{L, total}
use Rattle.rules.specs.Numbers.{summed}
use Rattle.rules.specs.Lists.{scalar_count, pairs}
use Rattle.rules.specs.Rows.{naf_row}
use Rattle.rules.specs.Engines.{products, rows_digit, entry_sum, entry_at, single, double, radix_straus, naf_straus, pippenger, new_refusal, new_tables, mixed_refusal, mixed}
use Rattle.rules.specs.Batch.{total_of}
use Rattle.rules.specs.Claims.{Answers}
use Rattle.precomputed_straus.proofs.StaticPairs.{mixed-whole}
use Rattle.arguments.proofs.Answering.{answers, no_pairs}

pub single-base-sum : (p s : List ℕ) → (single p s).number ≡ 0 → Answers (single p s) (scalar_at s 0 * point_at p 0 % L)
unfolding single summed
single-base-sum p s done = answers _ _ _ _ done

pub double-base-sum : (a p b : List ℕ) → (double a p b).number ≡ 0 → Answers (double a p b) ((scalar_at a 0 * point_at p 0 + scalar_at b 0) % L)
unfolding double summed
double-base-sum a p b done = answers _ _ _ _ done

-- room for digits and for limbs
module _ (ds : List ℤ) (ls : List ℕ) where
  pub radix-straus-sum : (ss ps : List ℕ) → (radix_straus ss ps ds ls).result.number ≡ 0 → Answers (radix_straus ss ps ds ls).result (products ss ps (pairs ss ps) % L)
  unfolding radix_straus summed
  radix-straus-sum ss ps done = answers _ _ _ _ done

  pub naf-straus-sum : (ss ps fs : List ℕ) → (naf_straus ss ps fs ds ls).result.number ≡ 0 → Answers (naf_straus ss ps fs ds ls).result (products ss ps (pairs ss ps) % L)
  unfolding naf_straus summed
  naf-straus-sum ss ps fs done = answers _ _ _ _ done

  pub pippenger-sum : (ss ps fs : List ℕ) → (pippenger ss ps fs ds ls).result.number ≡ 0 → Answers (pippenger ss ps fs ds ls).result (products ss ps (pairs ss ps) % L)
  unfolding pippenger summed
  pippenger-sum ss ps fs done = answers _ _ _ _ done

  -- static tables as they stand: 2^j times the entry that the digit names
  pub precomputed-straus-sum : (ts sss ss ps fs : List ℕ) → (mixed ts sss ss ps fs ds ls).result.number ≡ 0
      → Answers (mixed ts sss ss ps fs ds ls).result ((products ss ps (scalar_count ss) + entry_sum (rows_digit (naf_row 8) sss) (entry_at 256 ts) (scalar_count sss) 256) % L)
  unfolding mixed summed
  precomputed-straus-sum ts sss ss ps fs done = answers _ _ _ _ done

  -- static tables as `new` builds them: the static pairs are in the sum
  pub precomputed-straus-built : (sps ts sss ss ps fs : List ℕ) → new_refusal sps (length ts) ≡ 0
      → mixed_refusal (new_tables sps ts).tables sss ss ps fs (length ds) (length ls) ≡ 0
      → Answers (mixed (new_tables sps ts).tables sss ss ps fs ds ls).result ((products ss ps (scalar_count ss) + products sss sps (scalar_count sss)) % L)
  precomputed-straus-built sps ts sss ss ps fs built done = rw (mixed-whole sps ts built sss ss ps fs ds ls done) (answers 0 _ _ _ refl)

  -- no pairs give 0
  pub radix-straus-none : (ss ps : List ℕ) → pairs ss ps ≡ 0 → (radix_straus ss ps ds ls).result.number ≡ 0 → Answers (radix_straus ss ps ds ls).result 0
  radix-straus-none ss ps none done = no_pairs ss ps none (radix-straus-sum ss ps done)

  pub naf-straus-none : (ss ps fs : List ℕ) → pairs ss ps ≡ 0 → (naf_straus ss ps fs ds ls).result.number ≡ 0 → Answers (naf_straus ss ps fs ds ls).result 0
  naf-straus-none ss ps fs none done = no_pairs ss ps none (naf-straus-sum ss ps fs done)

  pub pippenger-none : (ss ps fs : List ℕ) → pairs ss ps ≡ 0 → (pippenger ss ps fs ds ls).result.number ≡ 0 → Answers (pippenger ss ps fs ds ls).result 0
  pippenger-none ss ps fs none done = no_pairs ss ps none (pippenger-sum ss ps fs done)

  pub precomputed-straus-none : (ts ps fs : List ℕ) → (mixed ts [] [] ps fs ds ls).result.number ≡ 0 → Answers (mixed ts [] [] ps fs ds ls).result 0
  unfolding products total entry_sum
  precomputed-straus-none ts ps fs done = subst (Answers _) (zero-mod L) (precomputed-straus-sum ts [] [] ps fs done)

-- a batch of no slots
pub total-none : (ws : List ℕ) → (total_of (record { digits = []; windows = ws })).number ≡ 0 → Answers (total_of (record { digits = []; windows = ws })) 0
unfolding total_of summed total entry_sum
total-none ws done = subst (Answers _) (zero-mod L) (answers _ _ _ _ done)
