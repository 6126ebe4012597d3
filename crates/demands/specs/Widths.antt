-- Request Q-4: Pippenger's width goes by the scalar count, whatever points are lent; its buckets' room and its counts follow.
use Rattle.std.specs.Prelude.{◌≡◌, refl, ◌||◌, List, ℕ, ◌*◌, ℤ}
use Rattle.rules.specs.Loops.{weight}
use Rattle.rules.specs.Numbers.{bad_room, condition, summed}
use Rattle.rules.specs.Lists.{scalar_count, pairs, shorter}
use Rattle.rules.specs.Rows.{radix_row}
use Rattle.rules.specs.Engines.{rows_digit, bucket_width, picked_by, bucket_limbs, bucket_additions, bucket_doublings, pippenger_conditions, pippenger}
use Rattle.rules.specs.Claims.{Takes}
use Rattle.arguments.proofs.Answering.{takes}

-- the width for a list of scalars
abbrev pub width : List ℕ → ℕ
width ss = bucket_width (scalar_count ss)

-- 5 is among the conditions exactly when 64m digits or that width's buckets are not lent
pub pippenger-room : (ss ps fs : List ℕ) (digits limbs : ℕ) → condition (pippenger_conditions ss ps fs digits limbs) bad_room ≡ (shorter (64 * pairs ss ps) digits || shorter (bucket_limbs (width ss)) limbs)
unfolding condition picked_by
pippenger-room ss ps fs digits limbs = refl

-- done, it counts by that width
pub pippenger-counts : (ss ps fs : List ℕ) (ds : List ℤ) (bs : List ℕ) → (pippenger ss ps fs ds bs).result.number ≡ 0
    → Takes (pippenger ss ps fs ds bs).result (bucket_additions (width ss) (weight (rows_digit (radix_row (width ss)) ss) (pairs ss ps) 64)) (bucket_doublings (width ss))
unfolding pippenger picked_by summed
pippenger-counts ss ps fs ds bs done = takes _ _ _ _ done
