-- What several calls ask of lent lists: the parts, each with its numbers in rising order, that their conditions are put together from.
use Rattle.std.specs.Prelude.{Bool, ◌||◌, List, [], ◌∷◌, ℕ, length}
use Rattle.rules.specs.Numbers.{not_whole, too_many, bad_room, big_scalar, bad_point, absent_point}
use Rattle.rules.specs.Windows.{any_over}
use Rattle.rules.specs.Lists.{not_in, lists_not_whole, lists_too_many, shorter, any_big, bad_lists, absent_below}

-- 1 and 2 of scalars and of points without flags
abbrev pub plain_lists : List ℕ → List ℕ → List (Bool × ℕ)
plain_lists ss ps = (not_in 32 (length ss) || not_in 4 (length ps), not_whole) ∷ (lists_too_many ss ps, too_many) ∷ []

-- 1 and 2 of scalars, points and flags
abbrev pub flagged_lists : List ℕ → List ℕ → List ℕ → List (Bool × ℕ)
flagged_lists ss ps fs = (lists_not_whole ss ps fs, not_whole) ∷ (lists_too_many ss ps, too_many) ∷ []

-- 5 of working room: so many digits and limbs are needed, so many are lent
abbrev pub enough_room : ℕ → ℕ → ℕ → ℕ → List (Bool × ℕ)
enough_room needed digits needed' limbs = (shorter needed digits || shorter needed' limbs, bad_room) ∷ []

-- 6 and 7 of scalars and of points without flags
abbrev pub plain_contents : List ℕ → List ℕ → List (Bool × ℕ)
plain_contents ss ps = (any_big ss, big_scalar) ∷ (any_over ps, bad_point) ∷ []

-- 6, 7 and 8 of scalars, points and flags, where the first n points are needed
abbrev pub flagged_contents : List ℕ → List ℕ → List ℕ → ℕ → List (Bool × ℕ)
flagged_contents ss ps fs n = (any_big ss, big_scalar) ∷ (bad_lists ps fs, bad_point) ∷ (absent_below ps fs n, absent_point) ∷ []
