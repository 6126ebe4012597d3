-- Radix-16 Straus step by step: the walk down the columns of rows and windows in lent room.
use Rattle.std.specs.Prelude.{List, ℕ, ◌+◌, ◌*◌, ◌/◌, min, length, ℤ}
use Rattle.rules.specs.declared.Element.{Element}
use Rattle.rules.specs.declared.Walk.{Walk}
use Rattle.rules.specs.Values.{element_of, part}
use Rattle.rules.specs.Group.{added, elements}
use Rattle.rules.specs.Loops.{down}
use Rattle.rules.specs.Rows.{digit}
use Rattle.rules.specs.Helpers.{looked_up}
use Rattle.laws.specs.RadixWalk.{radix_column, radix_turn}

-- how many rows of 64 digits have a window of 32 limbs beside them
unfoldable pub radix_rows : List ℤ → List ℕ → ℕ
radix_rows ds ls = min (length ds / 64) (length ls / 32)

-- the entry that digit j of row i names in window i
unfoldable pub row_entry : List ℤ → List ℕ → ℕ → ℕ → Element
row_entry ds ls i j = looked_up 8 (part 32 i ls) (digit (part 64 i ds) j)

-- with one entry added
abbrev pub with_entry : Element → Walk → Walk
with_entry x w = record { element = added w.element x; additions = w.additions + 1; doublings = w.doublings }

-- with place j of m rows
unfoldable pub with_column : List ℤ → List ℕ → ℕ → ℕ → Walk → Walk
with_column ds ls m j w =
    record { element = radix_column elements (row_entry ds ls) m j w.element; additions = w.additions + m; doublings = w.doublings }

unfoldable pub radix_walked : List ℤ → List ℕ → ℕ → Walk
radix_walked ds ls m =
    record { element = down (radix_turn elements (row_entry ds ls) m 4) 64 (element_of 0); additions = 64 * m; doublings = 256 }
