-- The walk down one radix-16 row, step by step: started from the highest place's entry.
use Rattle.std.specs.Prelude.{List, ℕ, ℤ}
use Rattle.rules.specs.declared.Element.{Element}
use Rattle.rules.specs.declared.Walk.{Walk}
use Rattle.rules.specs.Values.{element_of}
use Rattle.rules.specs.Group.{elements}
use Rattle.rules.specs.Loops.{down}
use Rattle.rules.specs.Rows.{digit}
use Rattle.rules.specs.Helpers.{looked_up}
use Rattle.laws.specs.RadixWalk.{radix_column, radix_turn}

-- the entry that the row's digit at place j names
abbrev pub row_entry : List ℤ → List ℕ → ℕ → ℕ → Element
row_entry row w i j = looked_up 8 w (digit row j)

unfoldable pub walked_down : List ℤ → List ℕ → Walk
walked_down row w =
    record {
      element = down (radix_turn elements (row_entry row w) 1 4) 63 (radix_column elements (row_entry row w) 1 63 (element_of 0));
      additions = 64;
      doublings = 252;
    }
