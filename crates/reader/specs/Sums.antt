-- What a row sums to modulo 2 ^ 256.
use Rattle.std.specs.Prelude.{◌≡◌, List, ℕ, ◌+◌, ◌%◌, ◌^◌, ◌<◌, ℤ}
use Rattle.rules.specs.declared.Element.{Element}
use Rattle.rules.specs.Values.{number, places, value_of, element_of}
use Rattle.laws.specs.DigitsSum.{plus, minus, weigh}

-- an element whose limbs are those of its value
abbrev pub Whole : Element → Type 0
Whole e = e ≡ element_of (value_of e)

-- with what the row's digits below 0 weigh it is what those above 0 weigh, each 2 ^ w times the one below it
pub record Says (w : ℕ) (row : List ℤ) (e : Element) : Type 0 where
  pub whole : Whole e
  pub balance : (value_of e + weigh minus (2 ^ w) row) % 2 ^ 256 ≡ weigh plus (2 ^ w) row % 2 ^ 256

-- the same of 32 bytes
pub record SaysBytes (w : ℕ) (row : List ℤ) (bytes : List ℕ) : Type 0 where
  pub whole : bytes ≡ places 256 32 (number 256 bytes)
  pub small : number 256 bytes < 2 ^ 256
  pub balance : (number 256 bytes + weigh minus (2 ^ w) row) % 2 ^ 256 ≡ weigh plus (2 ^ w) row % 2 ^ 256
