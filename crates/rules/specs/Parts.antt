-- Parts of lent memory whose size is known only at run time.
use Rattle.std.specs.Prelude.{List, ℕ, ◌*◌, take}

-- the first n units of a list, each of so many places; all of it where it has no more
unfoldable pub first_units : {A : Type 0} → ℕ → ℕ → List A → List A
first_units unit n l = take (unit * n) l
