-- By whether the bytes were recoded, and whether their row is the given one.
use Rattle.std.proofs.Common.{◌≡◌, ℕ, List, ℤ, Bool, true, false, not, Result, Ok, Err, refl, sym, ap, ◌∙◌, ne_eqb}
use Rattle.std.specs.Ordering.{int_eq}
use lib.Pointwise.{pointwise}
use Rattle.rules.specs.declared.Refusal.{Refusal}
use Rattle.rules.specs.declared.Refusal.TheVariants.{BadDigit}
use Rattle.rules.specs.Values.{places}
use Rattle.rules.specs.Numbers.{number_of, given, bytes_answer}
use Rattle.rules.specs.Rows.{same_row}
use Rattle.rules.specs.Results.{as_row, as_scalar_bytes}
use Rattle.laws.specs.Results.{refusal-not-0}
use Rattle.reader.specs.Readers.{compared_rows}
use Rattle.reader.proofs.Reading.{same-rows}
use Rattle.reader.proofs.compared.Goals as goal

-- the answer b of `!=`, at a row as a slice lends it
differs : (row again lent : List ℤ) (b : Bool) → b ≡ not (pointwise int_eq lent row) → lent ≡ again → not (same_row again row) ≡ b
differs row again lent b e f = rw (← f) (ap not (sym (same-rows lent row)) ∙ sym e)

refused : as_scalar_bytes (Err BadDigit) ≡ bytes_answer 10 0
unfolding as_scalar_bytes bytes_answer number_of given places
refused = refl

module _ (N : ℕ) (row : List ℤ) (bytes : List ℕ) {x : Result (List ℤ) Refusal} where
  found : {again : List ℤ} → x ≡ Ok again → not (same_row again row) ≡ false → as_scalar_bytes (Ok bytes) ≡ compared_rows row (as_row N x).number (as_row N x).row bytes
  unfolding compared_rows as_row as_scalar_bytes
  found e s = rw (e, s)

  other : {again : List ℤ} → x ≡ Ok again → not (same_row again row) ≡ true → as_scalar_bytes (Err BadDigit) ≡ compared_rows row (as_row N x).number (as_row N x).row bytes
  unfolding compared_rows as_row
  other e s = rw (e, s) refused

  none : {r : Refusal} → x ≡ Err r → as_scalar_bytes (Err BadDigit) ≡ compared_rows row (as_row N x).number (as_row N x).row bytes
  unfolding compared_rows as_row
  none {r = r} e = rw (e, ne_eqb (number_of r) 0 (refusal-not-0 r)) refused

pub returns-in_default : goal.returns-in_default
returns-in_default g c = none g.row.N _ _ c.in_default.is

pub returns-then-ne : goal.returns-then-ne
returns-then-ne g c = other g.row.N _ _ c.in-Ok.is (differs _ _ _ _ c.ne.ensures c.as_slice.ensures ∙ c.if-ne.true)

pub returns : goal.returns
returns g c = found g.row.N _ _ c.in-Ok.is (differs _ _ _ _ c.ne.ensures c.as_slice.ensures ∙ c.if-ne.false)
