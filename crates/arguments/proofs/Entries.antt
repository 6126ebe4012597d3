-- Single entries of flat lists: a point within its part, the limbs of an optional point, a scalar of 32 bytes, a point by its flag.
use mathlib.Core.Path.{◌≡◌, refl, sym, ap, ◌∙◌}
use mathlib.Core.Bool.{Bool, true, false, cond}
use mathlib.Core.List.{List}
use Prim.Native.Nat.{ℕ, ◌+◌, ◌*◌, ◌<◌}
use native.Mathlib.Nat.{mul-add, mul_assoc}
use native.Mathlib.Omega.{arith}
use lib.ListN.{length, get_or}
use lib.Seq.{take_all}
use lib.Dec.{eqb, leb}
use Rattle.std.specs.Prelude.{Option, Some, None}
use Rattle.rules.specs.declared.Element.{Element}
use Rattle.rules.specs.Values.{number, value_of, element_at, part, point_at, optional_at, scalar_at}
use Rattle.rules.specs.Group.{L}
use Rattle.rules.specs.Lists.{point_over, is_absent}
use Rattle.rules.specs.Batch.{limbs_in, value_in}
use Rattle.laws.specs.Parts.{part_at}

-- in parts of m elements, element m * i + k is element k of part i
pub entry-part : (m i k : ℕ) → k < m → (ws : List ℕ) → point_at ws (m * i + k) ≡ point_at (part (4 * m) i ws) k
unfolding point_at element_at
entry-part m i k h ws =
    four (at (4 * k) (omega arith) (omega arith)) (at (4 * k + 1) (omega arith) (omega arith)) (at (4 * k + 2) (omega arith) (omega arith)) (at (4 * k + 3) (omega arith) (omega arith))
  where
    start : 4 * (m * i + k) ≡ 4 * m * i + 4 * k
    start = mul-add 4 (m * i) k ∙ ap (λ (x : ℕ). x + 4 * k) (sym (mul_assoc 4 m i))

    at : {j : ℕ} (o : ℕ) → j ≡ 4 * m * i + o → o < 4 * m → get_or ws j 0 ≡ get_or (part (4 * m) i ws) o 0
    at {j} o e q = ap (λ (t : ℕ). get_or ws t 0) e ∙ sym (part_at (4 * m) i ws o 0 q)

    four : {a b c d a' b' c' d' : ℕ} → a ≡ a' → b ≡ b' → c ≡ c' → d ≡ d' → value_of (record { l0 = a; l1 = b; l2 = c; l3 = d }) ≡ value_of (record { l0 = a'; l1 = b'; l2 = c'; l3 = d' })
    four p q r s = cc

-- a point is read off its own part
pub point-part : (ps : List ℕ) (i : ℕ) → point_at ps i ≡ point_at (part 4 i ps) 0
point-part ps i = let e : i ≡ 1 * i + 0 = omega arith in ap (point_at ps) e ∙ entry-part 1 i 0 (omega arith) ps

pub limbs-long : (p : Option Element) → length (limbs_in p) ≡ 4
unfolding limbs_in
limbs-long (Some e) = refl
limbs-long None = refl

pub limbs-value : (p : Option Element) → is_absent p ≡ false → point_at (limbs_in p) 0 ≡ value_in p
unfolding limbs_in value_in point_at element_at is_absent
limbs-value (Some e) h = refl
limbs-value None h = let z : ◌≡◌ {A = ℕ} 0 1 = cc in absurd (omega arith)

-- the one scalar of 32 bytes
pub whole-scalar : (s : List ℕ) → length s ≡ 32 → number 256 s ≡ scalar_at s 0
unfolding scalar_at part
whole-scalar s h = ap (number 256) (sym (take_all 32 s (omega arith)))

-- an optional point: over and absent by its flag
pub over-by-flag : (ps fs : List ℕ) (i : ℕ) → point_over (optional_at ps fs i) ≡ cond (eqb (get_or fs i 0) 0) false (leb L (point_at ps i))
unfolding optional_at point_at
over-by-flag ps fs i = go (eqb (get_or fs i 0) 0)
  where
    go : (b : Bool) → point_over (cond b None (Some (element_at ps i))) ≡ cond b false (leb L (value_of (element_at ps i)))
    go true = unfold point_over in refl
    go false = unfold point_over in refl

pub absent-by-flag : (ps fs : List ℕ) (i : ℕ) → is_absent (optional_at ps fs i) ≡ eqb (get_or fs i 0) 0
unfolding optional_at
absent-by-flag ps fs i = go (eqb (get_or fs i 0) 0)
  where
    go : (b : Bool) → is_absent (cond b None (Some (element_at ps i))) ≡ b
    go true = unfold is_absent in refl
    go false = unfold is_absent in refl
