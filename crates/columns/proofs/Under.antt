-- Entries of lists whose elements are all below L.
use mathlib.Core.Path.{◌≡◌, ap, ◌∙◌}
use mathlib.Core.Bool.{false}
use mathlib.Core.List.{List}
use Prim.Native.Nat.{ℕ, ◌+◌, ◌*◌, ◌/◌, ◌<◌, ◌≤◌}
use native.Mathlib.Nat.{mul_assoc, mul-suc, mul-le-mul_left, le_trans, add-zero}
use native.Mathlib.Decide.{dec_lt}
use native.Mathlib.Omega.{arith}
use lib.ListN.{length, get_or, get_or-eq_default}
use lib.Dec.{lit<}
use Rattle.rules.specs.Values.{value_of, element_of, part, element_at, point_at}
use Rattle.rules.specs.Group.{L}
use Rattle.rules.specs.Windows.{any_over}
use Rattle.rules.specs.Engines.{entry_at}
use Rattle.laws.specs.Parts.{part_at, part_length}
use Rattle.lent.proofs.Passed.{under}
use Rattle.residue.proofs.Members.{value_in_lem}
use Rattle.residue.proofs.Reduction.{L-pos}
use Rattle.limbs.proofs.Elements.{same}

-- an entry of a list whose elements are all below L, also where it is past its window
pub entry-under : (u : ℕ) (ws : List ℕ) (m i k : ℕ) → any_over ws ≡ false → 4 * u * m ≤ length ws → i < m → entry_at (4 * u) ws i k < L
unfolding entry_at point_at element_at element_of
entry-under u ws m i k e long p = go (dec_lt k u)
  where
    fits : 4 * u * i + 4 * u ≤ length ws
    fits = le_trans (rw mul-suc at (mul-le-mul_left (4 * u) p)) long

    at : (r : ℕ) → k < u → r < 4 → get_or (part (4 * u) i ws) (4 * k + r) 0 ≡ get_or ws (4 * (u * i + k) + r) 0
    at r q h =
        let n : 4 * u * i + (4 * k + r) ≡ 4 * (u * i + k) + r = omega (arith, mul_assoc 4 u i) in
        part_at (4 * u) i ws (4 * k + r) 0 (omega arith) ∙ ap (λ (j : ℕ). get_or ws j 0) n

    past : (j : ℕ) → u ≤ k → 4 * k ≤ j → get_or (part (4 * u) i ws) j 0 ≡ 0
    past j q h = get_or-eq_default (part (4 * u) i ws) 0 (omega (arith, part_length (4 * u) i ws fits))

    go : Dec (k < u) → point_at (part (4 * u) i ws) k < L
    go (yes q) =
        let first : get_or (part (4 * u) i ws) (4 * k) 0 ≡ get_or ws (4 * (u * i + k)) 0 = simp add-zero at (at 0 q (lit< tt)) in
        let b : u * i + k < length ws / 4 = omega (arith, fits, mul_assoc 4 u i) in
        rw (ap value_of (same first (at 1 q (lit< tt)) (at 2 q (lit< tt)) (at 3 q (lit< tt)))) (under ws (u * i + k) e b)
    go (no q) =
        let le : u ≤ k = omega arith in
        let zero : element_at (part (4 * u) i ws) k ≡ element_of 0 =
        same (past _ le (omega arith)) (past _ le (omega arith)) (past _ le (omega arith)) (past _ le (omega arith)) in
        rw (ap value_of zero ∙ value_in_lem 0 L-pos) L-pos
