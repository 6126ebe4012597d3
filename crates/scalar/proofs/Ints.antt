-- Eight bits of the machine read as signed: what its wrapping difference is as a number.
use Rattle.std.proofs.Common.{◌≡◌, ℕ, suc, ◌+◌, ◌-◌, ◌*◌, ◌%◌, ◌^◌, ◌<◌, ◌≤◌, pos, negsuc, sym, refl, ap, ◌∙◌, arith, w8, to_z, le-ltb, lt-ltb}
use native.Mathlib.Decide.{dec_lt}
use lib.IntN.{sub_ℕ}
use mir.Facts.{to_z_pos, to_z-neg}
use Rattle.laws.specs.Digits.{carry, near}
use Rattle.scalar.specs.Wrap.{wrapped}

-- ---- a difference that eight bits hold is what wraps

wrapped-is : (v c : ℕ) → v < 512 → c ≤ v + 128 → v < c + 128 → wrapped v c ≡ sub_ℕ v c
unfolding wrapped
wrapped-is v c a b h = go ((v % 256 + (256 - c % 256)) % 256) refl (dec_lt ((v % 256 + (256 - c % 256)) % 256) 128)
  where
    go : (r : ℕ) → r ≡ (v % 256 + (256 - c % 256)) % 256 → Dec (r < 128) → to_z w8 r ≡ sub_ℕ v c
    go r e (yes l) =
        let p : c ≤ v = omega arith in
        let q : r ≡ v - c = omega arith in
        to_z_pos w8 {n = r} l ∙ rw (le-ltb v c p) (ap pos q)
    go r e (no n) =
        let p : v < c = omega arith in
        let q : 255 - r ≡ c - suc v = omega arith in
        let f : 256 - suc (255 - r) ≡ r = omega arith in
        ap (to_z w8) (sym f) ∙ to_z-neg w8 (255 - r) (omega arith) ∙ rw (lt-ltb v c p) (ap negsuc q)

-- a window less what it carries out
pub wrapped-window : (w v : ℕ) → 1 ≤ w → w ≤ 8 → v ≤ 2 ^ w → wrapped v (carry w v * 2 ^ w) ≡ sub_ℕ v (carry w v * 2 ^ w)
wrapped-window w v lo hi le =
    let n = near w v lo hi le in
    wrapped-is v (carry w v * 2 ^ w) (omega (arith, n)) n.1.0 n.1.1
