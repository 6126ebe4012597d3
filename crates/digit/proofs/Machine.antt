-- A digit of eight bits as the machine has it: read back, and tested against 0.
use mathlib.Core.Path.{◌≡◌, sym, ap, ◌∙◌}
use lib.IntN.{ℤ, pos}
use mir.Syntax.{w8}
use mir.Val.{SFits, to_z, of_z}
use mir.Facts.{to_z-of_z}

module _ (z : ℤ) (f : SFits w8 z) where
  pub back8 : to_z w8 (of_z w8 z) ≡ z
  back8 = to_z-of_z f

  pub is_zero : of_z w8 z ≡ 0 → z ≡ pos 0
  is_zero e = sym back8 ∙ ap (to_z w8) e

pub not-zero : (z : ℤ) → (of_z w8 z ≡ 0 → ⊥) → z ≡ pos 0 → ⊥
not-zero z h e = h (ap (of_z w8) e)
