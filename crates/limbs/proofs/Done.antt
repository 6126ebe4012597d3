-- What a done call carries, by the number that its limbs are of.
use mathlib.Core.Path.{◌≡◌, ap, ◌∙◌}
use Prim.Native.Nat.{ℕ}
use Rattle.std.specs.Prelude.{Ok}
use Rattle.rules.specs.declared.Element.{Element}
use Rattle.rules.specs.declared.Walk.{Walk}
use Rattle.rules.specs.Values.{element_of}
use Rattle.rules.specs.Numbers.{given, valued, summed}
use Rattle.rules.specs.Helpers.{value_done, sum_done}
use Rattle.rules.specs.Results.{as_value, as_sum}
use Rattle.limbs.proofs.Elements.{limbs-of}

module _ {m : ℕ} (z : m ≡ 0) where
  pub done-value : (v : ℕ) {x : Element} → x ≡ element_of v → as_value (Ok x) ≡ valued m v
  unfolding as_value valued given value_done
  done-value v f = ap value_done f ∙ rw (z, limbs-of v)

  pub done-sum : (v : ℕ) {w : Walk} {a d : ℕ} → w.element ≡ element_of v → w.additions ≡ a → w.doublings ≡ d → as_sum (Ok w) ≡ summed m v a d
  unfolding as_sum summed given sum_done
  done-sum v f g h = rw (f, g, h, z, limbs-of v)
