-- A contract that is an equation of what a call leaves with a definition.
use mathlib.Core.Path.{◌≡◌, sym, ◌∙◌}
use Rattle.rules.specs.Claims.{Says}

-- it says that definition
pub says : {K : Type 0} {A R S : K → Type 0} {B : Type 0} {left : (κ : K) → R κ → S κ → B} {definition : (κ : K) → A κ → B} → Says (λ κ (a : A κ) r s. left κ r s ≡ definition κ a) definition left
says = record { exactly = λ κ a r s. (λ p. p, λ p. p); one = λ κ a r r' s s' p q. p ∙ sym q }
