-- The window that was stepped, put into its part.
use mathlib.Core.Path.{refl, ap, ◌∙◌}
use mathlib.Core.List.{List}
use Prim.Native.Nat.{ℕ}
use Rattle.rules.specs.Lists.{put}
use Rattle.window.proofs.Flat.{joined-flat}
use Rattle.window.proofs.make.Goals as goal

pub returns : goal.returns
returns g c = record {
  additions = c.stepped-t.ensures.1;
  doublings = refl;
  window = c.put.ensures ∙ ap (λ (x : List ℕ). put x c.args.part.now) (c.as_flattened.ensures.value ∙ joined-flat c.stepped-t.result ∙ c.stepped-t.ensures.0);
}
