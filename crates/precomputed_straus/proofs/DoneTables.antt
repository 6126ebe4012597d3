-- Building tables: what a refused call and a done one leave.
use mathlib.Core.Path.{◌≡◌, sym, ap, ap₂, ◌∙◌}
use mathlib.Core.Bool.{false}
use mathlib.Core.List.{List}
use Prim.Native.Nat.{ℕ, ◌*◌, ◌<◌}
use native.Mathlib.Nat.{le_refl}
use native.Mathlib.Omega.{arith}
use lib.ListN.{length, get_or}
use lib.Dec.{lit<, eqb}
use borrow.Author.Tests.{eqb-true, not-false}
use Rattle.std.specs.Prelude.{Result, Ok}
use Rattle.rules.specs.declared.Refusal.{Refusal}
use Rattle.rules.specs.declared.Counts.{Counts}
use Rattle.rules.specs.declared.Window.TheVariants.{Odd64}
use Rattle.rules.specs.Values.{limb, point_at}
use Rattle.rules.specs.Numbers.{given, condition}
use Rattle.rules.specs.Group.{residues}
use Rattle.rules.specs.Windows.{odd, any_over}
use Rattle.rules.specs.Lists.{point_count, other_than}
use Rattle.rules.specs.Engines.{new_conditions, new_refusal, after_new, new_tables}
use Rattle.rules.specs.Helpers.{Made, laid_windows}
use Rattle.rules.specs.Results.{as_counted}
use Rattle.laws.specs.Conditions.{given-refused}
use Rattle.laws.specs.Answers.{first_done}
use Rattle.laws.proofs.Laid.{laid-all}
use Rattle.laws.specs.Results.{Refused, refused-not-0, refused-counted, done-counted}
use Rattle.lent.proofs.Passed.{under}
use Rattle.window.proofs.Flat.{limbs-length}
use Rattle.laying.proofs.Built.{odd64-laid}

module _ (ps ts : List ℕ) where
  pub refused-tables : {y : Result Counts Refusal} → Refused y (new_refusal ps (length ts)) → after_new (as_counted y) ts ≡ new_tables ps ts
  unfolding new_tables
  refused-tables r = ap₂ after_new (refused-counted r _ _) (sym (given-refused ts _ _ (refused-not-0 r)))

  module _ (passed : new_refusal ps (length ts) ≡ 0) where
    told : (i : ℕ) → condition (new_conditions ps (length ts)) i ≡ false
    unfolding new_refusal
    told = (first_done (new_conditions ps (length ts)) (lit< tt, (lit< tt, (lit< tt, (lit< tt, tt))))).0 passed

    exact-tables : length ts ≡ 256 * point_count ps
    unfolding condition other_than
    exact-tables = eqb-true (length ts) (256 * point_count ps) (not-false (eqb (length ts) (256 * point_count ps)) (told 5))

    pub points-under : any_over ps ≡ false
    unfolding condition
    points-under = told 7

    pub done-tables : ((k : ℕ) → get_or ps k 0 < limb) → {t : List ℕ} {c : Counts} → ◌≡◌ {A = Made} (record { counts = c; limbs = t }) (laid_windows Odd64 ps (point_count ps) ts)
        → after_new (as_counted (Ok c)) t ≡ new_tables ps ts
    unfolding new_tables given
    done-tables range {t} {c} made =
        let n = point_count ps in
        let all = made ∙ odd64-laid ps n ts (le_refl n) range (λ i h. under ps i points-under h) (omega (arith, exact-tables)) in
        ap₂ after_new (done-counted passed (ap (λ (m : Made). m.counts.additions) all) (ap (λ (m : Made). m.counts.doublings) all))
        (ap (λ (m : Made). m.limbs) all ∙ laid-all 256 _ n ts (λ i _. limbs-length (odd residues (point_at ps i)) 64) exact-tables ∙ rw passed)
