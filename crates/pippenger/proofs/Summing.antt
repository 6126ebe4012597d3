-- The walk is the sum of scalar times point, and takes what the rule says: from four limbs to residues, from digits to scalars.
use mathlib.Core.Path.{◌≡◌, sym, ap, ◌∙◌}
use mathlib.Core.List.{List}
use Prim.Native.Nat.{ℕ, zero, suc, ◌+◌, ◌-◌, ◌*◌, ◌%◌, ◌^◌, ◌<◌, ◌≤◌}
use native.Mathlib.Omega.{arith}
use lib.IntN.{ℤ, pos, nat_abs}
use lib.ListN.{length}
use Rattle.rules.specs.declared.Row.TheVariants.{Radix}
use Rattle.rules.specs.Values.{value_of, element_of, part, element_at, point_at, scalar_at}
use Rattle.rules.specs.Group.{L, elements}
use Rattle.rules.specs.Loops.{down, weight}
use Rattle.rules.specs.Rows.{digit, row_sum, used_places, radix_row}
use Rattle.rules.specs.Engines.{products, rows_digit, bucket_limbs}
use Rattle.rules.specs.Helpers.{laid, laid_rows}
use Rattle.laws.specs.Residues.{modulo-sum}
use Rattle.laws.specs.Weight.{weight-ext, weight-top}
use Rattle.laws.specs.Places.{row_sum-top}
use Rattle.laws.specs.RadixRows.{scalar-has-row, radix-length, radix-rest, radix-small}
use Rattle.laws.specs.RowsRule.{radix-sum}
use Rattle.laws.proofs.Laid.{laid-part, laid-length}
use Rattle.laws.specs.Cells.{digit_at}
use Rattle.laws.specs.BucketWalk.{wide, turn_in, walk_in, walk_additions, Walkable, bucket-walk}
use Rattle.limbs.proofs.Elements.{whole, Ranged}
use Rattle.residue.proofs.Members.{added-ranged}
use Rattle.residue.proofs.Laws.{group, carries}
use Rattle.laying.proofs.Built.{radix-laid}
use Rattle.pippenger.proofs.Refusing.{Ready}

-- what every turn makes true holds at the end
ends : {A : Type 0} (P : A → Type 0) (f : ℕ → A → A) → ((j : ℕ) (q : A) → P (f j q)) → (n : ℕ) (q : A) → 0 < n → P (down f n q)
unfolding down
ends P f h zero q s = absurd (omega arith)
ends P f h (suc zero) q s = h 0 q
ends P f h (suc (suc n)) q s = ends P f h (suc n) (f (suc n) q) (omega arith)

walk-ranged : (ds : List ℤ) (ps : List ℕ) (m w : ℕ) → 6 ≤ w → w ≤ 8 → Ranged (walk_in elements ds (element_at ps) m w)
unfolding walk_in turn_in
walk-ranged ds ps m w lo hi = ends Ranged (turn_in elements ds (element_at ps) m w) (λ j q. added-ranged _ _) (used_places w - 1) _ (omega (arith, (wide w lo hi).some))

-- the rows of the scalars, laid
module _ {ss ps : List ℕ} {m w d b : ℕ} (h : Ready ss ps m w d b) (d₀ : List ℤ) (room : length d₀ ≡ d) {ds : List ℤ} (recoded : ds ≡ laid_rows (Radix w) ss m d₀) where
  abbrev row_of : ℕ → List ℤ
  row_of i = radix_row w (scalar_at ss i)

  pub row-long : (i : ℕ) → i < m → length (row_of i) ≡ 64
  row-long i _ = radix-length w (omega (arith, h.low)) h.high (scalar_at ss i)

  pub rows : ds ≡ laid 64 row_of m d₀
  rows = recoded ∙ radix-laid w h.high ss m d₀ (omega (arith, h.scalars)) (omega (arith, h.low)) (omega (arith, h.digits, room))

  row_is : (i : ℕ) → i < m → part 64 i ds ≡ row_of i
  row_is i p = ap (part 64 i) rows ∙ laid-part 64 row_of m d₀ row-long i p

  digit-is : (i j : ℕ) → i < m → digit_at ds i j ≡ rows_digit (radix_row w) ss i j
  unfolding digit_at rows_digit
  digit-is i j p = ap (λ (r : List ℤ). digit r j) (row_is i p)

  digit-small : (i j : ℕ) → i < m → nat_abs (digit_at ds i j) ≤ 2 ^ (w - 1)
  unfolding rows_digit
  digit-small i j p = rw (digit-is i j p) (radix-small w (omega (arith, h.low)) h.high (scalar_at ss i) (scalar-has-row (h.small i p)) j)

  row_zero : (s j : ℕ) → used_places w ≤ j → digit (radix_row w s) j ≡ pos 0
  row_zero s j le = radix-rest w (omega (arith, h.low)) h.high s j (omega arith)

  row-sum : (i : ℕ) → i < m → row_sum (2 ^ w) (digit_at ds i) (used_places w) ≡ pos (scalar_at ss i)
  unfolding digit_at
  row-sum i p =
      ap (λ (r : List ℤ). row_sum (2 ^ w) (digit r) (used_places w)) (row_is i p)
      ∙ sym (row_sum-top (2 ^ w) (digit (row_of i)) (used_places w) 64 (wide w h.low h.high).inside (λ j a q. row_zero (scalar_at ss i) j a))
      ∙ radix-sum w (omega (arith, h.low)) h.high (scalar_at ss i)

  -- what the walk asks
  pub walkable : Walkable 4 ds m w b
  unfolding bucket_limbs
  walkable = record {
    low = h.low;
    high = h.high;
    room = h.room;
    placed = λ j p. record {
      rows = omega (arith, h.digits, room, ap length rows, laid-length 64 row_of m d₀ row-long (omega (arith, h.digits, room)));
      place = p;
      small = λ i q. omega (arith, digit-small i j q);
    };
  }

  -- its sum and its additions are those of the rule
  pub sum_is : walk_in elements ds (element_at ps) m w ≡ element_of (products ss ps m % L)
  unfolding products point_at
  sum_is =
      sym (whole (walk_in elements ds (element_at ps) m w) (walk-ranged ds ps m w h.low h.high))
      ∙ ap element_of (bucket-walk carries group ds (element_at ps) (scalar_at ss) m w h.low h.high h.members h.members digit-small row-sum
      ∙ modulo-sum L (scalar_at ss) (λ i. value_of (element_at ps i)) m)

  pub additions-are : (n : ℕ) → walk_additions ds m (used_places w) n ≡ weight (rows_digit (radix_row w) ss) m 64 + used_places w * 2 * (n - 1) + (used_places w - 1)
  unfolding walk_additions
  additions-are n =
      ap (λ (x : ℕ). x + used_places w * 2 * (n - 1) + (used_places w - 1))
      (weight-ext (digit_at ds) (rows_digit (radix_row w) ss) m (used_places w) (λ i j p q. digit-is i j p)
      ∙ sym (weight-top (rows_digit (radix_row w) ss) m (used_places w) 64 (wide w h.low h.high).inside (λ i j p a q. unfold rows_digit in (row_zero (scalar_at ss i) j a))))
