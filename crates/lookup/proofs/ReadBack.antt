-- A built window read back: lookup by a digit d gives d times the point.
use mathlib.Core.Path.{◌≡◌, sym, ap₂, ◌∙◌}
use mathlib.Core.Bool.{false}
use mathlib.Core.List.{List}
use Prim.Native.Nat.{ℕ, ◌-◌, ◌*◌, ◌%◌, ◌<◌, ◌≤◌}
use native.Mathlib.Omega.{arith}
use lib.ListN.{length}
use lib.IntN.{ℤ, nat_abs}
use borrow.Author.Tests.{lt-leb, lt-ltb}
use Rattle.rules.specs.declared.Element.{Element}
use Rattle.rules.specs.Values.{value_of, point_at}
use Rattle.rules.specs.Group.{L, elements, residues, times_z}
use Rattle.rules.specs.Loops.{odd_entry}
use Rattle.rules.specs.Numbers.{given, valued, window_answer}
use Rattle.rules.specs.Windows.{successive, odd, selected, limbs_flat, over, any_over, point_refusal, lookup_table, naf_lookup_table5, naf_lookup_table8, beyond, lookup_refusal, select, select_naf}
use Rattle.rules.specs.Helpers.{elements_flat, looked_up}
use Rattle.laws.specs.Conditions.{or-none, any-absent}
use Rattle.laws.specs.Windows.{selected-ext, selected_odd-ext, successive-in, odd-in, selected-is, selected_odd-is}
use Rattle.laws.specs.Carried.{successive-carry, selected-carry}
use Rattle.residue.proofs.Members.{Member}
use Rattle.residue.proofs.Laws.{carries, group}
use Rattle.group.proofs.Answers.{point-tested}
use Rattle.window.proofs.Flat.{elements-at, limbs-length, limbs-at}
use Rattle.lookup.proofs.Lookups.{near, near-odd, named, tested}

-- no entry of residues is at or above L
clean : (t : ℕ → ℕ) (n : ℕ) → ((k : ℕ) → t k < L) → any_over (limbs_flat t n) ≡ false
unfolding any_over over
clean t n h = any-absent _ _ (λ k p. lt-leb L _ (rw (limbs-at t n k (omega (arith, p, limbs-length t n)) (h k)) (h k)))

-- windows of n entries of a residue p
module _ (n p : ℕ) (h : p < L) (d : ℤ) where
  pub successive-read : nat_abs d ≤ n
      → (lookup_refusal n (beyond n d) (limbs_flat (successive residues p) n) ≡ 0)
      × (selected residues (point_at (limbs_flat (successive residues p) n)) d ≡ times_z residues d p)
  successive-read g =
      let t = successive residues p in (
        sym (tested n _ _ false (limbs-length t n) (or-none _ _ (clean t n (λ k. successive-in group k h)) (near n d g))),
        selected-ext residues (point_at (limbs_flat t n)) t n (λ k q. limbs-at t n k q (successive-in group k h)) d g ∙ selected-is group d h,
      )

  pub odd-read : nat_abs d % 2 ≡ 1 → nat_abs d ≤ 2 * n - 1 → select_naf n (limbs_flat (odd residues p) n) d ≡ valued 0 (times_z residues d p)
  unfolding select_naf
  odd-read o g =
      let t = odd residues p in
      let ne : nat_abs d % 2 ≡ 0 → ⊥ = λ e. omega arith in
      ap₂ valued
      (sym (tested n _ _ false (limbs-length t n) (or-none _ _ (clean t n (λ k. odd-in group k h)) (near-odd n d ne g))))
      (selected_odd-ext residues (point_at (limbs_flat t n)) t d (limbs-at t n (odd_entry d) (named n d ne g) (odd-in group (odd_entry d) h)) ∙ selected_odd-is group d (λ _. o) h)

-- the windows that are answered for a point p of four limbs, below L
module _ (p : List ℕ) (l : length p ≡ 4) (h : point_at p 0 < L) (d : ℤ) where
  passes : point_refusal p ≡ 0
  unfolding over
  passes = sym (point-tested p false l (lt-leb L (point_at p 0) h))

  -- 1P to 8P, d from -8 to 8
  pub lookup-table-read : nat_abs d ≤ 8 → select (lookup_table p).limbs d ≡ valued 0 (times_z residues d (point_at p 0))
  unfolding lookup_table window_answer given select
  lookup-table-read g = let r = successive-read 8 (point_at p 0) h d g in rw passes (ap₂ valued r.0 r.1)

  -- 1P, 3P, .. 15P, d odd from -15 to 15
  pub naf-lookup-table5-read : nat_abs d % 2 ≡ 1 → nat_abs d ≤ 15 → select_naf 8 (naf_lookup_table5 p).limbs d ≡ valued 0 (times_z residues d (point_at p 0))
  unfolding naf_lookup_table5 window_answer given
  naf-lookup-table5-read o g = rw passes (odd-read 8 (point_at p 0) h d o g)

  -- 1P, 3P, .. 127P, d odd from -127 to 127
  pub naf-lookup-table8-read : nat_abs d % 2 ≡ 1 → nat_abs d ≤ 127 → select_naf 64 (naf_lookup_table8 p).limbs d ≡ valued 0 (times_z residues d (point_at p 0))
  unfolding naf_lookup_table8 window_answer given
  naf-lookup-table8-read o g = rw passes (odd-read 64 (point_at p 0) h d o g)

-- radix lookup among n elements as flat limbs
flat-looked_up : (t : ℕ → Element) (n : ℕ) (d : ℤ) → nat_abs d ≤ n → looked_up n (elements_flat t n) d ≡ selected elements t d
unfolding looked_up
flat-looked_up t n d h = selected-ext elements _ t n (λ k p. rw (lt-ltb k n p) (elements-at t n k p)) d h

-- radix lookup on four limbs, in a window made of a member
pub made-read : (n : ℕ) (p : Element) → Member p → (d : ℤ) → nat_abs d ≤ n
    → Member (looked_up n (elements_flat (successive elements p) n) d) × (value_of (looked_up n (elements_flat (successive elements p) n) d) ≡ times_z residues d (value_of p))
made-read n p m d g =
    let t = successive elements p in
    let r = selected-carry carries t d (λ i q. (successive-carry carries i m).0) in
    rw (flat-looked_up t n d g)
    (r.0, r.1 ∙ selected-ext residues _ (successive residues (value_of p)) n (λ k q. (successive-carry carries k m).1) d g ∙ selected-is group d m)
