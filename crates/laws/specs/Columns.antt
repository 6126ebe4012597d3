-- Columns of NAF digits, and the walk down them, by their turns: no law of the group is asked.
use Rattle.std.specs.Prelude.{◌≡◌, ℕ, ◌+◌, ◌<◌, ◌≤◌, ℤ, pos}
use Rattle.std.proofs.Math.Path.{refl, ap}
use Rattle.std.proofs.Common.{◌∙◌}
use Rattle.rules.specs.Group.{Ops}
use Rattle.rules.specs.Loops.{down, odd_entry, moved, column, walk}
use Rattle.laws.specs.Loops.{up_none, up_more, up-idle, down-idle}

module _ {A : Type 0} (o : Ops A) where
  -- one digit's entry, by its sign
  pub moved-zero : (q x : A) → moved o (pos 0) q x ≡ q
  unfolding moved
  moved-zero q x = refl

  module _ (d : ℕ → ℕ → ℤ) (x : ℕ → ℕ → A) where
    pub column-none : (j : ℕ) (q : A) → column o d x 0 j q ≡ q
    unfolding column
    column-none j q = up_none (λ i r. moved o (d i j) r (x i (odd_entry (d i j)))) q

    -- one row more
    pub column-more : (m j : ℕ) (q : A) → column o d x (m + 1) j q ≡ moved o (d m j) (column o d x m j q) (x m (odd_entry (d m j)))
    unfolding column
    column-more m j q = up_more (λ i r. moved o (d i j) r (x i (odd_entry (d i j)))) m q

    -- a place where every row is 0
    pub column-idle : (m j : ℕ) (q : A) → ((i : ℕ) → i < m → d i j ≡ pos 0) → column o d x m j q ≡ q
    unfolding column
    column-idle m j q h =
        up-idle (λ i r. moved o (d i j) r (x i (odd_entry (d i j)))) m q
        (λ i p. ap (λ (z : ℤ). moved o z q (x i (odd_entry (d i j)))) (h i p) ∙ moved-zero q (x i (odd_entry (d i j))))

    -- what place j of row i adds: the entry that its digit names, taken from the identity for a negative digit; nothing for 0
    abbrev pub term : ℕ → ℕ → A
    term i j = moved o (d i j) o.e (x i (odd_entry (d i j)))

  -- one turn of the walk: a doubling, then the two columns of place j
  module _ (d : ℕ → ℕ → ℤ) (x : ℕ → ℕ → A) (m : ℕ) (d' : ℕ → ℕ → ℤ) (x' : ℕ → ℕ → A) (m' : ℕ) where
    abbrev pub turn : ℕ → A → A
    turn j q = column o d' x' m' j (column o d x m j (o.twice q))

    pub walk_is : (n : ℕ) → walk o d x m d' x' m' n ≡ down turn n o.e
    unfolding walk
    walk_is n = refl

    -- top places where every row is 0 may be left out
    pub walk_top : (k n : ℕ) → o.twice o.e ≡ o.e → k ≤ n
        → ((i j : ℕ) → i < m → k ≤ j → j < n → d i j ≡ pos 0) → ((i j : ℕ) → i < m' → k ≤ j → j < n → d' i j ≡ pos 0)
        → walk o d x m d' x' m' n ≡ walk o d x m d' x' m' k
    unfolding walk
    walk_top k n ee le h h' =
        down-idle turn k n o.e le
        (λ j a b. ap (λ (q : A). column o d' x' m' j (column o d x m j q)) ee
        ∙ ap (λ (q : A). column o d' x' m' j q) (column-idle d x m j o.e (λ i p. h i j p a b))
        ∙ column-idle d' x' m' j o.e (λ i p. h' i j p a b))
