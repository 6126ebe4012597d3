-- Buckets: points put by their digits, then the two running sums from the last bucket down; what they come to.
-- Bucket k, from 0, holds what is to be counted k + 1 times.
use Rattle.std.specs.Prelude.{◌≡◌, Bool, cond, ℤ, pos, negsuc, nat_abs, eqb}
use Rattle.std.proofs.Math.Path.{refl, sym, ap}
use Rattle.std.proofs.Common.{◌∙◌, lt-suc_self, add-one, arith, eq-eqb, ne_eqb}
use Rattle.std.proofs.Math.Bool.{true, false}
use Prim.Native.Nat.{ℕ, zero, suc, ◌+◌, ◌<◌, ◌≤◌}
use Rattle.std.proofs.Math.Nat.{le_step}
use Rattle.rules.specs.Group.{Ops, times, times_z, sum_below}
use Rattle.rules.specs.Loops.{up, down, moved}
use Rattle.laws.specs.Group.{Laws, idr, swap_mid}
use Rattle.laws.specs.Multiples.{times-in, times-e, times-op, times-inv}
use Rattle.laws.specs.Sums.{sum_more, sum-ext, sum-in, sum-e, sum-raise}
use Rattle.laws.specs.Loops.{down-ext}
use Rattle.laws.specs.Walk.{moved_in}

module _ {A : Type 0} (o : Ops A) where
  -- the point p put by the digit d: into bucket |d| - 1 of b, taken away there where d is negative; nowhere where d is 0
  unfoldable pub put : ℤ → A → (ℕ → A) → ℕ → A
  put d p b k = cond (eqb (k + 1) (nat_abs d)) (moved o d (b k) p) (b k)

  pub put-here : (d : ℤ) (p : A) (b : ℕ → A) (k : ℕ) → k + 1 ≡ nat_abs d → put d p b k ≡ moved o d (b k) p
  unfolding put
  put-here d p b k e = rw (eq-eqb (k + 1) (nat_abs d) e)

  pub put_other : (d : ℤ) (p : A) (b : ℕ → A) (k : ℕ) → (k + 1 ≡ nat_abs d → ⊥) → put d p b k ≡ b k
  unfolding put
  put_other d p b k e = rw (ne_eqb (k + 1) (nat_abs d) e)

  -- the first m points put, each by its digit, into empty buckets
  unfoldable pub filled : (ℕ → ℤ) → (ℕ → A) → ℕ → ℕ → A
  filled d P m = up (λ i b. put (d i) (P i) b) m (λ k. o.e)

  -- one turn of the running sums: bucket k to the first, and the first to the second
  abbrev pub ran : (ℕ → A) → ℕ → A × A → A × A
  ran b k s = (o.op s.0 (b k), o.op s.1 (o.op s.0 (b k)))

  -- the second running sum, over the buckets 0 to n: both start as bucket n
  unfoldable pub bucket_sum : (ℕ → A) → ℕ → A
  bucket_sum b n = (down (ran b) n (b n, b n)).1

  -- the first n buckets, each as often as its number says
  unfoldable pub weighed : (ℕ → A) → ℕ → A
  weighed b n = sum_below o (λ k. times o (k + 1) (b k)) n

module _ {A : Type 0} {o : Ops A} {In : A → Type 0} (l : Laws o In) where
  open o use {op as ◌⊕◌, e, inv}
  open l use {e-in, op-in, inv-in, assoc, comm, idl, sub_is}

  infixl 6 ◌⊕◌
  weighed-in : (b : ℕ → A) (n : ℕ) → ((k : ℕ) → k < n → In (b k)) → In (weighed o b n)
  unfolding weighed
  weighed-in b n h = sum-in l n (λ k p. times-in l _ (h k p))

  -- the running sums from r and t on, over n buckets
  ran-is : (b : ℕ → A) (n : ℕ) {r t : A} → ((k : ℕ) → k < n → In (b k)) → In r → In t
      → (down (ran o b) n (r, t)).1 ≡ t ⊕ (times o n r ⊕ weighed o b n)
  unfolding down weighed sum_below times
  ran-is b zero {r} {t} h hr ht = sym (ap (λ x. t ⊕ x) (idl e-in) ∙ idr l ht)
  ran-is b (suc n) {r} {t} h hr ht =
      ran-is b n (λ k p. h k (le_step p)) hrc (op-in ht hrc)
      ∙ assoc ht hrc (op-in (times-in l n hrc) hw)
      ∙ ap (λ x. t ⊕ x)
      (ap (λ x. r ⊕ b n ⊕ (x ⊕ weighed o b n)) (times-op l n hr hn)
      ∙ sym (assoc hrc (op-in (times-in l n hr) (times-in l n hn)) hw)
      ∙ ap (λ x. x ⊕ weighed o b n) (swap_mid l hr hn (times-in l n hr) (times-in l n hn))
      ∙ assoc (op-in hr (times-in l n hr)) (op-in hn (times-in l n hn)) hw
      ∙ ap (λ x. r ⊕ times o n r ⊕ x) (comm (op-in hn (times-in l n hn)) hw ∙ ap (λ (k : ℕ). weighed o b n ⊕ times o k (b n)) (sym (add-one n))))
    where
      hn : In (b n)
      hn = h n (lt-suc_self n)

      hrc : In (r ⊕ b n)
      hrc = op-in hr hn

      hw : In (weighed o b n)
      hw = weighed-in b n (λ k p. h k (le_step p))

  -- the buckets 0 to n
  pub bucket-sum : (b : ℕ → A) (n : ℕ) → ((k : ℕ) → k < n + 1 → In (b k)) → bucket_sum o b n ≡ weighed o b (n + 1)
  unfolding bucket_sum weighed times
  bucket-sum b n h =
      ran-is b n below hn hn
      ∙ sym (assoc hn (times-in l n hn) (weighed-in b n below))
      ∙ comm (times-in l (suc n) hn) (weighed-in b n below)
      ∙ ap (λ (k : ℕ). weighed o b n ⊕ times o k (b n)) (sym (add-one n))
      ∙ sym (sum_more o (λ k. times o (k + 1) (b k)) n)
    where
      below : (k : ℕ) → k < n → In (b k)
      below k p = h k (omega (arith, p))

      hn : In (b n)
      hn = h n (omega arith)

  raised : (d : ℤ) (p q : A) (b : ℕ → A) (k n : ℕ) → k + 1 ≡ nat_abs d → moved o d (b k) p ≡ b k ⊕ q → k < n → ((i : ℕ) → i < n → In (b i)) → In q
      → weighed o (put o d p b) n ≡ weighed o b n ⊕ times o (k + 1) q
  unfolding weighed
  raised d p q b k n at eq lt h hq =
      sum-raise l k n lt (λ i a. times-in l (i + 1) (h i a)) (times-in l (k + 1) hq)
      (ap (times o (k + 1)) (put-here o d p b k at ∙ eq) ∙ times-op l (k + 1) (h k lt) hq)
      (λ i a ne. ap (times o (i + 1)) (put_other o d p b i (λ at'. ne (omega arith))))

  -- a point put by its digit raises the weighed sum by digit times point
  pub put-sum : (d : ℤ) (p : A) (b : ℕ → A) (n : ℕ) → nat_abs d ≤ n → ((k : ℕ) → k < n → In (b k)) → In p
      → weighed o (put o d p b) n ≡ weighed o b n ⊕ times_z o d p
  unfolding times_z times moved
  put-sum (pos zero) p b n le h hp =
      unfold weighed in (sum-ext o n (λ k a. ap (times o (k + 1)) (put_other o (pos 0) p b k (λ at. omega arith))))
      ∙ sym (idr l (weighed-in b n h))
  put-sum (pos (suc k)) p b n le h hp =
      raised (pos (suc k)) p p b k n (add-one k) refl le h hp ∙ ap (λ (i : ℕ). weighed o b n ⊕ times o i p) (add-one k)
  put-sum (negsuc k) p b n le h hp =
      raised (negsuc k) p (inv p) b k n (add-one k) (sub_is (h k le) hp) le h (inv-in hp)
      ∙ ap (λ x. weighed o b n ⊕ x) (times-inv l (k + 1) hp ∙ ap (λ (i : ℕ). inv (times o i p)) (add-one k))

  put_in : (d : ℤ) (p : A) (b : ℕ → A) (k : ℕ) → In (b k) → In p → In (put o d p b k)
  unfolding put
  put_in d p b k h hp = go (eqb (k + 1) (nat_abs d))
    where
      go : (t : Bool) → In (cond t (moved o d (b k) p) (b k))
      go true = moved_in l d h hp
      go false = h

  pub filled_in : (d : ℕ → ℤ) (P : ℕ → A) (m k : ℕ) → ((i : ℕ) → i < m → In (P i)) → In (filled o d P m k)
  unfolding filled up
  filled_in d P zero k h = e-in
  filled_in d P (suc m) k h = put_in (d m) (P m) (filled o d P m) k (filled_in d P m k (λ i p. h i (le_step p))) (h m (lt-suc_self m))

  -- all points put
  filled-sum : (d : ℕ → ℤ) (P : ℕ → A) (m n : ℕ) → ((i : ℕ) → i < m → nat_abs (d i) ≤ n) → ((i : ℕ) → i < m → In (P i))
      → weighed o (filled o d P m) n ≡ sum_below o (λ i. times_z o (d i) (P i)) m
  unfolding filled up sum_below
  filled-sum d P zero n le h = unfold weighed in (sum-ext o n (λ k p. times-e l (k + 1)) ∙ sum-e l n)
  filled-sum d P (suc m) n le h =
      put-sum (d m) (P m) (filled o d P m) n (le m (lt-suc_self m)) (λ k p. filled_in d P m k (λ i q. h i (le_step q))) (h m (lt-suc_self m))
      ∙ ap (λ x. x ⊕ times_z o (d m) (P m)) (filled-sum d P m n (λ i p. le i (le_step p)) (λ i p. h i (le_step p)))

  -- and then the running sums: the column's sum of digits times points
  pub buckets-sum : (d : ℕ → ℤ) (P : ℕ → A) (m n : ℕ) → ((i : ℕ) → i < m → nat_abs (d i) ≤ n + 1) → ((i : ℕ) → i < m → In (P i))
      → bucket_sum o (filled o d P m) n ≡ sum_below o (λ i. times_z o (d i) (P i)) m
  buckets-sum d P m n le h = bucket-sum (filled o d P m) n (λ k p. filled_in d P m k h) ∙ filled-sum d P m (n + 1) le h

module _ {A : Type 0} (o : Ops A) where
  -- equal buckets
  pub bucket_sum-ext : (b c : ℕ → A) (n : ℕ) → ((k : ℕ) → k < n + 1 → b k ≡ c k) → bucket_sum o b n ≡ bucket_sum o c n
  unfolding bucket_sum
  bucket_sum-ext b c n h =
      ap (λ (s : A × A). s.1)
      (down-ext n (b n, b n) (λ k p s. ap (λ (x : A). (o.op s.0 x, o.op s.1 (o.op s.0 x))) (h k (omega (arith, p))))
      ∙ ap (λ (x : A). down (ran o c) n (x, x)) (h n (omega arith)))
