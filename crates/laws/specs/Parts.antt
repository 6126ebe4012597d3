-- Parts of flat lists: reading one, storing one, and the flat list of equal parts.
use Rattle.std.specs.Prelude.{◌≡◌, cond, get_or, eqb}
use Rattle.std.proofs.Math.Path.{refl, sym, ap, ap₂}
use Rattle.std.proofs.Common.{◌∙◌, mul-zero, mul-le-mul_left, lt-suc_self, add-one, take-append-drop, drop_at, drop-drop, take-add, eq-eqb, ne_eqb}
use mathlib.Core.List.{List, [], ◌++◌}
use Prim.Native.Nat.{ℕ, zero, suc, ◌+◌, ◌-◌, ◌*◌, ◌<◌, ◌≤◌}
use Rattle.std.proofs.Math.Nat.{add-sub_cancel_left, mul-suc, le_step}
use Rattle.std.proofs.Math.Decide.{dec_lt, ℕ_discrete}
use native.Mathlib.Omega.{arith}
use Rattle.std.proofs.Math.ListN.{length, take, drop, length-drop, length-append}
use Rattle.std.proofs.Math.Seq.{length-take-le, take_at, take-length, get_or-take, get_or-drop}
use Rattle.std.proofs.lemmas.List.{take-append-le, drop-append-le}
use Rattle.rules.specs.Values.{part, flat}

pub within : {A : Type 0} (k j : ℕ) (xs ys : List A) → j + k ≤ length xs → take k (drop j (xs ++ ys)) ≡ take k (drop j xs)
within k j xs ys h = ap (take k) (drop-append-le j xs ys (omega arith)) ∙ take-append-le k (drop j xs) ys (simp length-drop (omega arith))

-- each list in a list of lists has u elements
abbrev pub Each : {A : Type 0} → ℕ → List (List A) → Type 0
Each u w = (k : ℕ) → k < length w → length (get_or w k []) ≡ u

-- ys in place of n elements of l from a on
abbrev pub spliced : {A : Type 0} → ℕ → ℕ → List A → List A → List A
spliced a n l ys = take a l ++ (ys ++ drop n (drop a l))

module _ {A : Type 0} (a n : ℕ) (l ys : List A) (long : length ys ≡ n) (fits : a + n ≤ length l) where
  front : length (take a l) ≡ a
  front = length-take-le a l (omega arith)

  pub spliced-length : length (spliced a n l ys) ≡ length l
  spliced-length = simp (length-append, length-drop) (omega (arith, front))

  -- the list from its end on is as it was
  pub spliced-rest : (m : ℕ) → a + n ≤ m → drop m (spliced a n l ys) ≡ drop m l
  spliced-rest m h =
      let e : a + n + (m - (a + n)) ≡ m = omega arith in
      ap (λ (k : ℕ). drop k (spliced a n l ys)) (sym e)
      ∙ sym (drop-drop (m - (a + n)) (a + n) (spliced a n l ys))
      ∙ ap (drop (m - (a + n)))
      (sym (drop-drop n a (spliced a n l ys))
      ∙ ap (drop n) (drop_at (take a l) (ys ++ drop n (drop a l)) a front)
      ∙ drop_at ys (drop n (drop a l)) n long
      ∙ drop-drop n a l)
      ∙ drop-drop (m - (a + n)) (a + n) l
      ∙ ap (λ (k : ℕ). drop k l) e

module _ {A : Type 0} (n : ℕ) where
  -- the part from n i to n i + n, as code says it
  pub part-is : (i : ℕ) (l : List A) → take (n * i + n - n * i) (drop (n * i) l) ≡ part n i l
  unfolding part
  part-is i l = ap (λ (k : ℕ). take k (drop (n * i) l)) (add-sub_cancel_left (n * i) n)

  pub part_length : (i : ℕ) (l : List A) → n * i + n ≤ length l → length (part n i l) ≡ n
  unfolding part
  part_length i l h = length-take-le n (drop (n * i) l) (simp length-drop (omega arith))

  pub part_at : (i : ℕ) (l : List A) (j : ℕ) (z : A) → j < n → get_or (part n i l) j z ≡ get_or l (n * i + j) z
  unfolding part
  part_at i l j z h = get_or-take n (drop (n * i) l) j z h ∙ get_or-drop (n * i) l j z

  pub flat-length : (f : ℕ → List A) (k : ℕ) → ((i : ℕ) → i < k → length (f i) ≡ n) → length (flat f k) ≡ n * k
  unfolding flat
  flat-length f zero h = sym (mul-zero n)
  flat-length f (suc k) h =
      length-append (flat f k) (f k)
      ∙ ap₂ ◌+◌ (flat-length f k (λ i p. h i (le_step p))) (h k (lt-suc_self k))
      ∙ sym (mul-suc n k)

  -- part i of a flat list of equal parts is part i
  pub flat-part : (f : ℕ → List A) (k i : ℕ) → ((i : ℕ) → i < k → length (f i) ≡ n) → i < k → part n i (flat f k) ≡ f i
  unfolding part flat
  flat-part f zero i h p = absurd (omega arith)
  flat-part f (suc k) i h p = go (dec_lt i k) (λ q. flat-part f k i below q)
    where
      below : (j : ℕ) → j < k → length (f j) ≡ n
      below j q = h j (le_step q)

      go : Dec (i < k) → (i < k → take n (drop (n * i) (flat f k)) ≡ f i) → take n (drop (n * i) (flat f k ++ f k)) ≡ f i
      go (yes q) again =
          let le : n * i + n ≤ n * k = rw mul-suc at (mul-le-mul_left n q) in
          let len : length (flat f k) ≡ n * k = flat-length f k below in
          within n (n * i) (flat f k) (f k) (omega arith) ∙ again q
      go (no q) again =
          let e : i ≡ k = omega arith in
          ap (λ (j : ℕ). take n (drop (n * j) (flat f k ++ f k))) e
          ∙ ap (take n) (drop_at (flat f k) (f k) (n * k) (flat-length f k below))
          ∙ ap (λ (j : ℕ). take j (f k)) (sym (h k (lt-suc_self k)))
          ∙ take-length (f k)
          ∙ ap f (sym e)

  -- a list of k parts is the flat list of its parts
  pub flat-parts : (l : List A) (k : ℕ) → n * k ≤ length l → flat (λ i. part n i l) k ≡ take (n * k) l
  unfolding part flat
  flat-parts l zero h = ap (λ (j : ℕ). take j l) (sym (mul-zero n))
  flat-parts l (suc k) h =
      let le : n * k + n ≤ length l = rw mul-suc at h in
      ap (λ (t : List A). t ++ take n (drop (n * k) l)) (flat-parts l k (omega arith))
      ∙ sym (take-add (n * k) n l)
      ∙ ap (λ (j : ℕ). take j l) (sym (mul-suc n k))

module _ {A : Type 0} where
  -- one part more
  pub flat-more : (f : ℕ → List A) (k : ℕ) → flat f (k + 1) ≡ flat f k ++ f k
  unfolding flat
  flat-more f k = ap (flat f) (add-one k)

  pub flat-ext : {f g : ℕ → List A} (k : ℕ) → ((i : ℕ) → i < k → f i ≡ g i) → flat f k ≡ flat g k
  unfolding flat
  flat-ext zero h = refl
  flat-ext (suc k) h = ap₂ ◌++◌ (flat-ext k (λ i p. h i (le_step p))) (h k (lt-suc_self k))

  -- a list of k parts is the flat list of them
  pub flat-whole : (n k : ℕ) (l : List A) → length l ≡ n * k → flat (λ i. part n i l) k ≡ l
  flat-whole n k l e = flat-parts n l k (omega arith) ∙ ap (λ (j : ℕ). take j l) (sym e) ∙ take-length l

-- n elements in place of part i
module _ {A : Type 0} (n i : ℕ) (l ys : List A) (long : length ys ≡ n) (fits : n * i + n ≤ length l) where
  to_part : length (take (n * i) l) ≡ n * i
  to_part = length-take-le (n * i) l (omega arith)

  pub spliced-part : part n i (spliced (n * i) n l ys) ≡ ys
  unfolding part
  spliced-part =
      ap (take n) (drop_at (take (n * i) l) (ys ++ drop n (drop (n * i) l)) (n * i) to_part) ∙ take_at ys (drop n (drop (n * i) l)) n long

  -- the others are as they were
  pub spliced-others : (j : ℕ) → (j ≡ i → ⊥) → part n j (spliced (n * i) n l ys) ≡ part n j l
  unfolding part
  spliced-others j ne = go (dec_lt j i)
    where
      go : Dec (j < i) → take n (drop (n * j) (spliced (n * i) n l ys)) ≡ take n (drop (n * j) l)
      go (yes p) =
          let le : n * j + n ≤ n * i = rw mul-suc at (mul-le-mul_left n p) in
          within n (n * j) (take (n * i) l) (ys ++ drop n (drop (n * i) l)) (omega (arith, to_part))
          ∙ sym (within n (n * j) (take (n * i) l) (drop (n * i) l) (omega (arith, to_part)))
          ∙ ap (λ (t : List A). take n (drop (n * j) t)) (take-append-drop (n * i) l)
      go (no p) =
          let lt : i < j = omega arith in
          let le : n * i + n ≤ n * j = rw mul-suc at (mul-le-mul_left n lt) in
          ap (take n) (spliced-rest (n * i) n l ys long fits (n * j) le)

-- a flat list with part i replaced
pub spliced-flat : {A : Type 0} (n k i : ℕ) (f : ℕ → List A) (ys : List A) → ((j : ℕ) → j < k → length (f j) ≡ n) → length ys ≡ n → i < k
    → spliced (n * i) n (flat f k) ys ≡ flat (λ j. cond (eqb j i) ys (f j)) k
spliced-flat {A} n k i f ys h long p =
    sym (flat-whole n k (spliced (n * i) n (flat f k) ys) (spliced-length (n * i) n (flat f k) ys long fits ∙ len))
    ∙ flat-ext k (λ j q. go j q (ℕ_discrete j i))
  where
    len : length (flat f k) ≡ n * k
    len = flat-length n f k h

    fits : n * i + n ≤ length (flat f k)
    fits = let le : n * i + n ≤ n * k = rw mul-suc at (mul-le-mul_left n p) in omega (arith, len)

    go : (j : ℕ) → j < k → Dec (j ≡ i) → part n j (spliced (n * i) n (flat f k) ys) ≡ cond (eqb j i) ys (f j)
    go j q (yes e) =
        rw (eq-eqb j i e)
        (ap (λ (t : ℕ). part n t (spliced (n * i) n (flat f k) ys)) e ∙ spliced-part n i (flat f k) ys long fits)
    go j q (no ne) = rw (ne_eqb j i ne) (spliced-others n i (flat f k) ys long fits j ne ∙ flat-part n f k j h q)
