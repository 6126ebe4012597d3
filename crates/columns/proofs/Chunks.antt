-- Whole chunks of two lists side by side, as a loop takes them: which parts they are, and how many there are.
use mathlib.Core.Path.{◌≡◌, sym, ap, subst, ◌∙◌}
use mathlib.Core.List.{List, ◌++◌}
use mathlib.Core.Logic.{◌⊎◌, inl, inr}
use Prim.Native.Nat.{ℕ, ◌+◌, ◌*◌, ◌/◌, ◌<◌, ◌≤◌, min}
use native.Mathlib.Nat.{mul-suc, mul-zero, mul_comm, div-eq_of_lt-le, le-div_iff_mul-le}
use native.Mathlib.Numerals.{add-one}
use native.Mathlib.Omega.{arith}
use lib.ListN.{length, take, drop, length-append, length-drop}
use lib.Seq.{take_at, drop_at, drop-drop}
use denote.Ref.{Bor}
use Rattle.std.specs.declared.iter.Zip.{Zip}
use Rattle.std.specs.declared.slice.ChunksExact.{ChunksExact}
use Rattle.std.specs.declared.option.Option.{Option}
use Rattle.std.specs.declared.option.Option.TheVariants.{None, Some}
use Rattle.std.specs.Iterator.Adapters.{zip_first, zip_second}
use Rattle.std.specs.Slice.Iter.{chunks_exact_rest, chunks_exact_size, chunks_exact_steps}
use Rattle.std.proofs.lemmas.Iterator.{zips}
use Rattle.rules.specs.Values.{part}

module _ {A : Type 0} (n : ℕ) (xs : List A) where
  -- i chunks of n have been taken
  pub record Taken (s : ChunksExact A) (i : ℕ) : Type 0 where
    pub size : chunks_exact_size s ≡ n
    pub rest : chunks_exact_rest s ≡ drop (n * i) xs
    pub within : n * i ≤ length xs

  pub taken-none : (s : ChunksExact A) → chunks_exact_size s ≡ n → chunks_exact_rest s ≡ xs → Taken s 0
  taken-none s e h = record { size = e; rest = h ∙ ap (λ (k : ℕ). drop k xs) (sym (mul-zero n)); within = omega (arith, mul-zero n) }

  module _ (s t : ChunksExact A) (i : ℕ) (h : Taken s i) where
    -- the next is part i
    pub taken-more : (x : Bor (List A)) → chunks_exact_steps s (Some x) t → (x.now ≡ part n i xs) × Taken t (i + 1)
    unfolding part
    taken-more x steps =
        let long : length x.now ≡ n = steps.1.1 ∙ h.size in
        let cut : x.now ++ chunks_exact_rest t ≡ drop (n * i) xs = sym steps.1.0 ∙ h.rest in
        let fits : n * i + n ≤ length xs = omega (arith, ap length cut, length-append x.now (chunks_exact_rest t), length-drop (n * i) xs, h.within, long) in
        let next : n * (i + 1) ≡ n * i + n = ap (◌*◌ n) (add-one i) ∙ mul-suc n i in (
          sym (take_at x.now (chunks_exact_rest t) n long) ∙ ap (take n) cut,
          record {
            size = steps.0 ∙ h.size;
            rest = sym (drop_at x.now (chunks_exact_rest t) n long) ∙ ap (drop n) cut ∙ drop-drop n (n * i) xs ∙ ap (λ (k : ℕ). drop k xs) (sym next);
            within = omega (arith, next, fits);
          },
        )

    -- fewer than n are left
    pub taken-all : chunks_exact_steps s None t → length xs < n * i + n
    taken-all steps = omega (arith, steps.1.0, h.size, ap length h.rest, length-drop (n * i) xs, h.within)

    -- there are as many as fit
    pub taken-count : 0 < n → i ≤ length xs / n
    taken-count p = let le : i * n ≤ length xs = omega (arith, mul_comm i n, h.within) in (le-div_iff_mul-le p).1 le

    pub taken-total : length xs < n * i + n → length xs / n ≡ i
    taken-total q =
        let next : (i + 1) * n ≡ n * i + n = mul_comm (i + 1) n ∙ ap (◌*◌ n) (add-one i) ∙ mul-suc n i in
        div-eq_of_lt-le n (omega (arith, mul_comm i n, h.within)) (omega (arith, next, q))

-- chunks of u of xs, and of n of ys
module _ {A B : Type 0} (u : ℕ) (xs : List A) (n : ℕ) (ys : List B) where
  abbrev Side : Type 0
  Side = Zip (ChunksExact A) (ChunksExact B)

  abbrev steps : Side → Option (Bor (List A) × Bor (List B)) → Side → Type 0
  steps = zips chunks_exact_steps chunks_exact_steps

  -- so many there are
  abbrev pub sides : ℕ
  sides = min (length xs / u) (length ys / n)

  -- i pairs of chunks have been taken
  pub record Beside (z : Side) (i : ℕ) : Type 0 where
    pub first : Taken u xs (zip_first z) i
    pub second : Taken n ys (zip_second z) i

  pub beside-none : (z : Side) → chunks_exact_size (zip_first z) ≡ u → chunks_exact_rest (zip_first z) ≡ xs → chunks_exact_size (zip_second z) ≡ n
      → chunks_exact_rest (zip_second z) ≡ ys → Beside z 0
  beside-none z a b c d = record { first = taken-none u xs (zip_first z) a b; second = taken-none n ys (zip_second z) c d }

  -- the next pair
  pub record Next (x : Bor (List A) × Bor (List B)) (t : Side) (i : ℕ) : Type 0 where
    pub first_is : x.0.now ≡ part u i xs
    pub second_is : x.1.now ≡ part n i ys
    pub beside : Beside t (i + 1)

  module _ (z t : Side) (i : ℕ) (h : Beside z i) (r : Option (Bor (List A) × Bor (List B))) (stepped : steps z r t) where
    pub beside-more : (x : Bor (List A) × Bor (List B)) → r ≡ Some x → Next x t i
    beside-more x e =
        let s : steps z (Some x) t = subst (λ (o : Option (Bor (List A) × Bor (List B))). steps z o t) e stepped in
        let a = taken-more u xs (zip_first z) (zip_first t) i h.first x.0 s.0 in
        let b = taken-more n ys (zip_second z) (zip_second t) i h.second x.1 s.1 in
        record { first_is = a.0; second_is = b.0; beside = record { first = a.1; second = b.1 } }

    -- there is no more: i is how many there are
    pub beside-all : 0 < u → 0 < n → r ≡ None → i ≡ sides
    beside-all p q e = by (subst (λ (o : Option (Bor (List A) × Bor (List B))). steps z o t) e stepped)
      where
        a : i ≤ length xs / u
        a = taken-count u xs (zip_first z) (zip_first t) i h.first p

        b : i ≤ length ys / n
        b = taken-count n ys (zip_second z) (zip_second t) i h.second q

        by : ((v : ChunksExact A) × chunks_exact_steps (zip_first z) None v) ⊎ ((v : ChunksExact B) × chunks_exact_steps (zip_second z) None v) → i ≡ sides
        by (inl s) = omega (arith, a, b, taken-total u xs (zip_first z) s.0 i h.first (taken-all u xs (zip_first z) s.0 i h.first s.1))
        by (inr s) = omega (arith, a, b, taken-total n ys (zip_second z) s.0 i h.second (taken-all n ys (zip_second z) s.0 i h.second s.1))

    -- before it i was less
    pub beside-less : 0 < u → 0 < n → (x : Bor (List A) × Bor (List B)) → r ≡ Some x → i + 1 ≤ sides
    beside-less p q x e =
        let s = (beside-more x e).beside in
        omega (
          arith,
          taken-count u xs (zip_first t) (zip_first t) (i + 1) s.first p,
          taken-count n ys (zip_second t) (zip_second t) (i + 1) s.second q,
        )
