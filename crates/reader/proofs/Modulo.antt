-- Numbers modulo 2 ^ 256: what four limbs keep of a number, and a row's sum place by place.
use mathlib.Core.Path.{◌≡◌, refl, sym, ap, ◌∙◌, subst}
use mathlib.Core.Bool.{true, false}
use mathlib.Core.List.{List, ◌∷◌}
use Prim.Native.Nat.{ℕ, suc, ◌+◌, ◌-◌, ◌*◌, ◌/◌, ◌%◌, ◌^◌, ◌≤◌, ◌<◌}
use native.Mathlib.Nat.{mod-lt, mod-add-div, mod-add-mod, add-mod, add-mod_right, add-zero, mul-add, mul_assoc, pow-succ', add_comm, le_trans}
use native.Mathlib.Numerals.{add-one}
use native.Mathlib.Omega.{arith}
use lib.Dec.{lit<, lit≤}
use lib.ListN.{length, drop}
use lib.Seq.{drop-cons, drop-length}
use lib.IntN.{ℤ, pos, negsuc, nat_abs}
use lib.Signed.{mag, lt_z}
use mir.Syntax.{w8}
use mir.Val.{to_z, of_z}
use mir.Facts.{to_z-of_z}
use borrow.Author.Tests.{ltb-true}
use Rattle.rules.specs.declared.Element.{Element}
use Rattle.rules.specs.Values.{number, places, value_of, element_of}
use Rattle.rules.specs.Rows.{digit}
use Rattle.laws.specs.Residues.{mul-mod-mod}
use Rattle.laws.specs.DigitsSum.{plus, minus, weigh}
use Rattle.laws.proofs.Numerals.{number-places}
use Rattle.limbs.proofs.Elements.{past, value-of, whole_of, Ranged, ranged-of, small}
use Rattle.reader.specs.Sums.{Says, SaysBytes}

-- ---- what four limbs keep

kept : (x : ℕ) → element_of x ≡ element_of (x % 2 ^ 256)
kept x = ap element_of (sym (mod-add-div x (2 ^ 256))) ∙ past (x % 2 ^ 256) (x / 2 ^ 256)

pub value-mod : (x : ℕ) → value_of (element_of x) ≡ x % 2 ^ 256
value-mod x = ap value_of (kept x) ∙ value-of (x % 2 ^ 256) (mod-lt x (lit< tt))

pub same-mod : (x y : ℕ) → x % 2 ^ 256 ≡ y % 2 ^ 256 → element_of x ≡ element_of y
same-mod x y e = kept x ∙ ap element_of e ∙ sym (kept y)

-- one limb
pub one-limb : (n : ℕ) → value_of (record { l0 = n; l1 = 0; l2 = 0; l3 = 0 }) ≡ n
unfolding value_of number
one-limb n = add-zero n

-- ---- doubled once more

pub double-more : (v i : ℕ) (r : Element) → r ≡ element_of (2 ^ i * v) → element_of (value_of r + value_of r) ≡ element_of (2 ^ (i + 1) * v)
double-more v i r e =
    let x : ℕ = 2 ^ i * v in
    let f : value_of r ≡ x % 2 ^ 256 = ap value_of e ∙ value-mod x in
    let g : x + x ≡ 2 ^ (i + 1) * v = rw (add-one i, pow-succ' 2 i, mul_assoc 2 (2 ^ i) v) (omega arith) in
    rw f (same-mod (x % 2 ^ 256 + x % 2 ^ 256) (2 ^ (i + 1) * v) (sym (add-mod x x (2 ^ 256)) ∙ ap (λ (y : ℕ). y % 2 ^ 256) g))

-- ---- a digit added or taken away

pub taken-away : (v : ℕ) (d : ℤ) → lt_z d (pos 0) ≡ true → element_of (v + 2 ^ 256 - nat_abs d) ≡ element_of (v + 2 ^ 256 + plus d - minus d)
taken-away v (pos n) h = absurd (omega (arith, ltb-true n 0 h))
taken-away v (negsuc n) h = ap element_of (same (2 ^ 256))
  where
    same : (M : ℕ) → v + M - suc n ≡ v + M + 0 - suc n
    same M = omega arith

pub added : (v : ℕ) (d : ℤ) → lt_z d (pos 0) ≡ false → element_of (v + nat_abs d) ≡ element_of (v + 2 ^ 256 + plus d - minus d)
added v (pos n) h = sym (ap element_of (moved (2 ^ 256)) ∙ past (v + n) 1)
  where
    moved : (M : ℕ) → v + M + n - 0 ≡ v + n + M * 1
    moved M = omega arith
added v (negsuc n) h = let w : ◌≡◌ {A = ℕ} 0 1 = cc in absurd (omega arith)

-- ---- a place more

-- M any modulus; B times what stands above, and then a digit of a above 0 or b below it
place-more : (M B v m p a b : ℕ) → b ≤ M → (v + m) % M ≡ p % M → ((B * v % M + M + a - b) % M + (b + B * m)) % M ≡ (a + B * p) % M
place-more M B v m p a b h e =
    let u : ℕ = B * v % M in
    let s : u + M + a - b + (b + B * m) ≡ u + (a + B * m) + M = omega arith in
    let t : B * v + (a + B * m) ≡ B * (v + m) + a = rw (mul-add B v m) (omega arith) in
    mod-add-mod (u + M + a - b) M (b + B * m)
    ∙ ap (λ (x : ℕ). x % M) s
    ∙ add-mod_right (u + (a + B * m)) M
    ∙ mod-add-mod (B * v) M (a + B * m)
    ∙ ap (λ (x : ℕ). x % M) t
    ∙ sym (mod-add-mod (B * (v + m)) M a)
    ∙ ap (λ (x : ℕ). (x + a) % M) (sym (mul-mod-mod M B (v + m)) ∙ ap (λ (x : ℕ). B * x % M) e ∙ mul-mod-mod M B p)
    ∙ mod-add-mod (B * p) M a
    ∙ ap (λ (x : ℕ). x % M) (add_comm (B * p) a)

-- ---- the sum of a row, from its highest place down

pub says_none : (w : ℕ) (row : List ℤ) → Says w (drop (length row) row) (record { l0 = 0; l1 = 0; l2 = 0; l3 = 0 })
unfolding element_of value_of number weigh
says_none w row = rw (drop-length row) (record { whole = refl; balance = refl })

-- x is q doubled w times, r is x with the digit at place i - 1
module _ (w : ℕ) (row : List ℤ) (i : ℕ) (some : 0 < i) (le : i ≤ length row) (q x r : Element) (s : Says w (drop i row) q) where
  d : ℤ
  d = digit row (i - 1)

  pub says-more : x ≡ element_of (2 ^ w * value_of q) → mag (digit row (i - 1)) < 128
      → r ≡ element_of (value_of x + 2 ^ 256 + plus (to_z w8 (of_z w8 (digit row (i - 1)))) - minus (to_z w8 (of_z w8 (digit row (i - 1)))))
      → Says w (drop (i - 1) row) r
  unfolding weigh d
  says-more e lt f =
      let k : suc (i - 1) ≡ i = omega arith in
      let l : drop (i - 1) row ≡ d ∷ drop i row = drop-cons row (i - 1) (pos 0) (omega arith) ∙ ap (λ (n : ℕ). d ∷ drop n row) k in
      let y : ℕ = value_of x + 2 ^ 256 + plus d - minus d in
      let v : value_of x ≡ 2 ^ w * value_of q % 2 ^ 256 = ap value_of e ∙ value-mod (2 ^ w * value_of q) in
      let g : r ≡ element_of y = f ∙ ap (λ (z : ℤ). element_of (value_of x + 2 ^ 256 + plus z - minus z)) (to_z-of_z {w = w8} {z = d} (record { sfits = lt })) in
      rw l
      (record {
        whole = g ∙ sym (whole_of y) ∙ ap (λ (z : Element). element_of (value_of z)) (sym g);
        balance =
            rw (g, value-mod y, v)
            (place-more (2 ^ 256) (2 ^ w) (value_of q) (weigh minus (2 ^ w) (drop i row)) (weigh plus (2 ^ w) (drop i row)) (plus d) (minus d)
            (le_trans (minus-le d lt) (lit≤ tt)) s.balance);
      })
    where
      minus-le : (d : ℤ) → mag d < 128 → minus d ≤ 128
      minus-le (pos n) h = omega arith
      minus-le (negsuc n) h = h

pub says_all : (w : ℕ) (row : List ℤ) (i : ℕ) (q : Element) → i ≤ 0 → Says w (drop i row) q → Says w row q
says_all w row i q h s = let z : i ≡ 0 = omega arith in subst (λ (n : ℕ). Says w (drop n row) q) z s

-- the bytes of what it sums to
pub says-bytes : (w : ℕ) (row : List ℤ) (e : Element) → Says w row e → (bytes : List ℕ) → bytes ≡ places 256 32 (value_of e) → SaysBytes w row bytes
says-bytes w row e s bytes is =
    let l : value_of e < 2 ^ 256 = small e (subst Ranged (sym s.whole) (ranged-of (value_of e))) in
    let m : number 256 bytes ≡ value_of e = ap (number 256) is ∙ number-places 8 32 (value_of e) l in
    record { whole = is ∙ ap (places 256 32) (sym m); small = rw m l; balance = rw m s.balance }
