-- The bytes of four limbs, one by one, and the limbs of 32 bytes.
use mathlib.Core.Path.{◌≡◌, sym, ap, ◌∙◌}
use mathlib.Core.List.{List}
use Prim.Native.Nat.{ℕ, zero, suc, ◌+◌, ◌*◌, ◌/◌, ◌%◌, ◌^◌, ◌<◌}
use native.Mathlib.Omega.{arith}
use native.Mathlib.Nat.{add-zero}
use lib.ListN.{length, get_or, take, drop}
use lib.Seq.{ext_get_or}
use Rattle.rules.specs.declared.Element.{Element}
use Rattle.rules.specs.Values.{number, places, limb, limbs_of, value_of, element_of, element_at, Below}
use Rattle.laws.proofs.Numerals.{part-split, places-length, places-at}
use Rattle.limbs.proofs.Elements.{Ranged, whole}

-- the limbs of an element that is read from limbs below their bound
pub read_below : (l : List ℕ) → Below limb l → Below limb (limbs_of (element_at l 0))
unfolding element_at
read_below l b zero = b _
read_below l b (suc zero) = b _
read_below l b (suc (suc zero)) = b _
read_below l b (suc (suc (suc zero))) = b _
read_below l b (suc (suc (suc (suc i)))) = omega arith

-- 32 bytes of n
pub bytes-are : (n : ℕ) (l : List ℕ) → length l ≡ 32 → ((k : ℕ) → k < 32 → get_or l k 0 ≡ n / 2 ^ (8 * k) % 256) → l ≡ places 256 32 n
bytes-are n l long h =
    ext_get_or 0 l (places 256 32 n) (long ∙ sym (places-length 256 32 n))
    (λ k q. h k (omega (arith, long)) ∙ sym (places-at 8 32 n k (omega (arith, long))))

-- eight bytes from place k on
abbrev eight : List ℕ → ℕ → ℕ
eight l k = number 256 (take 8 (drop k l))

-- four limbs, each of eight bytes
pub element-is : (l : List ℕ) (e : Element) → Ranged e → e.l0 ≡ eight l 0 → e.l1 ≡ eight l 8 → e.l2 ≡ eight l 16 → e.l3 ≡ eight l 24
    → e ≡ element_of (number 256 (take 32 l))
unfolding value_of number
element-is l e r e₀ e₁ e₂ e₃ = sym (whole e r) ∙ ap element_of says
  where
    says : value_of e ≡ number 256 (take 32 l)
    says =
        let f₀ : number 256 (take 32 l) ≡ eight l 0 + limb * number 256 (take 24 (drop 8 l)) = part-split 256 l 8 24 0 in
        let f₁ : number 256 (take 24 (drop 8 l)) ≡ eight l 8 + limb * number 256 (take 16 (drop 16 l)) = part-split 256 l 8 16 8 in
        let f₂ : number 256 (take 16 (drop 16 l)) ≡ eight l 16 + limb * eight l 24 = part-split 256 l 8 8 16 in
        rw (add-zero e.l3, e₀, e₁, e₂, e₃, f₀, f₁, f₂)
