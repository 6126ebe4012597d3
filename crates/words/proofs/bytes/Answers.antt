-- The 32 bytes of four limbs, each in its limb.
use Rattle.std.proofs.Common.{◌≡◌, ℕ, ◌*◌, ◌/◌, ◌%◌, ◌^◌, List, get_or, refl, sym, ap, ◌∙◌, subst, arith, rules, tests}
use Rattle.rules.specs.declared.Element.{Element}
use Rattle.rules.specs.Values.{number, places, limb, limbs_of, value_of, element_at, point_at, Below}
use Rattle.words.proofs.Turns.{read_below, bytes-are}
use Rattle.words.proofs.Eight.{each-is}
use Rattle.words.proofs.LimbBits.{byte-in}
use Rattle.words.proofs.bytes.Goals as goal

-- what is taken apart: the limbs of the first element
limbs-are : {x : List ℕ} {e : Element} (l : List ℕ) → x ≡ limbs_of e → e ≡ element_at l 0 → x ≡ limbs_of (element_at l 0)
limbs-are l p q = p ∙ ap (λ (e : Element). limbs_of e) q

pub returns : goal.returns
unfolding point_at value_of
returns c =
    let x : List ℕ = c.array-x.result in
    let ys : List ℕ = c.from_fn.result in
    let e : x ≡ limbs_of (element_at c.args.list.now 0) = limbs-are _ c.array-x.ensures c.element_at.ensures in
    let b : Below limb x = subst (Below limb) (sym e) (read_below _ (λ i. (c.type_inv.list i).fits)) in
    bytes-are (number limb x) ys c.from_fn.ensures.items.long
    (λ k h. each-is _ (λ (k : ℕ). get_or x (k / 8) 0 / 2 ^ (8 * (k % 8)) % 256) _ (λ k b q r. search (rules, tests)) ys 0 32 _ refl c.from_fn.ensures.items.each k (omega arith) (omega arith) ∙ byte-in x b k)
    ∙ ap (λ (x : List ℕ). places 256 32 (number limb x)) e
