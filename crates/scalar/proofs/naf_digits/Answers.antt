-- The NAF recoder, goal by goal.
use Rattle.std.proofs.Common.{◌≡◌, ℕ, ◌+◌, ◌/◌, ◌%◌, ◌^◌, ◌<◌, ◌≤◌, List, take, ap, ◌∙◌, arith, to_z-of_z, w8, rules}
use Rattle.rules.specs.Values.{number, Below}
use Rattle.rules.specs.Helpers.{five_words, waiting_bits}
use Rattle.bits.proofs.Waiting.{power-is, scalar-bits}
use Rattle.scalar.proofs.NafTurn.{start, end, window-le, width-le, skip, put_low, put-high, even-bit, odd-bit}
use Rattle.scalar.proofs.naf_digits.Goals as goal
use Rattle.scalar.proofs.naf_digits.Goals.{then-window-width, else-window-width}

-- the window with the carry into it, as the laws say it
window-is :
    (s x : List ℕ) (w pos carry r : ℕ) → pos < 256 → w ≤ 8 → Below 256 s → x ≡ five_words s → r ≡ waiting_bits x pos w →
    carry + r ≡ carry + number 256 (take 32 s) / 2 ^ pos % 2 ^ w
window-is s x w pos carry r l p b e f = ap (λ (y : ℕ). carry + y) (f ∙ scalar-bits x pos w (omega arith) p s b e)

pub loop-pos-init : goal.loop-pos-init
loop-pos-init c = start _ _

pub overflow_add-window : goal.overflow_add-window
overflow_add-window c =
    let p = c.requires in
    let l = c.loop-pos-test.true in
    let i = window-is _ _ _ _ c.loop-pos.carry _ l p.1 (λ i. (c.type_inv.scalar i).fits) c.five_words-x_u64.ensures c.bit_buf.ensures in
    omega (arith, window-le _ p.0 p.1 _ _ _ _ _ c.loop-pos.invariant i l, width-le _ p.0 p.1 _ _ _ _ _ c.loop-pos.invariant i l)

pub loop-pos-preserved-then-window-eq0 : goal.loop-pos-preserved-then-window-eq0
loop-pos-preserved-then-window-eq0 c =
    let p = c.requires in
    let l = c.loop-pos-test.true in
    let i = window-is _ _ _ _ c.loop-pos.carry _ l p.1 (λ i. (c.type_inv.scalar i).fits) c.five_words-x_u64.ensures c.bit_buf.ensures in
    skip _ p.0 p.1 _ _ _ _ _ c.loop-pos.invariant i l (even-bit _ c.if-window-eq0.true)

pub loop-pos-preserved : goal.loop-pos-preserved
loop-pos-preserved c =
    let p = c.requires in
    let l = c.loop-pos-test.true in
    let i = window-is _ _ _ _ c.loop-pos.carry _ l p.1 (λ i. (c.type_inv.scalar i).fits) c.five_words-x_u64.ensures c.bit_buf.ensures in
    let full = power-is _ _ p.1 c.power-width.ensures in
    let odd = odd-bit _ c.if-window-eq0.false in
    elim c.if-window-width.branch [
      | then-window-width t ↦ put_low _ p.0 p.1 _ _ _ _ _ c.loop-pos.invariant i l c.power-width.result full odd _ _ _ t.naf-is t.if-window-width.true (to_z-of_z {w = w8} (search rules) ∙ t.wrapping_digit.ensures) t.carry-is
      | else-window-width t ↦ put-high _ p.0 p.1 _ _ _ _ _ c.loop-pos.invariant i l c.power-width.result full odd _ _ _ t.naf-is t.if-window-width.false (to_z-of_z {w = w8} (search rules) ∙ t.wrapping_digit-else-window-width.ensures) t.carry-is
    ]

pub returns : goal.returns
returns c = end _ _ _ _ _ c.loop-pos.invariant c.loop-pos-test.false
