-- What a recoding refuses, test by test.
use borrow.Author.Tests.{ne_eqb, lt-ltb, le-ltb}
use Rattle.rules.specs.Numbers.{as_number, first, number_of}
use Rattle.rules.specs.Rows.{not_long, rowless, recode_refusal}
use Rattle.bits.proofs.Refusals.{too-low, too-high, within, is-long, top-test}
use Rattle.bits.proofs.refusal.recode_refusal.Goals as goal

pub returns-then-scalar-ne32 : goal.returns-then-scalar-ne32
unfolding recode_refusal first not_long as_number number_of
returns-then-scalar-ne32 c = rw (ne_eqb _ 32 c.if-scalar-ne32.true)

pub returns-then-w-low : goal.returns-then-w-low
unfolding recode_refusal first as_number number_of
returns-then-w-low c = rw (is-long 32 _ c.if-scalar-ne32.false, too-low _ _ c.if-w-low.true)

pub returns-then-w-gt8 : goal.returns-then-w-gt8
unfolding recode_refusal first as_number number_of
returns-then-w-gt8 c = rw (is-long 32 _ c.if-scalar-ne32.false, too-high _ _ c.if-w-gt8.true)

-- past the tests of the length and the width the top byte decides
pub returns-then-scalar-gt-TOP : goal.returns-then-scalar-gt-TOP
unfolding recode_refusal first rowless as_number number_of
returns-then-scalar-gt-TOP c = rw (is-long 32 _ c.if-scalar-ne32.false, within _ _ c.if-w-low.false c.if-w-gt8.false, top-test _ (λ i. (c.type_inv.scalar i).fits) c.if-scalar-ne32.false, lt-ltb 127 _ c.if-scalar-gt-TOP.true)

pub returns : goal.returns
unfolding recode_refusal first rowless as_number number_of
returns c = rw (is-long 32 _ c.if-scalar-ne32.false, within _ _ c.if-w-low.false c.if-w-gt8.false, top-test _ (λ i. (c.type_inv.scalar i).fits) c.if-scalar-ne32.false, le-ltb 127 _ c.if-scalar-gt-TOP.false)
