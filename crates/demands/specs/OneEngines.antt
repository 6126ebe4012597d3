-- What each contract says, and so one result: engines and batches.
use Rattle.rules.specs.Batch.{after_edit, clear_slot, memory_of, prepare, set_slot, total_of}
use Rattle.rules.specs.Engines.{after, after_new, double, mixed, naf_straus, new_tables, pippenger, radix_straus, single}
use Rattle.rules.specs.Results.{as_counted, as_sum}
use Rattle.rules.specs.Claims.{Says}
use Rattle.arguments.proofs.Contracts.{says}

-- variable_base
pub one-variable-base-mul : Says Rattle.variable_base.proofs.mul.Reads.Post (λ κ (point, (scalar, _)). single point.now scalar.now) (λ κ r _. as_sum r)
one-variable-base-mul = says

-- vartime_double_base
pub one-vartime-double-base-mul : Says Rattle.vartime_double_base.proofs.mul.Reads.Post (λ κ (a, (point, (b, _))). double a.now point.now b.now) (λ κ r _. as_sum r)
one-vartime-double-base-mul = says

-- straus
pub one-straus-multiscalar-mul : Says Rattle.straus.proofs.multiscalar_mul.Reads.Post (λ κ (scalars, (points, (digits, (limbs, _)))). radix_straus scalars.now points.now digits.now limbs.now) (λ κ r (_, (_, (digits, (limbs, _)))). after (as_sum r) digits.now limbs.now)
one-straus-multiscalar-mul = says

pub one-straus-optional-multiscalar-mul : Says Rattle.straus.proofs.optional_multiscalar_mul.Reads.Post (λ κ (scalars, (points, (flags, (digits, (limbs, _))))). naf_straus scalars.now points.now flags.now digits.now limbs.now) (λ κ r (_, (_, (_, (digits, (limbs, _))))). after (as_sum r) digits.now limbs.now)
one-straus-optional-multiscalar-mul = says

-- precomputed_straus
pub one-precomputed-straus-new : Says Rattle.precomputed_straus.proofs.new.Reads.Post (λ κ (points, (tables, _)). new_tables points.now tables.now) (λ κ r (_, (tables, _)). after_new (as_counted r) tables.now)
one-precomputed-straus-new = says

pub one-precomputed-straus-optional-mixed-multiscalar-mul : Says Rattle.precomputed_straus.proofs.optional_mixed_multiscalar_mul.Reads.Post (λ κ (tables, (static-scalars, (dynamic-scalars, (dynamic-points, (dynamic-flags, (digits, (limbs, _))))))). mixed tables.now static-scalars.now dynamic-scalars.now dynamic-points.now dynamic-flags.now digits.now limbs.now) (λ κ r (_, (_, (_, (_, (_, (digits, (limbs, _))))))). after (as_sum r) digits.now limbs.now)
one-precomputed-straus-optional-mixed-multiscalar-mul = says

-- pippenger
pub one-pippenger-optional-multiscalar-mul : Says Rattle.pippenger.proofs.optional_multiscalar_mul.Reads.Post (λ κ (scalars, (points, (flags, (digits, (buckets, _))))). pippenger scalars.now points.now flags.now digits.now buckets.now) (λ κ r (_, (_, (_, (digits, (buckets, _))))). after (as_sum r) digits.now buckets.now)
one-pippenger-optional-multiscalar-mul = says

-- batch
pub one-batch-prepare : Says Rattle.batch.proofs.prepare.Reads.Post (λ κ (scalars, (points, (flags, (digits, (windows, _))))). prepare scalars.now points.now flags.now (memory_of digits.now windows.now)) (λ κ r (_, (_, (_, (digits, (windows, _))))). after_edit (as_counted r) digits.now windows.now)
one-batch-prepare = says

pub one-batch-set : Says Rattle.batch.proofs.set.Reads.Post (λ κ (digits, (windows, (slot, (scalar, (point, _))))). set_slot (memory_of digits.now windows.now) slot scalar.now point) (λ κ r (digits, (windows, _)). after_edit (as_counted r) digits.now windows.now)
one-batch-set = says

pub one-batch-clear : Says Rattle.batch.proofs.clear.Reads.Post (λ κ (digits, (windows, (slot, _))). clear_slot (memory_of digits.now windows.now) slot) (λ κ r (digits, (windows, _)). after_edit (as_counted r) digits.now windows.now)
one-batch-clear = says

pub one-batch-total : Says Rattle.batch.proofs.total.Reads.Post (λ κ (digits, (windows, _)). total_of (memory_of digits.now windows.now)) (λ κ r _. as_sum r)
one-batch-total = says
