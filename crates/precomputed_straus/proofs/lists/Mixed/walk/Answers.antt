-- The rows and windows are laid and walked; the counts of both are joined.
use Rattle.precomputed_straus.proofs.MixedRows.{few-additions, few-doublings, mixed-walk}
use Rattle.precomputed_straus.proofs.lists.Mixed.walk.Goals as goal

pub overflow_add-result : goal.overflow_add-result
overflow_add-result c = record { fits = few-additions _ _ _ _ _ _ c.requires c.rows.ensures c.rows.auto.digits c.rows-2.ensures c.windows-made.ensures c.walk-w.ensures }

pub overflow_add-result-2 : goal.overflow_add-result-2
overflow_add-result-2 c = record { fits = few-doublings _ _ _ _ _ _ c.requires c.rows.ensures c.rows.auto.digits c.rows-2.ensures c.windows-made.ensures c.walk-w.ensures }

pub returns : goal.returns
returns c = mixed-walk _ _ _ _ _ _ c.requires c.rows.ensures c.rows.auto.digits c.rows-2.ensures c.windows-made.ensures c.walk-w.ensures
