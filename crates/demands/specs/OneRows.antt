-- What each contract says, and so one result: rows, windows, laying, the walk.
use Rattle.rules.specs.Helpers.{filled, filled_slot, laid_rows, laid_windows, looked_up, made, made_odd, made_successive, walked}
use Rattle.rules.specs.Rows.{naf_of, naf_row_of, radix_of, radix_row_of, read_naf, read_radix, used_places}
use Rattle.rules.specs.Windows.{lookup_table, naf_lookup_table5, naf_lookup_table8, select, select_naf}
use Rattle.rules.specs.Results.{as_row, as_scalar_bytes, as_value, as_window}
use Rattle.rules.specs.Claims.{Says}
use Rattle.arguments.proofs.Contracts.{says}

-- scalar
pub one-scalar-naf-row : Says Rattle.scalar.proofs.naf_row.Reads.Post (λ κ (scalar, (w, _)). naf_row_of scalar.now w) (λ κ r _. r)
one-scalar-naf-row = says

pub one-scalar-non-adjacent-form : Says Rattle.scalar.proofs.non_adjacent_form.Reads.Post (λ κ (scalar, (w, _)). naf_of scalar.now w) (λ κ r _. as_row 256 r)
one-scalar-non-adjacent-form = says

-- radix
pub one-radix-to-radix-2w-size-hint : Says Rattle.radix.proofs.to_radix_2w_size_hint.Reads.Post (λ κ (w, _). used_places w) (λ κ r _. r)
one-radix-to-radix-2w-size-hint = says

pub one-radix-radix-row : Says Rattle.radix.proofs.radix_row.Reads.Post (λ κ (scalar, (w, _)). radix_row_of scalar.now w) (λ κ r _. r)
one-radix-radix-row = says

pub one-radix-as-radix-2w : Says Rattle.radix.proofs.as_radix_2w.Reads.Post (λ κ (scalar, (w, _)). radix_of scalar.now w) (λ κ r _. as_row 64 r)
one-radix-as-radix-2w = says

pub one-radix-as-radix-16 : Says Rattle.radix.proofs.as_radix_16.Reads.Post (λ κ (scalar, _). radix_of scalar.now 4) (λ κ r _. as_row 64 r)
one-radix-as-radix-16 = says

-- reader
pub one-reader-read-naf : Says Rattle.reader.proofs.read_naf.Reads.Post (λ κ (row, (w, _)). read_naf row.now w) (λ κ r _. as_scalar_bytes r)
one-reader-read-naf = says

pub one-reader-read-radix : Says Rattle.reader.proofs.read_radix.Reads.Post (λ κ (row, (w, _)). read_radix row.now w) (λ κ r _. as_scalar_bytes r)
one-reader-read-radix = says

-- window
pub one-window-make-successive : Says Rattle.window.proofs.make_successive.Reads.Post (λ κ (p, (part, _)). made_successive 8 p part.now) (λ κ r (_, (part, _)). made r part.now)
one-window-make-successive = says

pub one-window-make-odd8 : Says Rattle.window.proofs.make_odd8.Reads.Post (λ κ (p, (part, _)). made_odd 8 p part.now) (λ κ r (_, (part, _)). made r part.now)
one-window-make-odd8 = says

pub one-window-make-odd64 : Says Rattle.window.proofs.make_odd64.Reads.Post (λ κ (p, (part, _)). made_odd 64 p part.now) (λ κ r (_, (part, _)). made r part.now)
one-window-make-odd64 = says

pub one-window-lookup-table : Says Rattle.window.proofs.lookup_table.Reads.Post (λ κ (point, _). lookup_table point.now) (λ κ r _. as_window 8 r)
one-window-lookup-table = says

pub one-window-naf-lookup-table5 : Says Rattle.window.proofs.naf_lookup_table5.Reads.Post (λ κ (point, _). naf_lookup_table5 point.now) (λ κ r _. as_window 8 r)
one-window-naf-lookup-table5 = says

pub one-window-naf-lookup-table8 : Says Rattle.window.proofs.naf_lookup_table8.Reads.Post (λ κ (point, _). naf_lookup_table8 point.now) (λ κ r _. as_window 64 r)
one-window-naf-lookup-table8 = says

-- lookup
pub one-lookup-looked-up : Says Rattle.lookup.proofs.looked_up.Reads.Post (λ κ (window, (d, _)). looked_up 8 window.now d) (λ κ r _. r)
one-lookup-looked-up = says

pub one-lookup-select : Says Rattle.lookup.proofs.select.Reads.Post (λ κ (window, (d, _)). select window.now d) (λ κ r _. as_value r)
one-lookup-select = says

pub one-lookup-select-naf5 : Says Rattle.lookup.proofs.select_naf5.Reads.Post (λ κ (window, (d, _)). select_naf 8 window.now d) (λ κ r _. as_value r)
one-lookup-select-naf5 = says

pub one-lookup-select-naf8 : Says Rattle.lookup.proofs.select_naf8.Reads.Post (λ κ (window, (d, _)). select_naf 64 window.now d) (λ κ r _. as_value r)
one-lookup-select-naf8 = says

-- laying
pub one-laying-rows : Says Rattle.laying.proofs.rows.Reads.Post (λ κ (scalars, (n, (kind, (digits, _)))). laid_rows kind scalars.now n digits.now) (λ κ _ (_, (_, (_, (digits, _)))). digits.now)
one-laying-rows = says

pub one-laying-windows : Says Rattle.laying.proofs.windows.Reads.Post (λ κ (points, (n, (kind, (limbs, _)))). laid_windows kind points.now n limbs.now) (λ κ r (_, (_, (_, (limbs, _)))). made r limbs.now)
one-laying-windows = says

pub one-laying-fill-slot : Says Rattle.laying.proofs.fill_slot.Reads.Post (λ κ (scalar, (point, (row, (window, _)))). filled_slot scalar.now point row.now window.now) (λ κ r (_, (_, (row, (window, _)))). filled r row.now window.now)
one-laying-fill-slot = says

-- columns
pub one-columns-walk : Says Rattle.columns.proofs.walk.Reads.Post (λ κ (digits, (windows, (static-digits, (tables, (places, _))))). walked digits.now windows.now static-digits.now tables.now places) (λ κ r _. r)
one-columns-walk = says
