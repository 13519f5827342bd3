-- What an operation that isn't refused tells.
use Rattle.std.proofs.Common.{◌≡◌, Bool, true, false, not, ◌&&◌, [], ◌∷◌, Option, Some, None, Ok, refl, sym, ◌∙◌}
use Rattle.std.specs.Prelude.{is_none}
use Rattle.std.specs.List.{list_all}
use Rattle.std.specs.Option.{option_or}
use Rattle.dm_list.specs.Answer.{first_refusal, unless_refused}
use Rattle.dm_schema.specs.Layout.{Layout}
use Rattle.dm_schema.specs.Keys.{key_number}
use Rattle.dm_schema.specs.NameOrder.{columns_in_order, uniques_in_order}
use Rattle.dm_table.specs.declared.op.RowOp.{RowOp}
use Rattle.dm_table.specs.declared.fault.TableFault.{TableFault}
use Rattle.dm_table.specs.declared.fault.TableFault.TheVariants as fault
use Rattle.dm_table.specs.Contents.{RowMap}
use Rattle.dm_table.specs.Operations.{refusals, effect, applied, names_in_order, columns_of, left_row, is_unfit, needs_row, needs_room, old_row, is_unique_taken}
use Rattle.dm_table.specs.Judging.{unknown_refusals, unfit_refusals, missing_refusals, primary_refusals, unique_refusals}
use Rattle.dm_table.proofs.Refusing.{in_parts, refusals_in_parts}
use Rattle.dm_table.proofs.ListTests.{none_holds, list_all-in_order_of}

pub not_refused : {T E : Type 0} (o : Option E) (v w : T) → unless_refused o v ≡ Ok w → (o ≡ None) × (v ≡ w)
not_refused None v w e = (refl, cc e)
not_refused (Some fault) v w e = absurd (cc e)

pub neither : {E : Type 0} (a b : Option E) → option_or a b ≡ None → (a ≡ None) × (b ≡ None)
neither None b e = (refl, e)
neither (Some x) b e = absurd (cc e)

module _ (layout : Layout) (o : RowOp) (rows after : RowMap) (goes : applied layout o rows ≡ Ok after) where
  none : in_parts layout o rows (left_row layout o rows) ≡ None
  none = refusals_in_parts layout o rows (left_row layout o rows) refl ∙ (not_refused (first_refusal (refusals layout o rows)) (effect layout o rows) after goes).0

  pub leaves : effect layout o rows ≡ after
  leaves = (not_refused (first_refusal (refusals layout o rows)) (effect layout o rows) after goes).1

  abbrev unknown : Option TableFault
  unknown = first_refusal (unknown_refusals layout.columns (names_in_order (columns_of o)))

  abbrev unfit : Option TableFault
  unfit = first_refusal (unfit_refusals layout o (columns_in_order layout.columns))

  abbrev missing : Option TableFault
  missing = first_refusal (missing_refusals o rows)

  abbrev primary : Option TableFault
  primary = first_refusal (primary_refusals layout o rows (left_row layout o rows))

  abbrev uniques : Option TableFault
  uniques = first_refusal (unique_refusals layout o rows (left_row layout o rows) (uniques_in_order layout.uniques))

  behind_unknown : option_or unfit (option_or missing (option_or primary uniques)) ≡ None
  behind_unknown = (neither unknown (option_or unfit (option_or missing (option_or primary uniques))) none).1

  behind_unfit : option_or missing (option_or primary uniques) ≡ None
  behind_unfit = (neither unfit (option_or missing (option_or primary uniques)) behind_unknown).1

  pub all_fit : list_all (λ c. not (is_unfit layout o c)) layout.columns ≡ true
  all_fit =
      sym (list_all-in_order_of (λ c. not (is_unfit layout o c)) (λ c. c.name) layout.columns)
      ∙ none_holds (is_unfit layout o) (λ c. fault.Unfit c.name) (columns_in_order layout.columns) (neither unfit (option_or missing (option_or primary uniques)) behind_unknown).0

  pub is_there : (needs_row o && is_none (old_row o rows)) ≡ false
  is_there = by (needs_row o && is_none (old_row o rows)) (neither missing (option_or primary uniques) behind_unfit).0 where
    by : (b : Bool) → first_refusal ((b, fault.Missing) ∷ []) ≡ None → b ≡ false
    by true e = absurd (cc e)
    by false e = refl

  pub none_taken : list_all (λ key. not (needs_room o && is_unique_taken layout o rows (left_row layout o rows) key)) layout.uniques ≡ true
  none_taken =
      sym (list_all-in_order_of (λ key. not (needs_room o && is_unique_taken layout o rows (left_row layout o rows) key)) (λ k. k.name) layout.uniques)
      ∙ none_holds (λ key. needs_room o && is_unique_taken layout o rows (left_row layout o rows) key) (λ key. fault.Duplicate (key_number layout.uniques key)) (uniques_in_order layout.uniques)
      (neither primary uniques (neither missing (option_or primary uniques) behind_unfit).1).1
