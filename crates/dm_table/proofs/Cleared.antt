-- Rows without those that share a key with another.
use Rattle.std.proofs.Common.{◌≡◌, Bool, true, false, cond, not, ◌||◌, List, Option, Some, None, refl, sym, ap, ◌∙◌}
use Rattle.std.specs.Option.{option_map_or}
use Rattle.std.specs.List.{list_any, filter}
use Rattle.std.specs.FinMap as fin
use Rattle.std.specs.FinMap.{get-remove, same_map}
use Rattle.dm_value.proofs.OrderLemmas.{row_total, row_exact}
use Rattle.dm_schema.specs.Layout.{Layout}
use Rattle.dm_table.specs.Contents.{Row, RowMap, same_row, share_unique}
use Rattle.dm_schema.specs.Names.{Text}
use Rattle.dm_schema.specs.Rows.{key_of}
use Rattle.dm_table.specs.declared.op.RowOp.{RowOp}
use Rattle.dm_table.specs.declared.op.RowOp.TheVariants as op
use Rattle.dm_table.specs.Operations.{effect, left_row, with_row, without_sharing}
use Rattle.dm_table.specs.Staging.{removed_all}
use Rattle.dm_table.proofs.Filtered.{kept, get-filter, same_turned}
use Rattle.dm_table.proofs.Room.{get-removed_all}

-- with the key's row they are all that share
pub cleared : (layout : Layout) (row key : Row) (m after : RowMap) (keys : List Row) → ((q : Row) → list_any (same_row q) keys ≡ option_map_or (share_unique layout row) (fin.get m q) false) → after ≡ removed_all keys (fin.remove m key)
    → after ≡ fin.from_entries (filter (λ e. not (same_row key e.0 || share_unique layout row e.1)) (fin.entries m))
cleared layout row key m after keys told removed = removed ∙ same_map row_total row_exact (removed_all keys (fin.remove m key)) (fin.from_entries (filter passes (fin.entries m))) (λ q.
    get-removed_all keys (fin.remove m key) q ∙ ap (λ b. cond b None (fin.get (fin.remove m key) q)) (told q) ∙ ap (cond (option_map_or (share_unique layout row) (fin.get m q) false) None) (get-remove row_total m key q)
    ∙ ap (λ b. cond (option_map_or (share_unique layout row) (fin.get m q) false) None (cond b None (fin.get m q))) (same_turned q key) ∙ by q (fin.get m q) ∙ sym (get-filter passes m q)) where
      passes : Row × Row → Bool
      passes e = not (same_row key e.0 || share_unique layout row e.1)

      both : (a b : Bool) (r : Row) → cond b None (cond a None (Some r)) ≡ cond (not (a || b)) (Some r) None
      both true true r = refl
      both true false r = refl
      both false true r = refl
      both false false r = refl

      by : (q : Row) (o : Option Row) → cond (option_map_or (share_unique layout row) o false) None (cond (same_row key q) None o) ≡ kept passes q o
      by q None = none (same_row key q) where
        none : (b : Bool) → cond {A = Option Row} b None None ≡ None
        none true = refl
        none false = refl
      by q (Some r) = both (same_row key q) (share_unique layout row r) r

-- a replaced row, in two steps
pub replaced : (layout : Layout) (o : RowOp) (rows cleared now : RowMap) (columns : List Text) (values key row : Row) → o ≡ op.Replace columns values → row ≡ left_row layout o rows → key ≡ key_of layout row
    → cleared ≡ fin.from_entries (filter (λ e. not (same_row key e.0 || share_unique layout row e.1)) (fin.entries rows)) → now ≡ with_row layout row cleared → now ≡ effect layout o rows
replaced layout o rows cleared now columns values key row is left key_is without put =
    put ∙ ap (with_row layout row) (without ∙ ap (λ (k : Row). fin.from_entries (filter (λ e. not (same_row k e.0 || share_unique layout row e.1)) (fin.entries rows))) key_is)
    ∙ ap (λ (r : Row). with_row layout r (without_sharing layout r rows)) (left ∙ ap (λ (p : RowOp). left_row layout p rows) is) ∙ ap (λ (p : RowOp). effect layout p rows) (sym is)
