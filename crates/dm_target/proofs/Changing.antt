-- A change of one table of a program's map, as one of the finite map.
use Rattle.std.proofs.Common.{◌≡◌, true, false, List, Option, Some, None, Result, Ok, Err, refl, sym, ap, subst, ◌∙◌}
use Rattle.std.specs.Prelude.{⊤, IfOk, IfErr, MatchBool, is_some}
use Rattle.std.specs.BTreeMap.{BTreeMap, UpdatesBy, WritesThrough, get, is_at}
use Rattle.std.specs.FinMap as fin
use Rattle.std.proofs.lemmas.Map.Steps.{set_value_same}
use Rattle.dm_schema.specs.declared.table_name.TableName.{TableName}
use Rattle.dm_schema.specs.Layout.{Layout}
use Rattle.dm_table.specs.declared.fault.TableFault.{TableFault}
use Rattle.dm_table.specs.declared.fault.TableFault.TheVariants as fault
use Rattle.dm_table.specs.Contents.{TableContent, new_table}
use Rattle.dm_table.specs.Judging.{is_memory}
use Rattle.dm_target.specs.Contents.{table_name_cmp, created, if_there}
use Rattle.dm_target.specs.Maps.{TableMap, tables_with, Changes}
use Rattle.dm_target.proofs.Entries.{get_kept, inserted}
use Rattle.dm_target.proofs.Orders.{table_name_total, table_name_exact}

abbrev Tables : Type 0
Tables = BTreeMap TableName TableContent

abbrev seen : Tables → TableMap
seen m = fin.from_entries m.entries

pub there_already : (m : Tables) (name : TableName) (layout : Layout) → is_some (get table_name_cmp m name) ≡ true → created (fin.get (seen m) name) layout ≡ Err fault.TableExists
there_already m name layout h = by (fin.get (seen m) name) (ap is_some (sym (get_kept table_name_total m name)) ∙ h) where
  by : (o : Option TableContent) → is_some o ≡ true → created o layout ≡ Err fault.TableExists
  by None e = absurd (cc)
  by (Some table) e = refl

pub made : (m n : Tables) (name key : TableName) (layout copy : Layout) (table : TableContent) → key ≡ name → copy ≡ layout → table ≡ new_table copy → is_some (get table_name_cmp m name) ≡ false →
    UpdatesBy table_name_cmp (table_name_cmp key) m n (Some table) → tables_with (seen m) name (created (fin.get (seen m) name) layout) ≡ Ok (seen n)
made m n name key layout copy table same_name same_layout new h put = by (fin.get (seen m) name) (ap is_some (sym (get_kept table_name_total m name)) ∙ h) where
  there : seen n ≡ fin.insert (seen m) name (new_table layout)
  there = inserted table_name_total table_name_exact m n key table put ∙ ap (λ (k : TableName). fin.insert (seen m) k table) same_name ∙ ap (fin.insert (seen m) name) (new ∙ ap new_table same_layout)

  by : (o : Option TableContent) → is_some o ≡ false → tables_with (seen m) name (created o layout) ≡ Ok (seen n)
  by None e = ap Ok (sym there)
  by (Some table) e = absurd (cc)

-- there is no such table
pub not_there : (m : Tables) (name : TableName) (change : TableContent → Result TableContent TableFault) → get table_name_cmp m name ≡ None → if_there (fin.get (seen m) name) change ≡ Err fault.NoTable
not_there m name change h = ap (λ o. if_there o change) (sym (get_kept table_name_total m name) ∙ h)

-- the table of a name is changed where it stands, or left
pub changed : (m n : Tables) (name : TableName) (before now : TableContent) (change : TableContent → Result TableContent TableFault) (answer : Result (Unit {0}) TableFault) → get table_name_cmp m name ≡ Some before →
    WritesThrough table_name_cmp (table_name_cmp name) m now n → IfOk answer (λ _. change before ≡ Ok now) → IfErr answer (λ f. MatchBool (is_memory f) ⊤ (change before ≡ Err f)) → IfErr answer (λ _. now ≡ before) →
    Changes (if_there (fin.get (seen m) name) change) name (seen m) (seen n) answer
changed m n name before now change answer found writes done refused kept = by answer done refused kept where
  there : if_there (fin.get (seen m) name) change ≡ change before
  there = ap (λ o. if_there o change) (sym (get_kept table_name_total m name) ∙ found)

  by : (answer : Result (Unit {0}) TableFault) → IfOk answer (λ _. change before ≡ Ok now) → IfErr answer (λ f. MatchBool (is_memory f) ⊤ (change before ≡ Err f)) → IfErr answer (λ _. now ≡ before) →
      Changes (if_there (fin.get (seen m) name) change) name (seen m) (seen n) answer
  by (Ok _) d r k =
      ap (tables_with (seen m) name) (there ∙ d) ∙ ap Ok (sym (inserted table_name_total table_name_exact m n name now (writes.3 (ap is_some found))))
  by (Err f) d r k = (
    subst (λ (o : Result TableContent TableFault). MatchBool (is_memory f) ⊤ (o ≡ Err f)) (sym there) r,
    ap (λ (es : List (TableName × TableContent)). fin.from_entries es) (writes.0 ∙ set_value_same (is_at (table_name_cmp name)) m.entries now (found ∙ ap Some (sym k))),
  )
