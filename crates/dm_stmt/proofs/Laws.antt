-- What follows for the texts of records: the columns of a row are those that it names, a text ends in a line end, and no table
-- counts but the record's own.
use Rattle.std.proofs.Common.{◌≡◌, ℕ, ◌+◌, ◌≤◌, Bool, true, false, cond, not, ◌&&◌, ◌||◌, List, [], ◌∷◌, ◌++◌, map, length, Option, Some, None, refl, sym, ap, ◌∙◌, append_assoc, length-append, arith}
use Rattle.std.specs.Prelude.{codes}
use Rattle.std.specs.Cmp.Lexicographic.{same_text}
use Rattle.std.specs.List.{flat_map, list_all, cons_option}
use Rattle.std.specs.Option.{option_map_or}
use Rattle.std.specs.Ordering.{eq_by_cmp}
use Rattle.std.specs.FinMap as fin
use Rattle.std.specs.FinMap.{get-insert}
use Rattle.std.proofs.lemmas.Bool.{and_parts, false≢true}
use Rattle.std.proofs.lemmas.Cmp.{eq_by_cmp_equiv}
use Rattle.dm_schema.specs.declared.column.Column.{Column}
use Rattle.dm_schema.specs.declared.table_name.TableName.{TableName}
use Rattle.dm_schema.specs.Layout.{Layout}
use Rattle.dm_schema.specs.Names.{Text, same_name, column_at, column_names, has_column}
use Rattle.dm_schema.specs.Schemas.{all_columns}
use Rattle.dm_text.specs.Names.{table_name_text}
use Rattle.dm_text.specs.Columns.{parts_text}
use Rattle.dm_target.specs.Contents.{table_name_cmp}
use Rattle.dm_stmt.specs.declared.record.Record.{Record}
use Rattle.dm_stmt.specs.declared.record.Record.TheVariants as record_of
use Rattle.dm_stmt.specs.Known.{KnownMap, schema_in}
use Rattle.dm_target.specs.Asking.{is_meta_table}
use Rattle.dm_stmt.specs.Records.{are_ops, is_empty, is_record, is_written_change}
use Rattle.dm_stmt.specs.Texts.{change_text, columns_named, meta_text, op_text, record_text, separated, transaction}
use Rattle.dm_stmt.proofs.SchemaMaps.{total}

-- Names of columns.

-- the column of a name has it
has_its_name : (columns : List Column) (n : Text) (others : List Column) → has_column columns n ≡ true → column_names (cons_option (column_at columns n) others) ≡ n ∷ column_names others
has_its_name [] n others none = absurd (false≢true none)
has_its_name (c ∷ cs) n others some = by (same_name c.name n) refl some (has_its_name cs n others) where
  by : (b : Bool) → same_name c.name n ≡ b → (b || has_column cs n) ≡ true → (has_column cs n ≡ true → column_names (cons_option (column_at cs n) others) ≡ n ∷ column_names others)
      → column_names (cons_option (cond b (Some c) (column_at cs n)) others) ≡ n ∷ column_names others
  by true same s further = ap (λ (name : Text). name ∷ column_names others) (same_text c.name n (sym same))
  by false other s further = further s

-- the columns of names of columns have these names
pub column_names-columns_named : (columns : List Column) (names : List Text) → all_columns columns names ≡ true → column_names (columns_named columns names) ≡ names
column_names-columns_named columns [] h = refl
column_names-columns_named columns (n ∷ ns) h =
    let parts = and_parts (has_column columns n) (all_columns columns ns) h in
    has_its_name columns n (columns_named columns ns) parts.0 ∙ ap (λ (rest : List Text). n ∷ rest) (column_names-columns_named columns ns parts.1)

-- The end of a text.

abbrev pub EndsInLine : List ℕ → Type 0
EndsInLine text = (front : List ℕ) × (text ≡ front ++ 10 ∷ [])

ends : (front last : List ℕ) → EndsInLine (front ++ (last ++ 10 ∷ []))
ends front last = (front ++ last, sym (append_assoc front last (10 ∷ [])))

transaction_ends : (lines : List ℕ) → EndsInLine (transaction lines)
transaction_ends lines = ends (codes "BEGIN;\n" ++ lines) (codes "COMMIT;")

pub record_text_ends : (known : KnownMap) (r : Record) → is_record known r ≡ true → EndsInLine (record_text known r)
record_text_ends known (record_of.Create table layout) h = ends (codes "CREATE TABLE " ++ table_name_text table ++ codes " (" ++ parts_text layout) (codes ");")
record_text_ends known (record_of.Alter table changes) h = ends (codes "ALTER TABLE " ++ table_name_text table ++ 32 ∷ separated (codes ", ") (map change_text changes)) (codes ";")
record_text_ends known (record_of.Apply table ops) h = by (schema_in known table) (and_parts (not (is_meta_table table) && not (is_empty ops)) (option_map_or (λ layout. are_ops layout ops) (schema_in known table) false) h).1 where
  by : (o : Option Layout) → option_map_or (λ layout. are_ops layout ops) o false ≡ true → EndsInLine (option_map_or (λ layout. transaction (flat_map (op_text table layout) ops)) o [])
  by None none = absurd (false≢true none)
  by (Some layout) some = transaction_ends (flat_map (op_text table layout) ops)
record_text_ends known (record_of.Metas pairs) h = transaction_ends (flat_map meta_text pairs)

pub record_text_has_bytes : (known : KnownMap) (r : Record) → is_record known r ≡ true → 1 ≤ length (record_text known r)
record_text_has_bytes known r h =
    let e = record_text_ends known r h in
    omega (arith, ap length e.1, length-append e.0 (10 ∷ []))

-- Other tables.

-- two maps have the same schema of a record's table
abbrev pub AgreeOn : KnownMap → KnownMap → Record → Type 0
AgreeOn known other (record_of.Create table layout) = schema_in known table ≡ schema_in other table
AgreeOn known other (record_of.Alter table changes) = schema_in known table ≡ schema_in other table
AgreeOn known other (record_of.Apply table ops) = schema_in known table ≡ schema_in other table
AgreeOn known other (record_of.Metas pairs) = Unit {0}

pub record_text-agree : (known other : KnownMap) (r : Record) → AgreeOn known other r → record_text known r ≡ record_text other r
record_text-agree known other (record_of.Create table layout) e = refl
record_text-agree known other (record_of.Alter table changes) e = refl
record_text-agree known other (record_of.Apply table ops) e = ap (λ (o : Option Layout). option_map_or (λ layout. transaction (flat_map (op_text table layout) ops)) o []) e
record_text-agree known other (record_of.Metas pairs) e = refl

pub is_record-agree : (known other : KnownMap) (r : Record) → AgreeOn known other r → is_record known r ≡ is_record other r
is_record-agree known other (record_of.Create table layout) e = refl
is_record-agree known other (record_of.Alter table changes) e =
    ap (λ (o : Option Layout). not (is_meta_table table) && option_map_or (λ layout. true) o false && not (is_empty changes) && list_all is_written_change changes) e
is_record-agree known other (record_of.Apply table ops) e = ap (λ (o : Option Layout). not (is_meta_table table) && not (is_empty ops) && option_map_or (λ layout. are_ops layout ops) o false) e
is_record-agree known other (record_of.Metas pairs) e = refl

-- the schema that was put
pub schema_in-insert : (known : KnownMap) (table : TableName) (layout : Layout) → schema_in (fin.insert known table layout) table ≡ Some layout
schema_in-insert known table layout =
    get-insert total known table layout table ∙ ap (λ b. cond b (Some layout) (schema_in known table)) ((eq_by_cmp_equiv total).refl table)

-- that of another table stays
pub schema_in-insert_other : (known : KnownMap) (own other : TableName) (layout : Layout) → eq_by_cmp table_name_cmp other own ≡ false → schema_in (fin.insert known own layout) other ≡ schema_in known other
schema_in-insert_other known own other layout h = get-insert total known own layout other ∙ ap (λ b. cond b (Some layout) (schema_in known other)) h
