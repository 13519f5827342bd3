-- What holds of each schema and of rows that fit it: their dump is read back.
use Rattle.std.proofs.Common.{◌≡◌, ◌==◌, ◌||◌, ◌&&◌, ◌<◌, ◌^◌, ℕ, Bool, true, false, not, ltb, leb, List, [], ◌∷◌, length, refl, sym, ◌∙◌, subst, arith}
use Rattle.std.specs.Prelude.{is_none, IsTrue}
use Rattle.std.specs.List.{list_any, list_all}
use Rattle.std.specs.Cmp.Lexicographic.{pointwise, same_text}
use Rattle.std.proofs.lemmas.Bool.{and_parts}
use Rattle.std.proofs.lemmas.Bool.Decides.{nat_tests}
use Rattle.dm_list.specs.Answer.{first_refusal}
use Rattle.dm_value.specs.declared.value.Value.{Value}
use Rattle.dm_schema.specs.declared.column.Column.{Column}
use Rattle.dm_schema.specs.declared.column.Kind.{Kind}
use Rattle.dm_schema.specs.declared.column.UniqueKey.{UniqueKey}
use Rattle.dm_schema.specs.declared.column.DefaultRule.{DefaultRule}
use Rattle.dm_schema.specs.declared.column.DefaultRule.TheVariants as default
use Rattle.dm_schema.specs.declared.fault.SchemaFault.TheVariants as fault
use Rattle.dm_schema.specs.Layout.{Layout}
use Rattle.dm_schema.specs.Names.{Text, same_name, has_column}
use Rattle.dm_schema.specs.Kinds.{is_folded, is_kind, is_rule, is_column, is_key}
use Rattle.dm_schema.specs.Fits.{fits, fits_by}
use Rattle.dm_schema.specs.Schemas.{all_columns, has_nullable, is_unfit_default, column_repeats, key_repeats, names_repeat, some_key_repeats_names, refusals, is_formed}
use Rattle.dm_dump.proofs.Laws as law
use Rattle.dm_reread.specs.Parts.{text_of, has_bytes, default_has_bytes}
use Rattle.dm_reread.proofs.Laws.{value_is_read}
use Rattle.dm_write.specs.Dumps.{dump_text}
use Rattle.dm_write.specs.Lengths.{has_length}
use Rattle.dm_write.specs.ReadBack.{IsReadBack}
use Rattle.dm_write.proofs.Splitting.{either_false}
use Rattle.dm_write.proofs.RowValues.{are_read}
use Rattle.dm_write.proofs.DumpSentence.{RowsAreRead}
use Rattle.dm_write.proofs.CreateSentence.{DefaultIsRead, ColumnsAreRead}
use Rattle.dm_write.proofs.CreateSchema.{ColumnsAreWritten, KeysAreWritten}
use Rattle.dm_write.proofs.DumpStanding.{dump_parts, dump_written, HaveBytes}
use Rattle.dm_write.proofs.DumpBack.{IsWrittenDump, parts_read_back}

-- A schema that is formed.

none_refused : {E : Type 0} (a b c d e : Bool) (p q r s t : E) → is_none (first_refusal ((a, p) ∷ (b, q) ∷ (c, r) ∷ (d, s) ∷ (e, t) ∷ [])) ≡ true → (b ≡ false) × (c ≡ false) × (e ≡ false)
none_refused true b c d e p q r s t h = absurd cc
none_refused false true c d e p q r s t h = absurd cc
none_refused false false true d e p q r s t h = absurd cc
none_refused false false false true e p q r s t h = absurd cc
none_refused false false false false true p q r s t h = absurd cc
none_refused false false false false false p q r s t h = (refl, refl, refl)

taken_back : (b : Bool) → not b ≡ false → b ≡ true
taken_back true h = refl
taken_back false h = absurd cc

-- what the tests of a schema say of it
pub record Formed (layout : Layout) : Type 0 where
  pub columns : list_all is_column layout.columns ≡ true
  pub keys : list_all is_key layout.uniques ≡ true
  pub some : (length layout.primary == 0) ≡ false
  pub primary : all_columns layout.columns layout.primary ≡ true
  pub uniques : list_all (λ k. all_columns layout.columns k.columns) layout.uniques ≡ true
  pub fit : list_any is_unfit_default layout.columns ≡ false

pub formed_parts : (layout : Layout) → is_formed layout ≡ true → Formed layout
formed_parts layout formed =
    let last = and_parts (list_all is_column layout.columns && list_all is_key layout.uniques && leb (length layout.uniques) 16) (is_none (first_refusal (refusals layout.columns layout.primary layout.uniques))) formed in
    let few = and_parts (list_all is_column layout.columns && list_all is_key layout.uniques) (leb (length layout.uniques) 16) last.0 in
    let front = and_parts (list_all is_column layout.columns) (list_all is_key layout.uniques) few.0 in
    let tests = none_refused (column_repeats layout.columns || key_repeats layout.uniques || names_repeat layout.primary || some_key_repeats_names layout.uniques) (length layout.primary == 0)
    (not (all_columns layout.columns layout.primary && list_all (λ k. all_columns layout.columns k.columns) layout.uniques)) (has_nullable layout.columns layout.primary) (list_any is_unfit_default layout.columns)
    fault.Duplicate fault.NoPrimary fault.UnknownColumn fault.NullablePrimary fault.DefaultUnfit last.1 in
    let known = and_parts (all_columns layout.columns layout.primary) (list_all (λ k. all_columns layout.columns k.columns) layout.uniques) (taken_back _ tests.1) in
    record { columns = front.0; keys = front.1; some = tests.0; primary = known.0; uniques = known.1; fit = tests.2 }

-- Names of columns are folded.

name_folded : (cs : List Column) (n : Text) → list_all is_column cs ≡ true → has_column cs n ≡ true → is_folded n ≡ true
name_folded [] n columns h = absurd cc
name_folded (c ∷ cs) n columns h =
    let parts = and_parts (is_column c) (list_all is_column cs) columns in
    let column = and_parts (is_folded c.name && is_kind c.kind) (is_rule c.default_rule) parts.0 in
    let folded = and_parts (is_folded c.name) (is_kind c.kind) column.0 in
    by (same_name c.name n) refl h folded.0 (name_folded cs n parts.1)
  where
    by : (b : Bool) → same_name c.name n ≡ b → (b || has_column cs n) ≡ true → is_folded c.name ≡ true → (has_column cs n ≡ true → is_folded n ≡ true) → is_folded n ≡ true
    by true e h folded rest = subst (λ (m : Text). is_folded m ≡ true) (same_text c.name n (sym e)) folded
    by false e h folded rest = rest h

names_folded : (cs : List Column) (names : List Text) → list_all is_column cs ≡ true → all_columns cs names ≡ true → list_all is_folded names ≡ true
names_folded cs [] columns h = refl
names_folded cs (n ∷ ns) columns h =
    let parts = and_parts (has_column cs n) (all_columns cs ns) h in
    rw (name_folded cs n columns parts.0) (names_folded cs ns columns parts.1)

keys_written : (cs : List Column) (ks : List UniqueKey) → list_all is_column cs ≡ true → list_all is_key ks ≡ true → list_all (λ k. all_columns cs k.columns) ks ≡ true → KeysAreWritten ks
keys_written cs [] columns keys known = tt
keys_written cs (k ∷ ks) columns keys known =
    let one = and_parts (is_key k) (list_all is_key ks) keys in
    let key = and_parts (is_folded k.name) (not (length k.columns == 0)) one.0 in
    let two = and_parts (all_columns cs k.columns) (list_all (λ k. all_columns cs k.columns) ks) known in
    ((key.0, none_of _ key.1, names_folded cs k.columns columns two.0), keys_written cs ks columns one.1 two.1)
  where
    none_of : (b : Bool) → not b ≡ true → b ≡ false
    none_of true h = absurd cc
    none_of false h = refl

-- Columns.

default_read : (k : Kind) (nullable : Bool) (c : Column) (r : DefaultRule) → is_kind k ≡ true → is_unfit_default (record { name = c.name; kind = k; nullable = nullable; default_rule = r }) ≡ false
    → default_has_bytes (record { name = c.name; kind = k; nullable = nullable; default_rule = r }) ≡ true → DefaultIsRead k r
default_read k nullable c default.Nothing is fit bytes = tt
default_read k nullable c (default.Const v) is fit bytes = value_is_read k nullable v is (taken_back (fits_by k nullable v) fit) bytes
default_read k nullable c default.Now is fit bytes = tt

-- what is known of columns that are written
abbrev Known : List Column → Type 0
Known cs = ColumnsAreWritten cs × ColumnsAreRead cs

columns_known : (cs : List Column) → list_all is_column cs ≡ true → list_any is_unfit_default cs ≡ false → list_all (λ c. has_length c.kind) cs ≡ true → list_all default_has_bytes cs ≡ true → Known cs
columns_known [] columns fit lengths bytes = (tt, tt)
columns_known (c ∷ cs) columns fit lengths bytes =
    let one = and_parts (is_column c) (list_all is_column cs) columns in
    let column = and_parts (is_folded c.name && is_kind c.kind) (is_rule c.default_rule) one.0 in
    let folded = and_parts (is_folded c.name) (is_kind c.kind) column.0 in
    let fits = either_false (is_unfit_default c) (list_any is_unfit_default cs) fit in
    let long = and_parts (has_length c.kind) (list_all (λ c. has_length c.kind) cs) lengths in
    let has = and_parts (default_has_bytes c) (list_all default_has_bytes cs) bytes in
    let read : DefaultIsRead c.kind c.default_rule = default_read c.kind c.nullable c c.default_rule folded.1 fits.0 has.0 in
    let rest = columns_known cs one.1 fits.1 long.1 has.1 in
    ((record { folded = folded.0; kind = folded.1; length = long.0; rule = column.1; read = read }, rest.0), (folded.1, read, rest.1))

-- Rows.

pub rows_read : (cs : List Column) (rows : List (List Value)) → list_all is_column cs ≡ true → list_all (λ row. pointwise fits row cs) rows ≡ true → HaveBytes rows → RowsAreRead cs rows
rows_read cs [] columns fit bytes = tt
rows_read cs (row ∷ rows) columns fit bytes =
    let one = and_parts (pointwise fits row cs) (list_all (λ row. pointwise fits row cs) rows) fit in
    let two = and_parts (list_all has_bytes row) (list_all (λ row. list_all has_bytes row) rows) bytes in
    (are_read cs row columns one.0 two.0, rows_read cs rows columns one.1 two.1)

pub is_written : (layout : Layout) (rows : List (List Value)) → is_formed layout ≡ true → list_all (λ c. has_length c.kind) layout.columns ≡ true → list_all default_has_bytes layout.columns ≡ true
    → list_all (λ row. pointwise fits row layout.columns) rows ≡ true → HaveBytes rows → leb (length layout.columns) 256 ≡ true → IsWrittenDump layout rows
is_written layout rows formed lengths defaults fit bytes few =
    let parts = formed_parts layout formed in
    let known = columns_known layout.columns parts.columns parts.fit lengths defaults in
    record {
      layout = record {
        columns = known.0;
        read = known.1;
        primary = names_folded layout.columns layout.primary parts.columns parts.primary;
        some = parts.some;
        keys = keys_written layout.columns layout.uniques parts.columns parts.keys parts.uniques;
        are_keys = parts.keys;
        formed = formed;
        few = few;
      };
      defaults = defaults;
      order = law.own_order layout formed;
      rows = rows_read layout.columns rows parts.columns fit bytes;
      bytes = bytes;
    }

-- a dump is read back
pub read_back : (table : List ℕ) (layout : Layout) (rows : List (List Value)) (text : List ℕ) → is_formed layout ≡ true → list_all (λ c. has_length c.kind) layout.columns ≡ true → list_all default_has_bytes layout.columns ≡ true
    → list_all (λ row. pointwise fits row layout.columns) rows ≡ true → HaveBytes rows → text ≡ dump_text table layout rows → IsReadBack table layout rows text
read_back table layout rows text formed lengths defaults fit bytes is =
    subst (IsReadBack table layout rows) (dump_written table layout rows ∙ sym is)
    (λ few short answer says. parts_read_back table layout rows (is_written layout rows formed lengths defaults fit bytes few) (test_of (length (text_of (dump_parts table layout rows))) short) answer says)
  where
    test_of : (n : ℕ) → n < 2 ^ 32 → ltb n (2 ^ 32) ≡ true
    test_of n short = search (nat_tests, arith)

-- the same, where the columns and the rows are known as slices
pub written_back : (table : List ℕ) (layout : Layout) (rows : List (List Value)) (columns : List Column) (slice : List (List Value)) (text : List ℕ) → IsTrue (is_formed layout) → columns ≡ layout.columns → slice ≡ rows
    → IsTrue (list_all (λ c. has_length c.kind) columns) → IsTrue (list_all default_has_bytes columns) → IsTrue (list_all (λ row. pointwise fits row layout.columns) rows) → IsTrue (list_all (λ row. list_all has_bytes row) slice)
    → text ≡ dump_text table layout rows → IsReadBack table layout rows text
written_back table layout rows columns slice text formed of rows_of lengths defaults fit bytes is =
    read_back table layout rows text formed (subst (λ (cs : List Column). list_all (λ c. has_length c.kind) cs ≡ true) of lengths) (subst (λ (cs : List Column). list_all default_has_bytes cs ≡ true) of defaults) fit
    (subst (λ (rs : List (List Value)). HaveBytes rs) rows_of bytes) is
