-- Records are read as they were written.
use Rattle.std.proofs.Common.{◌≡◌, ℕ, ◌^◌, ◌<◌, ◌≤◌, Bool, true, false, not, ◌&&◌, List, [], ◌∷◌, ◌++◌, length, codes, Option, Some, None, Result, Ok, Err, nat_eq, refl, sym, ap, ◌∙◌, subst, append_assoc, arith, ltb, lt-ltb, ltb-true}
use Rattle.std.specs.List.{flat_map, list_all}
use Rattle.std.specs.Option.{option_map_or}
use Rattle.std.specs.Result.{IsErrAnd}
use Rattle.std.specs.Cmp.Lexicographic.{pointwise}
use Rattle.std.proofs.lemmas.Result.{err_from_is_err_and}
use Rattle.dm_stmt_read.specs.declared.fault.RecordFault.{RecordFault}
use Rattle.dm_stmt_read.specs.declared.fault.RecordFault.TheVariants as fault
use Rattle.std.proofs.lemmas.Bool.{and_parts, and_from, not-true}
use Rattle.std.proofs.lemmas.List.{length-append}
use Rattle.dm_schema.specs.declared.change.Change.{Change}
use Rattle.dm_schema.specs.declared.table_name.TableName.{TableName}
use Rattle.dm_schema.specs.Layout.{Layout}
use Rattle.dm_schema.specs.Schemas.{is_formed}
use Rattle.dm_text.specs.Names.{table_name_text, name_list}
use Rattle.dm_text.specs.Values.{escaped, string_text}
use Rattle.dm_text.specs.Columns.{column_part, unique_part}
use Rattle.dm_table.specs.declared.op.RowOp.{RowOp}
use Rattle.dm_target.specs.declared.call.Meta.{Meta}
use Rattle.dm_reread.proofs.Lexing.{EscapeOf, Pair, Plain, escape_of}
use Rattle.dm_stmt.specs.declared.record.Record.{Record}
use Rattle.dm_stmt.specs.declared.record.Record.TheVariants as record_of
use Rattle.dm_stmt.specs.Known.{KnownMap, schema_in}
use Rattle.dm_target.specs.Asking.{is_meta_table}
use Rattle.dm_stmt.specs.Records.{is_empty, is_op, are_ops, is_written_change, is_record}
use Rattle.dm_stmt.specs.Texts.{change_text, op_text, meta_text, transaction, record_text}
use Rattle.dm_stmt_read.specs.Reading.{is_typed_change, is_typed_op, is_typed, IsTextOf}
use Rattle.dm_stmt_read.specs.declared.ops.Verb.{Verb}
use Rattle.dm_stmt_read.specs.declared.ops.Verb.TheVariants as verb_of
use Rattle.dm_stmt_read.specs.Readers.{and_then, just, ahead, further}
use Rattle.dm_stmt_read.specs.Lines.{create, alter, head, meta, next_meta, next_op, lines, later_record, any_record}
use Rattle.dm_stmt_read.specs.Lines.{transaction as read_transaction}
use Rattle.dm_stmt_read.specs.Lines.{pair as read_pair}
use Rattle.dm_stmt_read.proofs.Taking.{same_bytes, takes_word, passes_word, Takes, takes_further}
use Rattle.dm_stmt_read.proofs.Tokens.{takes_string}
use Rattle.dm_stmt_read.proofs.OpTexts.{is_whole, verb_for, rest_of, takes_head, op_head, is_good_op, ops_taken}
use Rattle.dm_stmt_read.proofs.ChangeTexts.{create_shape, takes_create, is_good_change, takes_alter, alter_shape}

-- Texts under names.

meta_table : TableName
meta_table = record { db = codes "dm_meta"; table = codes "state" }

meta_shape : (pair : Meta) (left : List ℕ) → meta_text pair ++ left ≡ codes "REPLACE INTO `dm_meta`.`state` (`name`,`text`) VALUES (" ++ (string_text pair.name ++ (44 ∷ (string_text pair.text ++ (codes ");\n" ++ left))))
meta_shape pair left =
    let before : List ℕ = codes "REPLACE INTO `dm_meta`.`state` (`name`,`text`) VALUES (" in
    append_assoc ((before ++ string_text pair.name) ++ (44 ∷ string_text pair.text)) (codes ");\n") left
    ∙ append_assoc (before ++ string_text pair.name) (44 ∷ string_text pair.text) (codes ");\n" ++ left)
    ∙ append_assoc before (string_text pair.name) (44 ∷ (string_text pair.text ++ (codes ");\n" ++ left)))

meta_head : (left : List ℕ) → head (codes "REPLACE INTO `dm_meta`.`state` (`name`,`text`) VALUES (" ++ left) ≡ Some ((verb_of.Replace, meta_table), codes " (`name`,`text`) VALUES (" ++ left)
unfolding meta_table
meta_head left = takes_head verb_of.Replace (record { db = codes "dm_meta"; table = codes "state" }) (codes "(`name`,`text`) VALUES (" ++ left)

takes_meta : (pair : Meta) (left : List ℕ) → length pair.name < 2 ^ 32 → length pair.text < 2 ^ 32 → meta (meta_text pair ++ left) ≡ Some (pair, left)
unfolding meta read_pair
takes_meta pair left few few_too =
    let tail : List ℕ = string_text pair.text ++ (codes ");\n" ++ left) in
    ap meta (meta_shape pair left)
    ∙ (rw (
      meta_head (string_text pair.name ++ (44 ∷ tail)),
      takes_word (codes " (`name`,`text`) VALUES (") (string_text pair.name ++ (44 ∷ tail)),
      takes_string pair.name (44 ∷ tail) few refl,
      takes_word (codes ",") tail,
      takes_string pair.text (codes ");\n" ++ left) few_too refl,
      takes_word (codes ");\n") left,
    ) refl)

-- a text under a name that is short enough to be read
abbrev is_short : Meta → Bool
is_short pair = ltb (length pair.name) (2 ^ 32) && ltb (length pair.text) (2 ^ 32)

takes_next_meta : (pair : Meta) (left : List ℕ) → is_short pair ≡ true → next_meta (meta_text pair ++ left) ≡ Some (Some pair, left)
unfolding next_meta
takes_next_meta pair left short =
    let parts = and_parts (ltb (length pair.name) (2 ^ 32)) (ltb (length pair.text) (2 ^ 32)) short in
    rw (passes_word (codes "COMMIT;\n") (meta_text pair ++ left) refl, takes_meta pair left (ltb-true (length pair.name) (2 ^ 32) parts.0) (ltb-true (length pair.text) (2 ^ 32) parts.1)) refl

no_meta : (left : List ℕ) → next_meta (codes "COMMIT;\n" ++ left) ≡ Some (None, left)
unfolding next_meta
no_meta left = rw (takes_word (codes "COMMIT;\n") left) refl

metas_taken : (left : List ℕ) → Takes next_meta meta_text is_short (λ rest. Unit {0}) (codes "COMMIT;\n" ++ left) left
metas_taken left = record { ends = no_meta left; end_follows = tt; piece_follows = λ pair rest. tt; some = λ pair. omega arith; takes = λ pair rest short follows. takes_next_meta pair rest short }

-- The strings of a short text are short.

escape_some : (b : ℕ) → 1 ≤ length (escaped b)
escape_some b = by (escaped b) (escape_of b) where
  by : (text : List ℕ) → EscapeOf b text → 1 ≤ length text
  by text (Pair c is means) = rw is (omega arith)
  by text (Plain is no_quote no_escape) = rw is (omega arith)

escapes_more : (bytes : List ℕ) → length bytes ≤ length (flat_map escaped bytes)
escapes_more [] = omega arith
escapes_more (b ∷ bytes) =
    let one = escape_some b in
    let rest = escapes_more bytes in
    let both = length-append (escaped b) (flat_map escaped bytes) in
    omega (arith, one, rest, both)

string_more : (bytes : List ℕ) → length bytes ≤ length (string_text bytes)
string_more bytes =
    let inner = escapes_more bytes in
    let both = length-append (39 ∷ flat_map escaped bytes) (39 ∷ []) in
    omega (arith, inner, both)

meta_more : (pair : Meta) → (length pair.name ≤ length (meta_text pair)) × (length pair.text ≤ length (meta_text pair))
meta_more pair =
    let before : List ℕ = codes "REPLACE INTO `dm_meta`.`state` (`name`,`text`) VALUES (" in
    let a = string_more pair.name in
    let b = string_more pair.text in
    let c = length-append before (string_text pair.name) in
    let d = length-append (before ++ string_text pair.name) (44 ∷ string_text pair.text) in
    let e = length-append ((before ++ string_text pair.name) ++ (44 ∷ string_text pair.text)) (codes ");\n") in
    (omega (arith, a, c, d, e), omega (arith, b, d, e))

all_short : (pairs : List Meta) → length (flat_map meta_text pairs) < 2 ^ 32 → list_all is_short pairs ≡ true
all_short [] few = refl
all_short (pair ∷ pairs) few =
    let both = length-append (meta_text pair) (flat_map meta_text pairs) in
    let more = meta_more pair in
    let name_few = more.0 in
    let text_few = more.1 in
    and_from (is_short pair) (list_all is_short pairs)
    (and_from (ltb (length pair.name) (2 ^ 32)) (ltb (length pair.text) (2 ^ 32)) (lt-ltb (length pair.name) (2 ^ 32) (omega (arith, few, both, name_few))) (lt-ltb (length pair.text) (2 ^ 32) (omega (arith, few, both, text_few))))
    (all_short pairs (omega (arith, few, both)))

-- Transactions.

begins : (known : KnownMap) (left : List ℕ) → any_record known (codes "BEGIN;\n" ++ left) ≡ and_then (ahead head left) (λ h. lines known h.1)
unfolding any_record later_record read_transaction
begins known left =
    rw (passes_word (codes "CREATE TABLE ") (codes "BEGIN;\n" ++ left) refl, passes_word (codes "ALTER TABLE ") (codes "BEGIN;\n" ++ left) refl, takes_word (codes "BEGIN;\n") left) refl

read_lines : (known : KnownMap) (verb : Verb) (t : TableName) (left behind : List ℕ) → head left ≡ Some ((verb, t), behind) → any_record known (codes "BEGIN;\n" ++ left) ≡ lines known t left
read_lines known verb t left behind is = begins known left ∙ ap (λ o. and_then (and_then o (λ x rest. Some (x, left))) (λ h. lines known h.1)) is

metas_read : (known : KnownMap) (left after : List ℕ) (pairs : List Meta) → further next_meta [] left ≡ Some (pairs, after) → lines known meta_table left ≡ Some (record_of.Metas pairs, after)
unfolding lines meta_table
metas_read known left after pairs is = ap (λ o. and_then o (λ ps. just (record_of.Metas ps))) is

takes_metas : (known : KnownMap) (pairs : List Meta) → not (is_empty pairs) ≡ true → length (transaction (flat_map meta_text pairs)) < 2 ^ 32 → any_record known (transaction (flat_map meta_text pairs)) ≡ Some (record_of.Metas pairs, [])
takes_metas known [] some few = absurd cc
takes_metas known (pair ∷ pairs) some few =
    let all : List ℕ = flat_map meta_text (pair ∷ pairs) in
    let both = length-append (codes "BEGIN;\n" ++ all) (codes "COMMIT;\n") in
    let begun = length-append (codes "BEGIN;\n") all in
    let short = all_short (pair ∷ pairs) (omega (arith, few, both, begun)) in
    let rest : List ℕ = flat_map meta_text pairs ++ codes "COMMIT;\n" in
    let inner : List ℕ = string_text pair.name ++ (44 ∷ (string_text pair.text ++ (codes ");\n" ++ rest))) in
    let shape : all ++ codes "COMMIT;\n" ≡ meta_text pair ++ (flat_map meta_text pairs ++ codes "COMMIT;\n") = append_assoc (meta_text pair) (flat_map meta_text pairs) (codes "COMMIT;\n") in
    read_lines known verb_of.Replace meta_table (all ++ codes "COMMIT;\n") (codes " (`name`,`text`) VALUES (" ++ inner) (ap head (shape ∙ meta_shape pair rest) ∙ meta_head inner)
    ∙ metas_read known (all ++ codes "COMMIT;\n") [] (pair ∷ pairs) (takes_further next_meta meta_text is_short (λ rest. Unit {0}) (codes "COMMIT;\n") [] (metas_taken []) (omega arith) [] (pair ∷ pairs) short)

ops_read : (known : KnownMap) (t : TableName) (layout : Layout) (left after : List ℕ) (ops : List RowOp) → is_meta_table t ≡ false → schema_in known t ≡ Some layout → further (next_op layout) [] left ≡ Some (ops, after) → lines known t left ≡ Some (record_of.Apply t ops, after)
unfolding lines
ops_read known t layout left after ops other is all = rw (other, is) (ap (λ o. and_then o (λ found. just (record_of.Apply t found))) all)

good_ops : (layout : Layout) (ops : List RowOp) → list_all (is_op layout) ops ≡ true → list_all is_typed_op ops ≡ true → list_all (is_good_op layout) ops ≡ true
good_ops layout [] are typed = refl
good_ops layout (o ∷ ops) are typed =
    let parts = and_parts (is_op layout o) (list_all (is_op layout) ops) are in
    let types = and_parts (is_typed_op o) (list_all is_typed_op ops) typed in
    and_from (is_good_op layout o) (list_all (is_good_op layout) ops) (and_from (is_op layout o) (is_typed_op o) parts.0 types.0) (good_ops layout ops parts.1 types.1)

takes_apply : (known : KnownMap) (t : TableName) (layout : Layout) (ops : List RowOp) → is_meta_table t ≡ false → schema_in known t ≡ Some layout → not (is_empty ops) ≡ true → are_ops layout ops ≡ true → list_all is_typed_op ops ≡ true
    → any_record known (transaction (flat_map (op_text t layout) ops)) ≡ Some (record_of.Apply t ops, [])
takes_apply known t layout [] other is some are typed = absurd cc
takes_apply known t layout (o ∷ ops) other is some are typed =
    let all : List ℕ = flat_map (op_text t layout) (o ∷ ops) in
    let parts = and_parts (is_formed layout) (list_all (is_op layout) (o ∷ ops)) are in
    let shape : all ++ codes "COMMIT;\n" ≡ op_text t layout o ++ (flat_map (op_text t layout) ops ++ codes "COMMIT;\n") = append_assoc (op_text t layout o) (flat_map (op_text t layout) ops) (codes "COMMIT;\n") in
    read_lines known (verb_for o) t (all ++ codes "COMMIT;\n") (32 ∷ rest_of layout o (flat_map (op_text t layout) ops ++ codes "COMMIT;\n")) (ap head shape ∙ op_head t layout o (flat_map (op_text t layout) ops ++ codes "COMMIT;\n"))
    ∙ ops_read known t layout (all ++ codes "COMMIT;\n") [] (o ∷ ops) other is
    (takes_further (next_op layout) (op_text t layout) (is_good_op layout) (λ rest. Unit {0}) (codes "COMMIT;\n") [] (ops_taken t layout [] (is_whole layout parts.0)) (omega arith) [] (o ∷ ops) (good_ops layout (o ∷ ops) parts.1 typed))

-- Statements that define tables.

reads_create : (known : KnownMap) (inner : List ℕ) → any_record known (codes "CREATE TABLE " ++ inner) ≡ create inner
unfolding any_record
reads_create known inner = rw (takes_word (codes "CREATE TABLE ") inner) refl

reads_alter : (known : KnownMap) (inner : List ℕ) → any_record known (codes "ALTER TABLE " ++ inner) ≡ alter inner
unfolding any_record later_record
reads_alter known inner = rw (passes_word (codes "CREATE TABLE ") (codes "ALTER TABLE " ++ inner) refl, takes_word (codes "ALTER TABLE ") inner) refl

good_changes : (cs : List Change) → list_all is_written_change cs ≡ true → list_all is_typed_change cs ≡ true → list_all is_good_change cs ≡ true
good_changes [] are typed = refl
good_changes (c ∷ cs) are typed =
    let parts = and_parts (is_written_change c) (list_all is_written_change cs) are in
    let types = and_parts (is_typed_change c) (list_all is_typed_change cs) typed in
    and_from (is_good_change c) (list_all is_good_change cs) (and_from (is_written_change c) (is_typed_change c) parts.0 types.0) (good_changes cs parts.1 types.1)

takes_alteration : (known : KnownMap) (t : TableName) (cs : List Change) → not (is_empty cs) ≡ true → list_all is_good_change cs ≡ true → any_record known (record_text known (record_of.Alter t cs)) ≡ Some (record_of.Alter t cs, [])
takes_alteration known t [] some good = absurd cc
takes_alteration known t (c ∷ cs) some good =
    ap (any_record known) (alter_shape t c cs)
    ∙ reads_alter known (table_name_text t ++ (32 ∷ (change_text c ++ (flat_map (λ c. codes ", " ++ change_text c) cs ++ codes ";\n"))))
    ∙ takes_alter t c cs good

-- All records.

-- a record's text, short enough to be read, is read as the record
pub takes_record : (known : KnownMap) (said : Record) → is_record known said ≡ true → is_typed said ≡ true → length (record_text known said) < 2 ^ 32 → any_record known (record_text known said) ≡ Some (said, [])
takes_record known (record_of.Create t layout) is typed few =
    let parts = and_parts (not (is_meta_table t)) (is_formed layout) is in
    ap (any_record known) (create_shape t layout)
    ∙ reads_create known (table_name_text t ++ (codes " (" ++ (flat_map column_part layout.columns ++ (codes "PRIMARY KEY " ++ (name_list layout.primary ++ (flat_map unique_part layout.uniques ++ codes ");\n"))))))
    ∙ takes_create t layout parts.1 typed
takes_record known (record_of.Alter t cs) is typed few =
    let last = and_parts (not (is_meta_table t) && option_map_or (λ layout. true) (schema_in known t) false && not (is_empty cs)) (list_all is_written_change cs) is in
    let parts = and_parts (not (is_meta_table t) && option_map_or (λ layout. true) (schema_in known t) false) (not (is_empty cs)) last.0 in
    takes_alteration known t cs parts.1 (good_changes cs last.1 typed)
takes_record known (record_of.Apply t ops) is typed few =
    let last = and_parts (not (is_meta_table t) && not (is_empty ops)) (option_map_or (λ layout. are_ops layout ops) (schema_in known t) false) is in
    let parts = and_parts (not (is_meta_table t)) (not (is_empty ops)) last.0 in
    by (schema_in known t) refl last.1 parts.1 (not-true (is_meta_table t) parts.0) where
      by : (o : Option Layout) → schema_in known t ≡ o → option_map_or (λ layout. are_ops layout ops) o false ≡ true → not (is_empty ops) ≡ true → is_meta_table t ≡ false
          → any_record known (option_map_or (λ layout. transaction (flat_map (op_text t layout) ops)) o []) ≡ Some (record_of.Apply t ops, [])
      by None e are some other = absurd cc
      by (Some layout) e are some other = takes_apply known t layout ops other e some are typed
takes_record known (record_of.Metas pairs) is typed few = takes_metas known pairs is few

-- What a text is read as.

text_is_read : (known : KnownMap) (text : List ℕ) (other : Record) → length text < 2 ^ 32 → IsTextOf known text other → any_record known text ≡ Some (other, [])
text_is_read known text other few is =
    let short : length (record_text known other) < 2 ^ 32 = subst (λ xs. length xs < 2 ^ 32) (sym is.2) few in
    ap (any_record known) (sym is.2) ∙ takes_record known other is.0 is.1 short

first_or : Record → Option (Record × List ℕ) → Record
first_or other None = other
first_or other (Some read) = read.0

-- what is read is the only record of the text
pub only_record : (known : KnownMap) (text left : List ℕ) (said : Record) → length text < 2 ^ 32 → any_record known text ≡ Some (said, left) → (other : Record) → IsTextOf known text other → other ≡ said
unfolding first_or
only_record known text left said few is other written = ap (first_or said) (sym (text_is_read known text other few written) ∙ is)

-- two records with one text are equal
pub one_record : (known : KnownMap) (text : List ℕ) (said other : Record) → length text < 2 ^ 32 → IsTextOf known text said → IsTextOf known text other → other ≡ said
one_record known text said other few first second = only_record known text [] said few (text_is_read known text said few first) other second

-- where nothing is read, there is no record
pub no_record : (known : KnownMap) (text : List ℕ) → length text < 2 ^ 32 → any_record known text ≡ None → (other : Record) → IsTextOf known text other → ⊥
no_record known text few none other written = absurd (let both = sym (text_is_read known text other few written) ∙ none in cc)

-- where what is read isn't a record that is written, there is none
pub no_good_record : (known : KnownMap) (text left : List ℕ) (said : Record) → length text < 2 ^ 32 → any_record known text ≡ Some (said, left) → is_record known said ≡ false → (other : Record) → IsTextOf known text other → ⊥
no_good_record known text left said few is bad other written =
    let same = only_record known text left said few is other written in
    absurd (let both : true ≡ false = sym written.0 ∙ ap (is_record known) same ∙ bad in cc)

-- where what is read is written otherwise, there is none
pub no_such_text : (known : KnownMap) (text left : List ℕ) (said : Record) → length text < 2 ^ 32 → any_record known text ≡ Some (said, left) → (record_text known said ≡ text → ⊥) → (other : Record) → IsTextOf known text other → ⊥
no_such_text known text left said few is differs other written =
    differs (ap (record_text known) (sym (only_record known text left said few is other written)) ∙ written.2)

-- The reader's answers.

pub lost_record : (known : KnownMap) (text : List ℕ) (answer : Result Record RecordFault) (e : RecordFault) → length text < 2 ^ 32 → IsErrAnd answer (λ given. given ≡ e) → (e ≡ fault.NotRecord → any_record known text ≡ None)
    → answer ≡ Err fault.NotRecord → (other : Record) → IsTextOf known text other → ⊥
lost_record known text answer e few is none refused =
    let p = err_from_is_err_and answer is in
    let same : p.0 ≡ fault.NotRecord = ap (fault_or fault.NotRecord) (sym p.1 ∙ refused) in
    no_record known text few (none (sym p.2 ∙ same)) where
      fault_or : RecordFault → Result Record RecordFault → RecordFault
      fault_or other (Ok said) = other
      fault_or other (Err e) = e

pub unlike : (written text found : List ℕ) → pointwise nat_eq found text ≡ false → found ≡ written → written ≡ text → ⊥
unlike written text found differs same is =
    let both : pointwise nat_eq found text ≡ true = ap (λ xs. pointwise nat_eq xs text) (same ∙ is) ∙ same_bytes text in
    absurd (let never : true ≡ false = sym both ∙ differs in cc)
