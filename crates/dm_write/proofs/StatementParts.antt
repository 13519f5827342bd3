-- The tokens of a written CREATE TABLE, without the `;` behind it, are its signs.
use Rattle.std.proofs.Common.{◌≡◌, ◌==◌, ℕ, Bool, true, false, cond, List, [], ◌∷◌, ◌++◌, map, refl, sym, ap, ◌∙◌, append_assoc}
use Rattle.std.specs.Prelude.{codes}
use Rattle.std.specs.List.{flat_map, list_all}
use Rattle.std.proofs.lemmas.List.{map-append}
use Rattle.dm_schema.specs.declared.column.Kind.{Kind}
use Rattle.dm_schema.specs.declared.column.Kind.TheVariants as kind
use Rattle.dm_schema.specs.declared.column.Column.{Column}
use Rattle.dm_schema.specs.declared.column.UniqueKey.{UniqueKey}
use Rattle.dm_schema.specs.declared.column.DefaultRule.{DefaultRule}
use Rattle.dm_schema.specs.declared.column.DefaultRule.TheVariants as default
use Rattle.dm_schema.specs.Layout.{Layout}
use Rattle.dm_text.specs.Kinds.{fraction_digits}
use Rattle.dm_syntax.specs.declared.role.TheConstants as role
use Rattle.dm_reread.specs.Parts.{Part, Blank, Spelling, spelled, text_of, is_spelled, word, mark, number, bracketed, behind_comma, name_part, name_item, name_list_parts, value_parts, default_has_bytes, kind_parts, fraction_parts, nullable_parts, default_parts, column_parts, column_item, primary_parts, unique_item, layout_parts, create_parts}
use Rattle.dm_reread.proofs.Laws.{spelled_of_both, both_are_spelled, name_is_spelled, layout_is_spelled}
use Rattle.dm_write.proofs.Signs as sign
use Rattle.dm_write.proofs.Signs.{Sign, spellings}

-- what stands behind the words CREATE and TABLE
abbrev pub table_parts : List ℕ → Layout → List Part
table_parts table layout = Blank 32 ∷ name_part table ∷ Blank 32 ∷ mark 40 ∷ layout_parts layout ++ mark 41 ∷ []

abbrev pub statement_parts : List ℕ → Layout → List Part
statement_parts table layout = word (codes "CREATE") ∷ Blank 32 ∷ word (codes "TABLE") ∷ table_parts table layout

pub create_ends : (table : List ℕ) (layout : Layout) → create_parts (name_item table) layout ≡ statement_parts table layout ++ mark 59 ∷ Blank 10 ∷ []
create_ends table layout =
    ap (λ (ps : List Part). word (codes "CREATE") ∷ Blank 32 ∷ word (codes "TABLE") ∷ Blank 32 ∷ name_part table ∷ Blank 32 ∷ mark 40 ∷ ps) (sym (append_assoc (layout_parts layout) (mark 41 ∷ []) (mark 59 ∷ Blank 10 ∷ [])))

abbrev SpelledAs : List Part → List Sign → Type 0
SpelledAs parts signs = spelled parts ≡ spellings signs

both_as : (a b : List Part) (x y : List Sign) → SpelledAs a x → SpelledAs b y → SpelledAs (a ++ b) (x ++ y)
both_as a b x y p q = spelled_of_both a b ∙ (λ i. p i ++ q i) ∙ sym (map-append (λ (s : Sign). s.spelling) x y)

behind_word : (w : Sign) (parts : List Part) (signs : List Sign) → SpelledAs parts signs → w.spelling ∷ spelled parts ≡ spellings (w ∷ signs)
behind_word w parts signs p = ap (λ z. w.spelling ∷ z) p

fraction_as : (digits its_role : ℕ) → SpelledAs (fraction_parts digits) (sign.fraction_signs its_role digits)
fraction_as digits its_role = by (digits == 0) where
  by : (b : Bool) → SpelledAs (cond b [] (bracketed (number digits ∷ []))) (cond b [] (sign.in_brackets digits its_role))
  by true = refl
  by false = refl

kind_as : (k : Kind) → SpelledAs (kind_parts k) (sign.kind_signs k)
kind_as (kind.Signed size) = refl
kind_as (kind.Unsigned size) = refl
kind_as (kind.Decimal precision scale) = refl
kind_as (kind.Char most) = refl
kind_as (kind.Varchar most) = refl
kind_as (kind.Text prefix) = refl
kind_as (kind.Binary size) = refl
kind_as (kind.Varbinary most) = refl
kind_as (kind.Blob prefix) = refl
kind_as kind.Date = refl
kind_as kind.Year = refl
kind_as (kind.Datetime digits) = behind_word (sign.word (codes "DATETIME") role.TYPE) (fraction_parts digits) (sign.fraction_signs role.FRACTION digits) (fraction_as digits role.FRACTION)
kind_as (kind.Timestamp digits) = behind_word (sign.word (codes "TIMESTAMP") role.TYPE) (fraction_parts digits) (sign.fraction_signs role.FRACTION digits) (fraction_as digits role.FRACTION)

nullable_as : (nullable : Bool) → SpelledAs (nullable_parts nullable) (sign.nullable_signs nullable)
nullable_as true = refl
nullable_as false = refl

fill_as : (ss : List Spelling) → ss ≡ spellings (map (λ z. let s : Sign = record { spelling = z; role = role.FILLER } in s) ss)
fill_as [] = refl
fill_as (s ∷ ss) = ap (λ z. s ∷ z) (fill_as ss)

value_as : (ss : List Spelling) → ss ≡ spellings (sign.value_signs ss)
value_as [] = refl
value_as (s ∷ []) = refl
value_as (m ∷ s ∷ ss) = ap (λ z. m ∷ s ∷ z) (fill_as ss)

default_as : (k : Kind) (r : DefaultRule) → SpelledAs (default_parts k r) (sign.default_signs k r)
default_as k default.Nothing = refl
default_as k (default.Const v) = ap (λ z. (sign.word (codes "DEFAULT") role.DEFAULT).spelling ∷ z) (value_as (spelled (value_parts k v)))
default_as k default.Now =
    ap (λ z. (sign.word (codes "DEFAULT") role.DEFAULT).spelling ∷ (sign.word (codes "CURRENT_TIMESTAMP") role.NOW).spelling ∷ z) (fraction_as (fraction_digits k) role.NOW_FRACTION)

column_as : (c : Column) → SpelledAs (column_parts c) (sign.column_signs c)
column_as c =
    ap (λ z. (sign.name c.name role.COLUMN_NAME).spelling ∷ z)
    (both_as (kind_parts c.kind) (nullable_parts c.nullable ++ default_parts c.kind c.default_rule) (sign.kind_signs c.kind) (sign.attribute_signs c) (kind_as c.kind)
    (both_as (nullable_parts c.nullable) (default_parts c.kind c.default_rule) (sign.nullable_signs c.nullable) (sign.default_signs c.kind c.default_rule) (nullable_as c.nullable) (default_as c.kind c.default_rule)))

more_as : (ns : List (List ℕ)) → SpelledAs (flat_map behind_comma (map name_item ns)) (flat_map sign.more_part ns)
more_as [] = refl
more_as (n ∷ ns) = ap (λ z. (sign.mark 44 role.FILLER).spelling ∷ (sign.part_sign n).spelling ∷ z) (more_as ns)

names_as : (ns : List (List ℕ)) → SpelledAs (name_list_parts ns) (sign.names_signs ns)
names_as [] = refl
names_as (n ∷ ns) =
    ap (λ z. (sign.mark 40 role.FILLER).spelling ∷ z)
    (both_as (name_item n ++ flat_map behind_comma (map name_item ns)) (mark 41 ∷ []) (sign.part_signs (n ∷ ns)) (sign.mark 41 role.FILLER ∷ []) (ap (λ z. (sign.part_sign n).spelling ∷ z) (more_as ns)) refl)

primary_as : (names : List (List ℕ)) → SpelledAs (primary_parts names) (sign.primary_signs names)
primary_as names = ap (λ z. (sign.word (codes "PRIMARY") role.FILLER).spelling ∷ (sign.word (codes "KEY") role.PRIMARY_KEY).spelling ∷ z) (names_as names)

unique_as : (k : UniqueKey) → SpelledAs (unique_item k) (sign.more_unique k)
unique_as k =
    ap (λ z. (sign.mark 44 role.DEFINITION).spelling ∷ (sign.word (codes "UNIQUE") role.UNIQUE_KEY).spelling ∷ (sign.word (codes "KEY") role.FILLER).spelling ∷ (sign.name k.name role.KEY_NAME).spelling ∷ z) (names_as k.columns)

uniques_as : (ks : List UniqueKey) → SpelledAs (flat_map unique_item ks) (flat_map sign.more_unique ks)
uniques_as [] = refl
uniques_as (k ∷ ks) = both_as (unique_item k) (flat_map unique_item ks) (sign.more_unique k) (flat_map sign.more_unique ks) (unique_as k) (uniques_as ks)

abbrev keys_parts : List (List ℕ) → List UniqueKey → List Part
keys_parts names ks = primary_parts names ++ flat_map unique_item ks

definitions_as : (cs : List Column) (names : List (List ℕ)) (ks : List UniqueKey) → SpelledAs (flat_map column_item cs ++ keys_parts names ks) (sign.definition_signs cs names ks)
definitions_as [] names ks = both_as (primary_parts names) (flat_map unique_item ks) (sign.primary_signs names) (flat_map sign.more_unique ks) (primary_as names) (uniques_as ks)
definitions_as (c ∷ cs) names ks =
    ap spelled (append_assoc (column_item c) (flat_map column_item cs) (keys_parts names ks) ∙ append_assoc (column_parts c) (mark 44 ∷ Blank 32 ∷ []) (flat_map column_item cs ++ keys_parts names ks))
    ∙ both_as (column_parts c) (mark 44 ∷ Blank 32 ∷ flat_map column_item cs ++ keys_parts names ks) (sign.column_signs c) (sign.mark 44 role.DEFINITION ∷ sign.definition_signs cs names ks) (column_as c)
    (ap (λ z. (sign.mark 44 role.DEFINITION).spelling ∷ z) (definitions_as cs names ks))

pub statement_as : (table : List ℕ) (layout : Layout) → SpelledAs (statement_parts table layout) (sign.create_signs table layout)
statement_as table layout =
    ap (λ z. (sign.word (codes "CREATE") role.FILLER).spelling ∷ (sign.word (codes "TABLE") role.CREATE_TABLE).spelling ∷ (sign.name table role.NAME_PART).spelling ∷ (sign.mark 40 role.DEFINITION).spelling ∷ z)
    (both_as (layout_parts layout) (mark 41 ∷ []) (sign.definition_signs layout.columns layout.primary layout.uniques) (sign.mark 41 role.FILLER ∷ []) (definitions_as layout.columns layout.primary layout.uniques) refl)

-- each part of the statement is spelled
pub statement_is_spelled : (table : List ℕ) (layout : Layout) → list_all default_has_bytes layout.columns ≡ true → is_spelled (statement_parts table layout) ≡ true
statement_is_spelled table layout bytes =
    both_are_spelled (name_item table) (Blank 32 ∷ mark 40 ∷ layout_parts layout ++ mark 41 ∷ []) [] (name_is_spelled table (text_of (Blank 32 ∷ mark 40 ∷ layout_parts layout ++ mark 41 ∷ []) ++ []) refl)
    (both_are_spelled (layout_parts layout) (mark 41 ∷ []) [] (layout_is_spelled layout (41 ∷ []) bytes) refl)
