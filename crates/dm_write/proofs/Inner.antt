-- No token of a written CREATE TABLE before its end is a `;`.
use Rattle.std.proofs.Common.{◌≡◌, ◌==◌, ◌&&◌, ℕ, Bool, true, false, not, cond, List, [], ◌∷◌, ◌++◌, refl, sym, ap, ◌∙◌, subst}
use Rattle.std.specs.Prelude.{codes}
use Rattle.std.specs.List.{list_all, flat_map}
use Rattle.std.proofs.lemmas.Bool.{and_parts}
use Rattle.dm_value.specs.declared.value.Value.{Value}
use Rattle.dm_schema.specs.declared.column.Kind.{Kind}
use Rattle.dm_schema.specs.declared.column.Kind.TheVariants as kind
use Rattle.dm_schema.specs.declared.column.Column.{Column}
use Rattle.dm_schema.specs.declared.column.UniqueKey.{UniqueKey}
use Rattle.dm_schema.specs.declared.column.DefaultRule.{DefaultRule}
use Rattle.dm_schema.specs.declared.column.DefaultRule.TheVariants as default
use Rattle.dm_schema.specs.Layout.{Layout}
use Rattle.dm_text.specs.Kinds.{integer_text, prefix_text, fraction_digits}
use Rattle.dm_lex.specs.declared.token.TokenKind.{TokenKind}
use Rattle.dm_lex.specs.declared.token.TokenKind.TheVariants as token
use Rattle.dm_lex.specs.Literals.{is_word}
use Rattle.dm_syntax.specs.declared.role.TheConstants as role
use Rattle.dm_dump.specs.declared.terminal.TheConstants as terminal
use Rattle.dm_dump.specs.Terminals.{is_passed, is_truth, is_introducer, terminal_of_word}
use Rattle.dm_reread.specs.Parts.{Part, spelled, value_parts}
use Rattle.dm_reread.specs.Read.{IsRead, Null, Literal, Minus, is_literal}
use Rattle.dm_write.proofs.Splitting.{all_both}
use Rattle.dm_write.proofs.Signs as sign
use Rattle.dm_write.proofs.Signs.{Sign, spellings}
use Rattle.dm_write.proofs.StatementParts.{table_parts, statement_as}
use Rattle.dm_write.proofs.CreateSentence.{DefaultIsRead, ColumnsAreRead}
use Rattle.dm_write.proofs.DumpSentence.{is_inner}

either : (t : Bool) (a b : ℕ) → (a == terminal.SEMICOLON) ≡ false → (b == terminal.SEMICOLON) ≡ false → (cond t a b == terminal.SEMICOLON) ≡ false
either true a b x y = x
either false a b x y = y

word_is_none : (bytes : List ℕ) → (terminal_of_word bytes == terminal.SEMICOLON) ≡ false
word_is_none bytes =
    either (is_truth bytes) terminal.TRUTH _ refl
    (either (is_introducer bytes) terminal.INTRODUCER _ refl
    (either (is_word (codes "insert") bytes) terminal.INSERT _ refl
    (either (is_word (codes "into") bytes) terminal.INTO _ refl
    (either (is_word (codes "values") bytes) terminal.VALUES _ refl
    (either (is_word (codes "create") bytes) terminal.CREATE _ refl
    (either (is_word (codes "table") bytes) terminal.TABLE _ refl
    (either (is_passed bytes) terminal.PASSED terminal.OTHER_WORD refl refl)))))))

abbrev Inner : List Sign → Type 0
Inner signs = list_all (λ s. is_inner s.spelling) signs ≡ true

both : (x y : List Sign) → Inner x → Inner y → Inner (x ++ y)
both x y p q = all_both (λ s. is_inner s.spelling) x y p q

one_word : (bytes : List ℕ) (its_role : ℕ) (rest : List Sign) → Inner rest → Inner (sign.word bytes its_role ∷ rest)
one_word bytes its_role rest h = λ i. not (word_is_none bytes i) && h i

fraction : (its_role digits : ℕ) → Inner (sign.fraction_signs its_role digits)
fraction its_role digits = by (digits == 0) where
  by : (b : Bool) → Inner (cond b [] (sign.in_brackets digits its_role))
  by true = refl
  by false = refl

kind_inner : (k : Kind) → Inner (sign.kind_signs k)
kind_inner (kind.Signed size) = one_word (integer_text size) role.TYPE [] refl
kind_inner (kind.Unsigned size) = one_word (integer_text size) role.TYPE (sign.word (codes "UNSIGNED") role.UNSIGNED ∷ []) refl
kind_inner (kind.Decimal precision scale) = refl
kind_inner (kind.Char most) = refl
kind_inner (kind.Varchar most) = refl
kind_inner (kind.Text prefix) = one_word (prefix_text prefix ++ codes "TEXT") role.TYPE [] refl
kind_inner (kind.Binary size) = refl
kind_inner (kind.Varbinary most) = refl
kind_inner (kind.Blob prefix) = one_word (prefix_text prefix ++ codes "BLOB") role.TYPE [] refl
kind_inner kind.Date = refl
kind_inner kind.Year = refl
kind_inner (kind.Datetime digits) = one_word (codes "DATETIME") role.TYPE (sign.fraction_signs role.FRACTION digits) (fraction role.FRACTION digits)
kind_inner (kind.Timestamp digits) = one_word (codes "TIMESTAMP") role.TYPE (sign.fraction_signs role.FRACTION digits) (fraction role.FRACTION digits)

nullable_inner : (nullable : Bool) → Inner (sign.nullable_signs nullable)
nullable_inner true = refl
nullable_inner false = refl

literal_inner : (kind : TokenKind) (bytes : List ℕ) → is_literal kind ≡ true → is_inner (record { kind = kind; bytes = bytes }) ≡ true
literal_inner token.Word bytes h = absurd cc
literal_inner token.Quoted bytes h = absurd cc
literal_inner token.Text bytes h = refl
literal_inner token.Hex bytes h = refl
literal_inner token.Number bytes h = refl
literal_inner token.Mark bytes h = absurd cc

abbrev InnerValue : List Part → Type 0
InnerValue ps = Inner (sign.value_signs (spelled ps))

value_inner : (k : Kind) (v : Value) (ps : List Part) → IsRead k v ps → InnerValue ps
value_inner k v ps (Null is e h) = subst InnerValue (sym e) refl
value_inner k v ps (Literal kind bytes is e h) = subst InnerValue (sym e) (ap (λ b. b && true) (literal_inner kind bytes is))
value_inner k v ps (Minus digits e h) = subst InnerValue (sym e) refl

default_inner : (k : Kind) (r : DefaultRule) → DefaultIsRead k r → Inner (sign.default_signs k r)
default_inner k default.Nothing read = refl
default_inner k (default.Const v) read = value_inner k v (value_parts k v) read
default_inner k default.Now read = fraction role.NOW_FRACTION (fraction_digits k)

column_inner : (c : Column) → DefaultIsRead c.kind c.default_rule → Inner (sign.column_signs c)
column_inner c read =
    both (sign.kind_signs c.kind) (sign.attribute_signs c) (kind_inner c.kind)
    (both (sign.nullable_signs c.nullable) (sign.default_signs c.kind c.default_rule) (nullable_inner c.nullable) (default_inner c.kind c.default_rule read))

more_inner : (ns : List (List ℕ)) → Inner (flat_map sign.more_part ns)
more_inner [] = refl
more_inner (n ∷ ns) = more_inner ns

part_inner : (ns : List (List ℕ)) → Inner (sign.part_signs ns)
part_inner [] = refl
part_inner (n ∷ ns) = more_inner ns

names_inner : (names : List (List ℕ)) → Inner (sign.names_signs names)
names_inner names = both (sign.part_signs names) (sign.mark 41 role.FILLER ∷ []) (part_inner names) refl

uniques_inner : (ks : List UniqueKey) → Inner (flat_map sign.more_unique ks)
uniques_inner [] = refl
uniques_inner (k ∷ ks) = both (sign.more_unique k) (flat_map sign.more_unique ks) (names_inner k.columns) (uniques_inner ks)

definitions_inner : (cs : List Column) (names : List (List ℕ)) (ks : List UniqueKey) → ColumnsAreRead cs → Inner (sign.definition_signs cs names ks)
definitions_inner [] names ks read = both (sign.primary_signs names) (flat_map sign.more_unique ks) (names_inner names) (uniques_inner ks)
definitions_inner (c ∷ cs) names ks read = both (sign.column_signs c) (sign.mark 44 role.DEFINITION ∷ sign.definition_signs cs names ks) (column_inner c read.1) (definitions_inner cs names ks read.2)

each_inner : (signs : List Sign) → Inner signs → list_all is_inner (spellings signs) ≡ true
each_inner [] h = refl
each_inner (s ∷ ss) h =
    let parts = and_parts (is_inner s.spelling) (list_all (λ s. is_inner s.spelling) ss) h in
    rw parts.0 (each_inner ss parts.1)

create_inner : (table : List ℕ) (layout : Layout) → ColumnsAreRead layout.columns → Inner (sign.create_signs table layout)
create_inner table layout read = both (sign.definition_signs layout.columns layout.primary layout.uniques) (sign.mark 41 role.FILLER ∷ []) (definitions_inner layout.columns layout.primary layout.uniques read) refl

-- what stands behind the words CREATE and TABLE has no `;`
pub table_inner : (table : List ℕ) (layout : Layout) → ColumnsAreRead layout.columns → list_all is_inner (spelled (table_parts table layout)) ≡ true
table_inner table layout read = ap (list_all is_inner) (statement_as table layout) ∙ each_inner (sign.create_signs table layout) (create_inner table layout read)
