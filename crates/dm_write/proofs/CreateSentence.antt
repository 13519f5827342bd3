-- A written CREATE TABLE is a sentence of the grammar of statements.
use Rattle.std.proofs.Common.{◌≡◌, ◌==◌, ℕ, zero, Bool, true, false, not, ◌||◌, cond, leb, List, [], ◌∷◌, ◌++◌, refl, sym, ap, ◌∙◌, subst, arith, append-nil, length, suc}
use Rattle.std.specs.Prelude.{⊤, codes}
use Rattle.std.specs.List.{flat_map, list_all, list_any}
use Rattle.std.specs.Fmt.{decimal}
use Rattle.std.proofs.lemmas.Bool.{and_parts, eqb-true, leb-true}
use Rattle.std.proofs.lemmas.List.{map-append}
use Rattle.dm_value.specs.declared.value.Value.{Value}
use Rattle.dm_schema.specs.declared.column.Kind.{Kind}
use Rattle.dm_schema.specs.declared.column.Kind.TheVariants as kind
use Rattle.dm_schema.specs.declared.column.Column.{Column}
use Rattle.dm_schema.specs.declared.column.UniqueKey.{UniqueKey}
use Rattle.dm_schema.specs.declared.column.DefaultRule.{DefaultRule}
use Rattle.dm_schema.specs.declared.column.DefaultRule.TheVariants as default
use Rattle.dm_schema.specs.Layout.{Layout}
use Rattle.dm_schema.specs.Kinds.{is_integer_size, is_between, is_folded, is_kind, is_key}
use Rattle.dm_text.specs.Kinds.{integer_text, prefix_text, fraction_digits}
use Rattle.dm_lex.specs.declared.token.TokenKind.{TokenKind}
use Rattle.dm_lex.specs.declared.token.TokenKind.TheVariants as token
use Rattle.dm_grammar.specs.Grammar.{Grammar, Letter}
use Rattle.dm_grammar.specs.Grammar as grammar
use Rattle.dm_grammar.specs.Meaning.{more_items}
use Rattle.dm_syntax.specs.declared.terminal.TheConstants as terminal
use Rattle.dm_syntax.specs.declared.class.TheConstants as class
use Rattle.dm_syntax.specs.declared.role.TheConstants as role
use Rattle.dm_syntax.specs.Classes.{in_class}
use Rattle.dm_syntax.specs.Productions as rule
use Rattle.dm_syntax.specs.Pieces.{terminal_of_number}
use Rattle.dm_reread.specs.Parts.{Part, spelled, value_parts}
use Rattle.dm_reread.specs.Read.{IsRead, Null, Literal, Minus, is_literal}
use Rattle.dm_write.proofs.Speaking.{Speaks, nothing, word, both, before, one, other, passing, no_more, more, single, listed}
use Rattle.dm_write.proofs.StatementTokens.{terminal_seen, whole_seen}
use Rattle.dm_write.proofs.Signs as sign
use Rattle.dm_write.proofs.Signs.{Sign, letter_of, letters_of}

-- one more at the end of a repetition
more_at_end : {a : Grammar} (x : List Letter) → Speaks in_class a x → Speaks in_class (grammar.Many a) x
more_at_end {a} x p = subst (λ (z : List Letter). Speaks in_class (grammar.Many a) z) (append-nil x) (more x [] p no_more)

append_nil_of : {a : Grammar} (x : List Letter) → Speaks in_class a (x ++ []) → Speaks in_class a x
append_nil_of {a} x p = subst (λ (z : List Letter). Speaks in_class a z) (append-nil x) p

not_false : (b : Bool) → not b ≡ true → b ≡ false
not_false true h = absurd cc
not_false false h = refl

abbrev Says : Grammar → List Sign → Type 0
Says g signs = Speaks in_class g (letters_of signs)

-- Kinds of numbers.

pub each_size : (P : ℕ → Type 0) (size : ℕ) → P 1 → P 2 → P 3 → P 4 → P 8 → is_integer_size size ≡ true → P size
each_size P size one two three four eight h = by (size == 1) (size == 2) (size == 3) (size == 4) (size == 8) refl refl refl refl refl h where
  is : (n : ℕ) → P n → (size == n) ≡ true → P size
  is n p e = subst P (sym (eqb-true size n e)) p

  by : (a b c d e : Bool) → (size == 1) ≡ a → (size == 2) ≡ b → (size == 3) ≡ c → (size == 4) ≡ d → (size == 8) ≡ e → (a || b || c || d || e) ≡ true → P size
  by true b c d e p q r s t h = is 1 one p
  by false true c d e p q r s t h = is 2 two q
  by false false true d e p q r s t h = is 3 three r
  by false false false true e p q r s t h = is 4 four s
  by false false false false true p q r s t h = is 8 eight t
  by false false false false false p q r s t h = absurd cc

pub each_prefix : (P : ℕ → Type 0) (prefix : ℕ) → P 1 → P 2 → P 3 → P 4 → is_between 1 4 prefix ≡ true → P prefix
each_prefix P zero one two three four h = absurd cc
each_prefix P (suc zero) one two three four h = one
each_prefix P (suc (suc zero)) one two three four h = two
each_prefix P (suc (suc (suc zero))) one two three four h = three
each_prefix P (suc (suc (suc (suc zero)))) one two three four h = four
each_prefix P (suc (suc (suc (suc (suc n))))) one two three four h = absurd (let parts = and_parts (leb 1 (suc (suc (suc (suc (suc n)))))) (leb (suc (suc (suc (suc (suc n))))) 4) h in let most = leb-true _ _ parts.1 in omega (arith, most))

-- a number that is written whole is in a class that has them
is_whole : (number : ℕ) (n : ℕ) → in_class number terminal.WHOLE ≡ true → in_class number (terminal_seen (record { kind = token.Number; bytes = decimal n })) ≡ true
is_whole number n h = ap (in_class number) (whole_seen n) ∙ h

brackets : (n its_role : ℕ) → (its_role == 0) ≡ false → Says (rule.in_brackets its_role) (sign.in_brackets n its_role)
brackets n its_role known =
    before terminal.OPENING role.FILLER terminal.OPENING _ refl refl
    (before terminal.WHOLE its_role _ _ (is_whole terminal.WHOLE n refl) known (word terminal.CLOSING role.FILLER terminal.CLOSING refl refl))

fraction : (digits its_role : ℕ) → (its_role == 0) ≡ false → Says (rule.optional (rule.in_brackets its_role)) (sign.fraction_signs its_role digits)
fraction digits its_role known = by (digits == 0) where
  by : (b : Bool) → Says (rule.optional (rule.in_brackets its_role)) (cond b [] (sign.in_brackets digits its_role))
  by true = one _ nothing
  by false = other _ (brackets digits its_role known)

abbrev SaysInteger : ℕ → Type 0
SaysInteger size = in_class class.INTEGER (terminal_seen (record { kind = token.Word; bytes = integer_text size })) ≡ true

integer : (size : ℕ) → is_integer_size size ≡ true → SaysInteger size
integer size h = each_size SaysInteger size refl refl refl refl refl h

signed_type : (size : ℕ) → is_integer_size size ≡ true → Says rule.data_type (sign.kind_signs (kind.Signed size))
signed_type size h = one _ (before class.INTEGER role.TYPE _ _ (integer size h) refl (passing _ no_more))

unsigned_type : (size : ℕ) → is_integer_size size ≡ true → Says rule.data_type (sign.kind_signs (kind.Unsigned size))
unsigned_type size h =
    one _ (before class.INTEGER role.TYPE _ _ (integer size h) refl
    (passing _ (more ((terminal.UNSIGNED, role.UNSIGNED) ∷ []) [] (other _ (word terminal.UNSIGNED role.UNSIGNED terminal.UNSIGNED refl refl)) no_more)))

decimal_type : (precision scale : ℕ) → Says rule.data_type (sign.kind_signs (kind.Decimal precision scale))
decimal_type precision scale =
    other _ (other _ (one _ (before terminal.DECIMAL role.TYPE terminal.DECIMAL _ refl refl
    (both _ [] (other _ (before terminal.OPENING role.FILLER terminal.OPENING _ refl refl
    (before terminal.WHOLE role.PRECISION _ _ (is_whole terminal.WHOLE precision refl) refl
    (both ((terminal.COMMA, role.FILLER) ∷ (terminal_seen (record { kind = token.Number; bytes = decimal scale }), role.SCALE) ∷ []) _
    (other _ (before terminal.COMMA role.FILLER terminal.COMMA _ refl refl (word terminal.WHOLE role.SCALE _ (is_whole terminal.WHOLE scale refl) refl)))
    (word terminal.CLOSING role.FILLER terminal.CLOSING refl refl)))))
    (one _ nothing)))))

short_string : (kind size : ℕ) → in_class class.SHORT_STRING kind ≡ true → Speaks in_class rule.data_type ((kind, role.TYPE) ∷ letters_of (sign.in_brackets size role.CHAR_LENGTH))
short_string kind size h = other _ (other _ (other _ (one _ (one _ (before class.SHORT_STRING role.TYPE kind _ h refl (other _ (brackets size role.CHAR_LENGTH refl)))))))

long_string : (kind size : ℕ) → in_class class.LONG_STRING kind ≡ true → Speaks in_class rule.data_type ((kind, role.TYPE) ∷ letters_of (sign.in_brackets size role.STRING_LENGTH))
long_string kind size h = other _ (other _ (other _ (one _ (other _ (before class.LONG_STRING role.TYPE kind _ h refl (brackets size role.STRING_LENGTH refl))))))

lob_type : (kind : ℕ) → in_class class.LOB kind ≡ true → Speaks in_class rule.data_type ((kind, role.TYPE) ∷ [])
lob_type kind h = other _ (other _ (other _ (other _ (one _ (before class.LOB role.TYPE kind _ h refl (one _ nothing))))))

abbrev SaysLob : List ℕ → ℕ → Type 0
SaysLob name prefix = in_class class.LOB (terminal_seen (record { kind = token.Word; bytes = prefix_text prefix ++ name })) ≡ true

text_type : (prefix : ℕ) → is_between 1 4 prefix ≡ true → SaysLob (codes "TEXT") prefix
text_type prefix h = each_prefix (SaysLob (codes "TEXT")) prefix refl refl refl refl h

blob_type : (prefix : ℕ) → is_between 1 4 prefix ≡ true → SaysLob (codes "BLOB") prefix
blob_type prefix h = each_prefix (SaysLob (codes "BLOB")) prefix refl refl refl refl h

time_type : (kind digits : ℕ) → in_class class.TIME kind ≡ true → Speaks in_class rule.data_type ((kind, role.TYPE) ∷ letters_of (sign.fraction_signs role.FRACTION digits))
time_type kind digits h = other _ (other _ (other _ (other _ (other _ (one _ (other _ (other _ (before class.TIME role.TYPE kind _ h refl (fraction digits role.FRACTION refl)))))))))

date_type : Speaks in_class rule.data_type ((terminal.DATE, role.TYPE) ∷ [])
date_type = other _ (other _ (other _ (other _ (other _ (one _ (one _ (word terminal.DATE role.TYPE terminal.DATE refl refl)))))))

year_type : Speaks in_class rule.data_type ((terminal.YEAR, role.TYPE) ∷ [])
year_type = other _ (other _ (other _ (other _ (other _ (one _ (other _ (one _ (before terminal.YEAR role.TYPE terminal.YEAR _ refl refl (one _ nothing)))))))))

pub says_kind : (k : Kind) → is_kind k ≡ true → Says rule.data_type (sign.kind_signs k)
says_kind (kind.Signed size) h = signed_type size h
says_kind (kind.Unsigned size) h = unsigned_type size h
says_kind (kind.Decimal precision scale) h = decimal_type precision scale
says_kind (kind.Char most) h = short_string terminal.CHAR most refl
says_kind (kind.Varchar most) h = long_string terminal.VARCHAR most refl
says_kind (kind.Text prefix) h = lob_type _ (text_type prefix h)
says_kind (kind.Binary size) h = short_string terminal.BINARY size refl
says_kind (kind.Varbinary most) h = long_string terminal.VARBINARY most refl
says_kind (kind.Blob prefix) h = lob_type _ (blob_type prefix h)
says_kind kind.Date h = date_type
says_kind kind.Year h = year_type
says_kind (kind.Datetime digits) h = time_type terminal.DATETIME digits refl
says_kind (kind.Timestamp digits) h = time_type terminal.TIMESTAMP digits refl

-- Columns.

plain_literal : (kind : ℕ) → in_class class.PLAIN_LITERAL kind ≡ true → Speaks in_class rule.literal ((kind, role.LITERAL) ∷ [])
plain_literal kind h = one _ (word class.PLAIN_LITERAL role.LITERAL kind h refl)

number_is_plain : (bytes : List ℕ) → in_class class.PLAIN_LITERAL (terminal_of_number bytes) ≡ true
number_is_plain bytes = by (list_any (λ b. b == 46) bytes) where
  by : (t : Bool) → in_class class.PLAIN_LITERAL (cond t terminal.FRACTIONAL terminal.WHOLE) ≡ true
  by true = refl
  by false = refl

number_is_number : (bytes : List ℕ) → in_class class.NUMBER (terminal_of_number bytes) ≡ true
number_is_number bytes = by (list_any (λ b. b == 46) bytes) where
  by : (t : Bool) → in_class class.NUMBER (cond t terminal.FRACTIONAL terminal.WHOLE) ≡ true
  by true = refl
  by false = refl

is_plain : (kind : TokenKind) (bytes : List ℕ) → is_literal kind ≡ true → in_class class.PLAIN_LITERAL (terminal_seen (record { kind = kind; bytes = bytes })) ≡ true
is_plain token.Word bytes h = absurd cc
is_plain token.Quoted bytes h = absurd cc
is_plain token.Text bytes h = refl
is_plain token.Hex bytes h = refl
is_plain token.Number bytes h = number_is_plain bytes
is_plain token.Mark bytes h = absurd cc

abbrev SaysValue : List Part → Type 0
SaysValue parts = Says rule.literal (sign.value_signs (spelled parts))

pub says_value : (k : Kind) (v : Value) (parts : List Part) → IsRead k v parts → SaysValue parts
says_value k v parts (Null is e h) = subst SaysValue (sym e) (plain_literal terminal.NULL refl)
says_value k v parts (Literal kind bytes is e h) = subst SaysValue (sym e) (plain_literal _ (is_plain kind bytes is))
says_value k v parts (Minus digits e h) =
    subst SaysValue (sym e) (other _ (one _ (before terminal.MINUS role.MINUS terminal.MINUS _ refl refl (word class.NUMBER role.LITERAL _ (number_is_number digits) refl))))

-- what a default is read as
abbrev pub DefaultIsRead : Kind → DefaultRule → Type 0
DefaultIsRead k default.Nothing = ⊤
DefaultIsRead k (default.Const v) = IsRead k v (value_parts k v)
DefaultIsRead k default.Now = ⊤

abbrev SaysAttributes : List Sign → Type 0
SaysAttributes signs = Speaks in_class (grammar.Many rule.column_attribute) (letters_of signs)

says_nullable : (nullable : Bool) → Says rule.column_attribute (sign.nullable_signs nullable)
says_nullable true = other _ (one _ (word terminal.NULL role.NULL_WRITTEN terminal.NULL refl refl))
says_nullable false = one _ (before terminal.NOT role.NOT_NULL terminal.NOT _ refl refl (word terminal.NULL role.FILLER terminal.NULL refl refl))

says_moment : (digits : ℕ) → Speaks in_class (rule.moment role.NOW) ((terminal.NOW, role.NOW) ∷ letters_of (sign.fraction_signs role.NOW_FRACTION digits))
says_moment digits = before terminal.NOW role.NOW terminal.NOW _ refl refl (by (digits == 0)) where
  by : (b : Bool) → Speaks in_class (rule.optional (rule.all_of (rule.plain terminal.OPENING ∷ rule.optional (grammar.Word terminal.WHOLE role.NOW_FRACTION) ∷ rule.plain terminal.CLOSING ∷ []))) (letters_of (cond b [] (sign.in_brackets digits role.NOW_FRACTION)))
  by true = one _ nothing
  by false =
      other _ (before terminal.OPENING role.FILLER terminal.OPENING _ refl refl
      (both ((terminal_seen (record { kind = token.Number; bytes = decimal digits }), role.NOW_FRACTION) ∷ []) _ (other _ (word terminal.WHOLE role.NOW_FRACTION _ (is_whole terminal.WHOLE digits refl) refl))
      (word terminal.CLOSING role.FILLER terminal.CLOSING refl refl)))

says_default : (k : Kind) (r : DefaultRule) → DefaultIsRead k r → SaysAttributes (sign.default_signs k r)
says_default k default.Nothing read = no_more
says_default k (default.Const v) read =
    more_at_end _ (other _ (other _ (one _ (before terminal.DEFAULT role.DEFAULT terminal.DEFAULT _ refl refl (one _ (says_value k v (value_parts k v) read))))))
says_default k default.Now read =
    more_at_end _ (other _ (other _ (one _ (before terminal.DEFAULT role.DEFAULT terminal.DEFAULT _ refl refl (other _ (one _ (says_moment (fraction_digits k))))))))

-- signs behind one another
joined : {g : Grammar} (x y : List Sign) → Speaks in_class g (letters_of x ++ letters_of y) → Speaks in_class g (letters_of (x ++ y))
joined {g} x y p = subst (λ (z : List Letter). Speaks in_class g z) (sym (map-append letter_of x y)) p

pub says_column : (c : Column) → is_kind c.kind ≡ true → DefaultIsRead c.kind c.default_rule → Says rule.column_definition (sign.column_signs c)
says_column c is read =
    before class.COLUMN_NAME role.COLUMN_NAME terminal.QUOTED _ refl refl
    (joined (sign.kind_signs c.kind) (sign.attribute_signs c) (both _ _ (says_kind c.kind is)
    (joined (sign.nullable_signs c.nullable) (sign.default_signs c.kind c.default_rule) (more _ _ (says_nullable c.nullable) (says_default c.kind c.default_rule read)))))

-- Keys.

says_part : Speaks in_class rule.key_part ((terminal.QUOTED, role.KEY_PART) ∷ [])
says_part = other _ (before class.NAME role.KEY_PART terminal.QUOTED _ refl refl (both [] [] (one _ nothing) (one _ nothing)))

more_parts : (n : List ℕ) (ns : List (List ℕ)) → Says (rule.separated rule.key_part role.FILLER) (sign.part_sign n ∷ flat_map sign.more_part ns)
more_parts n [] = single terminal.COMMA role.FILLER _ says_part
more_parts n (m ∷ ms) = listed terminal.COMMA role.FILLER terminal.COMMA _ _ refl refl says_part (more_parts m ms)

says_names : (names : List (List ℕ)) → (length names == 0) ≡ false → Says rule.key_body (sign.names_signs names)
says_names [] some = absurd cc
says_names (n ∷ ns) some =
    passing _ (append_nil_of _ (both _ [] (before terminal.OPENING role.FILLER terminal.OPENING _ refl refl
    (joined (sign.part_signs (n ∷ ns)) (sign.mark 41 role.FILLER ∷ []) (both _ _ (more_parts n ns) (word terminal.CLOSING role.FILLER terminal.CLOSING refl refl))))
    (one _ nothing)))

says_primary : (names : List (List ℕ)) → (length names == 0) ≡ false → Says rule.primary_key (sign.primary_signs names)
says_primary names some = before terminal.PRIMARY role.FILLER terminal.PRIMARY _ refl refl (before terminal.KEY role.PRIMARY_KEY terminal.KEY _ refl refl (says_names names some))

says_unique : (k : UniqueKey) → (length k.columns == 0) ≡ false → Says rule.unique_key (sign.unique_signs k)
says_unique k some =
    before terminal.UNIQUE role.UNIQUE_KEY terminal.UNIQUE _ refl refl
    (both ((terminal.KEY, role.FILLER) ∷ []) _ (other _ (word class.KEY_OR_INDEX role.FILLER terminal.KEY refl refl))
    (both ((terminal.QUOTED, role.KEY_NAME) ∷ []) _ (other _ (word class.KEY_NAME role.KEY_NAME terminal.QUOTED refl refl)) (says_names k.columns some)))

-- The definitions.

column_is_definition : (x : List Letter) → Speaks in_class rule.column_definition x → Speaks in_class rule.create_definition x
column_is_definition x p = one x p

primary_is_definition : (x : List Letter) → Speaks in_class rule.primary_key x → Speaks in_class rule.create_definition x
primary_is_definition x p = other x (one x (passing x (one x p)))

unique_is_definition : (x : List Letter) → Speaks in_class rule.unique_key x → Speaks in_class rule.create_definition x
unique_is_definition x p = other x (one x (passing x (other x (one x p))))

more_uniques : (uniques : List UniqueKey) → list_all is_key uniques ≡ true → Speaks in_class (more_items rule.create_definition terminal.COMMA role.DEFINITION) (letters_of (flat_map sign.more_unique uniques))
more_uniques [] keys = no_more
more_uniques (k ∷ ks) keys =
    let parts = and_parts (is_key k) (list_all is_key ks) keys in
    let key = and_parts (is_folded k.name) (not (length k.columns == 0)) parts.0 in
    joined (sign.more_unique k) (flat_map sign.more_unique ks) (more _ _ (before terminal.COMMA role.DEFINITION terminal.COMMA _ refl refl (unique_is_definition _ (says_unique k (not_false _ key.1)))) (more_uniques ks parts.1))

-- of each column the kind and the default are known
abbrev pub ColumnsAreRead : List Column → Type 0
ColumnsAreRead [] = ⊤
ColumnsAreRead (c ∷ cs) = (is_kind c.kind ≡ true) × DefaultIsRead c.kind c.default_rule × ColumnsAreRead cs

definitions : (columns : List Column) (primary : List (List ℕ)) (uniques : List UniqueKey) → ColumnsAreRead columns → (length primary == 0) ≡ false → list_all is_key uniques ≡ true
    → Says (rule.separated rule.create_definition role.DEFINITION) (sign.definition_signs columns primary uniques)
definitions [] primary uniques read some keys = joined (sign.primary_signs primary) (flat_map sign.more_unique uniques) (both _ _ (primary_is_definition _ (says_primary primary some)) (more_uniques uniques keys))
definitions (c ∷ cs) primary uniques read some keys =
    joined (sign.column_signs c) (sign.mark 44 role.DEFINITION ∷ sign.definition_signs cs primary uniques) (listed terminal.COMMA role.DEFINITION terminal.COMMA _ _ refl refl (column_is_definition _ (says_column c read.0 read.1)) (definitions cs primary uniques read.2 some keys))

pub says_create : (table : List ℕ) (layout : Layout) → ColumnsAreRead layout.columns → (length layout.primary == 0) ≡ false → list_all is_key layout.uniques ≡ true
    → Says rule.create_table_statement (sign.create_signs table layout)
says_create table layout read some keys =
    before terminal.CREATE role.FILLER terminal.CREATE _ refl refl
    (both ((terminal.TABLE, role.CREATE_TABLE) ∷ (terminal.QUOTED, role.NAME_PART) ∷ []) _
    (before terminal.TABLE role.CREATE_TABLE terminal.TABLE _ refl refl (other _ (before class.TABLE_NAME role.NAME_PART terminal.QUOTED _ refl refl (one _ nothing))))
    (one _ (before terminal.OPENING role.DEFINITION terminal.OPENING _ refl refl
    (joined (sign.definition_signs layout.columns layout.primary layout.uniques) (sign.mark 41 role.FILLER ∷ []) (both _ _ (definitions layout.columns layout.primary layout.uniques read some keys)
    (both ((terminal.CLOSING, role.FILLER) ∷ []) [] (word terminal.CLOSING role.FILLER terminal.CLOSING refl refl) no_more))))))
