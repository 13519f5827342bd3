-- What the definition of a written column says: the column.
use Rattle.std.proofs.Common.{◌≡◌, ◌==◌, ◌||◌, ◌-◌, ◌^◌, ◌<◌, ℕ, Bool, true, false, not, cond, ltb, leb, List, [], ◌∷◌, ◌++◌, map, Some, None, refl, sym, ap, ◌∙◌, subst, arith}
use Rattle.std.specs.Option.{option_map_or}
use Rattle.std.specs.Prelude.{is_none, unwrap_or, codes}
use Rattle.std.specs.List.{list_any, list_all, find}
use Rattle.std.proofs.lemmas.Bool.{and_parts, eqb-true, leb-true, false≢true}
use Rattle.std.proofs.lemmas.Bool.Decides.{nat_tests}
use Rattle.std.proofs.lemmas.List.{map-append}
use Rattle.dm_value.specs.declared.value.Value.{Value}
use Rattle.dm_value.specs.declared.value.Value.TheVariants as value
use Rattle.dm_schema.specs.declared.column.Kind.{Kind}
use Rattle.dm_schema.specs.declared.column.Kind.TheVariants as kind
use Rattle.dm_schema.specs.declared.column.Column.{Column}
use Rattle.dm_schema.specs.declared.column.DefaultRule.{DefaultRule}
use Rattle.dm_schema.specs.declared.column.DefaultRule.TheVariants as default
use Rattle.dm_schema.specs.Kinds.{is_between, is_kind, is_null, is_rule, is_folded}
use Rattle.dm_schema.specs.Effect.{is_among, rule_by}
use Rattle.dm_text.specs.Kinds.{integer_text, prefix_text, fraction_digits}
use Rattle.dm_lex.specs.declared.token.TokenKind.TheVariants as token
use Rattle.dm_lex.specs.Literals.{lower}
use Rattle.dm_syntax.specs.declared.role.TheConstants as role
use Rattle.dm_syntax.specs.Pieces.{parts}
use Rattle.dm_ddl.specs.Bounds.{held}
use Rattle.dm_reread.specs.Parts.{Part, Spelling, spelled, value_parts}
use Rattle.dm_reread.specs.Read.{IsRead, Null, Literal, Minus}
use Rattle.dm_reread.proofs.Laws.{name_is_read, number_is_read}
use Rattle.dm_write.specs.Lengths.{has_length}
use Rattle.dm_write.proofs.Splitting.{either_false, any_both, find_none, parts_skip, part_last}
use Rattle.dm_write.proofs.StatementTokens.{terminal_seen}
use Rattle.dm_write.proofs.Signs as sign
use Rattle.dm_write.proofs.Signs.{Sign}
use Rattle.dm_write.proofs.CreateSentence.{each_size, each_prefix, DefaultIsRead}
use Rattle.dm_write.proofs.Seen.{Seen, shown, has, number_seen, number, folded}
use Rattle.dm_write.proofs.Meaning.{kind_by, kind_of, starts, last_default_seen, last_seen, rule_of, nullable_by, nullable_of, name_of_column, default_of, unfit_of, column_of, key_from, uniques_of, primaries_of}

abbrev pub all_shown : List Sign → List Seen
all_shown signs = map shown signs

-- Roles that a list hasn't.

-- each role passes
abbrev pub only : (ℕ → Bool) → List Sign → Bool
only test signs = list_all (λ s. test s.role) signs

other_role : (test : ℕ → Bool) (one other : ℕ) → test one ≡ true → test other ≡ false → (one == other) ≡ false
other_role test one other p q = by (one == other) refl where
  by : (b : Bool) → (one == other) ≡ b → b ≡ false
  by true e = absurd (false≢true (sym q ∙ ap test (sym (eqb-true one other e)) ∙ p))
  by false e = refl

pub lacks : (test : ℕ → Bool) (its_role : ℕ) (signs : List Sign) → only test signs ≡ true → test its_role ≡ false → has its_role (all_shown signs) ≡ false
lacks test its_role [] h q = refl
lacks test its_role (s ∷ ss) h q =
    let parts = and_parts (test s.role) (only test ss) h in
    rw (other_role test s.role its_role parts.0 q) (lacks test its_role ss parts.1 q)

none_starts : (test : ℕ → Bool) (roles : List ℕ) (one : ℕ) → test one ≡ true → list_any test roles ≡ false → list_any (λ r. r == one) roles ≡ false
none_starts test [] one p q = refl
none_starts test (r ∷ rs) one p q =
    let both = either_false (test r) (list_any test rs) q in
    let differ : (r == one) ≡ false = by (r == one) refl both.0 in
    rw differ (none_starts test rs one p both.1)
  where
    by : (b : Bool) → (r == one) ≡ b → test r ≡ false → b ≡ false
    by true e t = absurd (false≢true (sym t ∙ ap test (eqb-true r one e) ∙ p))
    by false e t = refl

pub starts_none : (test : ℕ → Bool) (roles : List ℕ) (signs : List Sign) → only test signs ≡ true → list_any test roles ≡ false → list_any (starts roles) (all_shown signs) ≡ false
starts_none test roles [] h q = refl
starts_none test roles (s ∷ ss) h q =
    let parts = and_parts (test s.role) (only test ss) h in
    rw (none_starts test roles s.role parts.0 q) (starts_none test roles ss parts.1 q)

-- the roles in a kind's signs
abbrev pub is_kind_role : ℕ → Bool
is_kind_role r = r == role.FILLER || is_between role.TYPE role.FRACTION r

-- in a NULL or NOT NULL
abbrev pub is_null_role : ℕ → Bool
is_null_role r = r == role.FILLER || is_between role.NOT_NULL role.NULL_WRITTEN r

-- in a default
abbrev pub is_default_role : ℕ → Bool
is_default_role r = r == role.FILLER || r == role.NOW_FRACTION || is_between role.DEFAULT role.LITERAL r

-- behind a default's first word
abbrev pub is_value_role : ℕ → Bool
is_value_role r = r == role.FILLER || r == role.NOW_FRACTION || is_between role.NOW role.LITERAL r

if_brackets : (test : ℕ → Bool) (its_role n : ℕ) (b : Bool) → test role.FILLER ≡ true → test its_role ≡ true → only test (cond b [] (sign.in_brackets n its_role)) ≡ true
if_brackets test its_role n true p q = refl
if_brackets test its_role n false p q = rw (p, q) refl

pub kind_roles : (k : Kind) → only is_kind_role (sign.kind_signs k) ≡ true
kind_roles (kind.Signed size) = refl
kind_roles (kind.Unsigned size) = refl
kind_roles (kind.Decimal precision scale) = refl
kind_roles (kind.Char most) = refl
kind_roles (kind.Varchar most) = refl
kind_roles (kind.Text prefix) = refl
kind_roles (kind.Binary size) = refl
kind_roles (kind.Varbinary most) = refl
kind_roles (kind.Blob prefix) = refl
kind_roles kind.Date = refl
kind_roles kind.Year = refl
kind_roles (kind.Datetime digits) = if_brackets is_kind_role role.FRACTION digits (digits == 0) refl refl
kind_roles (kind.Timestamp digits) = if_brackets is_kind_role role.FRACTION digits (digits == 0) refl refl

pub null_roles : (nullable : Bool) → only is_null_role (sign.nullable_signs nullable) ≡ true
null_roles true = refl
null_roles false = refl

filler_roles : (test : ℕ → Bool) (ss : List Spelling) → test role.FILLER ≡ true → only test (map (λ z. let s : Sign = record { spelling = z; role = role.FILLER } in s) ss) ≡ true
filler_roles test [] p = refl
filler_roles test (s ∷ ss) p = rw p (filler_roles test ss p)

pub value_roles : (ss : List Spelling) → only is_value_role (sign.value_signs ss) ≡ true
value_roles [] = refl
value_roles (s ∷ []) = refl
value_roles (m ∷ s ∷ ss) = filler_roles is_value_role ss refl

-- what stands behind the word DEFAULT
abbrev pub behind_default : Kind → DefaultRule → List Sign
behind_default k default.Nothing = []
behind_default k (default.Const v) = sign.value_signs (spelled (value_parts k v))
behind_default k default.Now = sign.word (codes "CURRENT_TIMESTAMP") role.NOW ∷ sign.fraction_signs role.NOW_FRACTION (fraction_digits k)

pub behind_roles : (k : Kind) (r : DefaultRule) → only is_value_role (behind_default k r) ≡ true
behind_roles k default.Nothing = refl
behind_roles k (default.Const v) = value_roles (spelled (value_parts k v))
behind_roles k default.Now = if_brackets is_value_role role.NOW_FRACTION (fraction_digits k) (fraction_digits k == 0) refl refl

pub weaker : (P Q : ℕ → Bool) (signs : List Sign) → ((r : ℕ) → P r ≡ true → Q r ≡ true) → only P signs ≡ true → only Q signs ≡ true
weaker P Q [] w h = refl
weaker P Q (s ∷ ss) w h =
    let parts = and_parts (P s.role) (only P ss) h in
    rw (w s.role parts.0) (weaker P Q ss w parts.1)

value_is_default : (r : ℕ) → is_value_role r ≡ true → is_default_role r ≡ true
value_is_default r h = by (r == role.FILLER) (r == role.NOW_FRACTION) h where
  by : (a b : Bool) → (a || b || is_between role.NOW role.LITERAL r) ≡ true → (a || b || is_between role.DEFAULT role.LITERAL r) ≡ true
  by true b h = refl
  by false true h = refl
  by false false h =
      let parts = and_parts (leb role.NOW r) (leb r role.LITERAL) h in
      let least = leb-true role.NOW r parts.0 in
      let low : leb role.DEFAULT r ≡ true = search (nat_tests, arith) in
      rw (low, parts.1) refl

pub default_roles : (k : Kind) (r : DefaultRule) → only is_default_role (sign.default_signs k r) ≡ true
default_roles k default.Nothing = refl
default_roles k (default.Const v) = weaker is_value_role is_default_role (behind_default k (default.Const v)) value_is_default (behind_roles k (default.Const v))
default_roles k default.Now = weaker is_value_role is_default_role (behind_default k default.Now) value_is_default (behind_roles k default.Now)

-- Numbers and names.

pub small_number : (n its_role : ℕ) → n < 65536 → number_seen (shown (sign.number n its_role)) ≡ n
small_number n its_role small =
    let test : ltb n (2 ^ 64) ≡ true = search (nat_tests, arith) in
    let tiny : n < 10 ^ 64 = omega arith in
    ap held (number_is_read n tiny) ∙ ap (λ b. cond b n (2 ^ 64 - 1)) test

lower_same : (name : List ℕ) → is_folded name ≡ true → map lower name ≡ name
lower_same [] h = refl
lower_same (b ∷ bs) h = by (is_between 65 90 b) (list_any (is_between 65 90) bs) refl refl h (lower_same bs) where
  by : (a c : Bool) → is_between 65 90 b ≡ a → list_any (is_between 65 90) bs ≡ c → not (a || c) ≡ true → (not (list_any (is_between 65 90) bs) ≡ true → map lower bs ≡ bs) → map lower (b ∷ bs) ≡ b ∷ bs
  by true c e f h rest = absurd cc
  by false true e f h rest = absurd cc
  by false false e f h rest = rw e (ap (λ z. b ∷ z) (rest (rw f refl)))

pub folded_name_is_read : (name : List ℕ) (its_role : ℕ) → is_folded name ≡ true → folded (shown (sign.name name its_role)) ≡ name
folded_name_is_read name its_role h = ap (map lower) (name_is_read name) ∙ lower_same name h

-- The kind.

-- the mark before a definition, and the column's name
abbrev pub head_of : Sign → List ℕ → List Seen → List Seen
head_of d name rest = shown (record { spelling = d.spelling; role = role.DEFINITION }) ∷ shown (sign.name name role.COLUMN_NAME) ∷ rest

-- what stands behind a kind: attributes, which say nothing of it
pub record Behind (xs : List Seen) : Type 0 where
  pub signed : has role.UNSIGNED xs ≡ false
  pub whole : has role.FRACTION xs ≡ false

abbrev KindIs : Sign → List ℕ → List Seen → Kind → Type 0
KindIs d name xs k = kind_of (head_of d name (all_shown (sign.kind_signs k) ++ xs)) ≡ k

sized : (k : ℕ → Kind) (n its_role : ℕ) → n < 65536 → k (number_seen (shown (sign.number n its_role))) ≡ k n
sized k n its_role small = ap k (small_number n its_role small)

digits_kind : (d : Sign) (name : List ℕ) (word : List ℕ) (k : ℕ → Kind) (xs : List Seen) (digits : ℕ) → digits < 65536 → Behind xs
    → ((n : ℕ) (unsigned : Bool) (precision scale short long : ℕ) → kind_by (terminal_seen (record { kind = token.Word; bytes = word })) unsigned precision scale short long n ≡ k n)
    → kind_of (head_of d name (all_shown (sign.word word role.TYPE ∷ sign.fraction_signs role.FRACTION digits) ++ xs)) ≡ k digits
digits_kind d name word k xs digits small behind is = by (digits == 0) refl where
  none : find (λ s. s.role == role.FRACTION) xs ≡ None
  none = find_none (λ s. s.role == role.FRACTION) xs behind.whole

  by : (b : Bool) → (digits == 0) ≡ b → kind_of (head_of d name (all_shown (sign.word word role.TYPE ∷ cond b [] (sign.in_brackets digits role.FRACTION)) ++ xs)) ≡ k digits
  by true e = is (number role.FRACTION 0 (head_of d name (shown (sign.word word role.TYPE) ∷ xs))) _ _ _ _ _ ∙ ap k (ap (λ o. option_map_or number_seen o 0) none ∙ sym (eqb-true digits 0 e))
  by false e = is (number_seen (shown (sign.number digits role.FRACTION))) _ _ _ _ _ ∙ sized k digits role.FRACTION small

at_most : (n most : ℕ) → leb n most ≡ true → most < 65536 → n < 65536
at_most n most h small = let le = leb-true n most h in omega (arith, le, small)

pub kind_is_read : (d : Sign) (name : List ℕ) (k : Kind) (xs : List Seen) → is_kind k ≡ true → has_length k ≡ true → Behind xs → KindIs d name xs k
kind_is_read d name (kind.Signed size) xs h l behind =
    each_size (λ n. kind_of (head_of d name (shown (sign.word (integer_text n) role.TYPE) ∷ xs)) ≡ kind.Signed n) size
    (ap (λ b. cond b (kind.Unsigned 1) (kind.Signed 1)) behind.signed) (ap (λ b. cond b (kind.Unsigned 2) (kind.Signed 2)) behind.signed) (ap (λ b. cond b (kind.Unsigned 3) (kind.Signed 3)) behind.signed)
    (ap (λ b. cond b (kind.Unsigned 4) (kind.Signed 4)) behind.signed) (ap (λ b. cond b (kind.Unsigned 8) (kind.Signed 8)) behind.signed) h
kind_is_read d name (kind.Unsigned size) xs h l behind =
    each_size (λ n. kind_of (head_of d name (shown (sign.word (integer_text n) role.TYPE) ∷ shown (sign.word (codes "UNSIGNED") role.UNSIGNED) ∷ xs)) ≡ kind.Unsigned n) size refl refl refl refl refl h
kind_is_read d name (kind.Decimal precision scale) xs h l behind =
    let range = and_parts (is_between 1 38 precision) (leb scale precision) h in
    let most = and_parts (leb 1 precision) (leb precision 38) range.0 in
    let small = at_most precision 38 most.1 (omega arith) in
    let below = leb-true scale precision range.1 in
    let tiny : scale < 65536 = omega (arith, below, small) in
    λ i. kind.Decimal (small_number precision role.PRECISION small i) (small_number scale role.SCALE tiny i)
kind_is_read d name (kind.Char most) xs h l behind = sized kind.Char most role.CHAR_LENGTH (at_most most 255 h (omega arith))
kind_is_read d name (kind.Varchar most) xs h l behind = sized kind.Varchar most role.STRING_LENGTH (at_most most 65535 l (omega arith))
kind_is_read d name (kind.Text prefix) xs h l behind =
    each_prefix (λ n. kind_of (head_of d name (shown (sign.word (prefix_text n ++ codes "TEXT") role.TYPE) ∷ xs)) ≡ kind.Text n) prefix refl refl refl refl h
kind_is_read d name (kind.Binary size) xs h l behind = sized kind.Binary size role.CHAR_LENGTH (at_most size 255 h (omega arith))
kind_is_read d name (kind.Varbinary most) xs h l behind = sized kind.Varbinary most role.STRING_LENGTH (at_most most 65535 l (omega arith))
kind_is_read d name (kind.Blob prefix) xs h l behind =
    each_prefix (λ n. kind_of (head_of d name (shown (sign.word (prefix_text n ++ codes "BLOB") role.TYPE) ∷ xs)) ≡ kind.Blob n) prefix refl refl refl refl h
kind_is_read d name kind.Date xs h l behind = refl
kind_is_read d name kind.Year xs h l behind = refl
kind_is_read d name (kind.Datetime digits) xs h l behind = digits_kind d name (codes "DATETIME") kind.Datetime xs digits (at_most digits 6 h (omega arith)) behind (λ n u p s c g. refl)
kind_is_read d name (kind.Timestamp digits) xs h l behind = digits_kind d name (codes "TIMESTAMP") kind.Timestamp xs digits (at_most digits 6 h (omega arith)) behind (λ n u p s c g. refl)

-- The attributes.

abbrev pub column_item : Sign → Column → List Sign
column_item d c = record { spelling = d.spelling; role = role.DEFINITION } ∷ sign.column_signs c

abbrev null_seen : Column → List Seen
null_seen c = all_shown (sign.nullable_signs c.nullable)

abbrev default_seen : Column → List Seen
default_seen c = all_shown (sign.default_signs c.kind c.default_rule)

abbrev kind_shown : Column → List Seen
kind_shown c = all_shown (sign.kind_signs c.kind)

-- a column's item by its parts
abbrev pub column_parts : Sign → Column → List Seen
column_parts d c = head_of d c.name (kind_shown c ++ (null_seen c ++ default_seen c))

pub column_splits : (d : Sign) (c : Column) → all_shown (column_item d c) ≡ column_parts d c
column_splits d c =
    ap (head_of d c.name) (map-append shown (sign.kind_signs c.kind) (sign.attribute_signs c)
    ∙ ap (λ z. kind_shown c ++ z) (map-append shown (sign.nullable_signs c.nullable) (sign.default_signs c.kind c.default_rule)))

kind_lacks : (c : Column) (its_role : ℕ) → is_kind_role its_role ≡ false → has its_role (kind_shown c) ≡ false
kind_lacks c its_role q = lacks is_kind_role its_role (sign.kind_signs c.kind) (kind_roles c.kind) q

null_lacks : (c : Column) (its_role : ℕ) → is_null_role its_role ≡ false → has its_role (null_seen c) ≡ false
null_lacks c its_role q = lacks is_null_role its_role (sign.nullable_signs c.nullable) (null_roles c.nullable) q

default_lacks : (c : Column) (its_role : ℕ) → is_default_role its_role ≡ false → has its_role (default_seen c) ≡ false
default_lacks c its_role q = lacks is_default_role its_role (sign.default_signs c.kind c.default_rule) (default_roles c.kind c.default_rule) q

in_attributes : (c : Column) (its_role : ℕ) → has its_role (null_seen c ++ default_seen c) ≡ (has its_role (null_seen c) || has its_role (default_seen c))
in_attributes c its_role = any_both (λ s. s.role == its_role) (null_seen c) (default_seen c)

in_all : (c : Column) (its_role : ℕ) → has its_role (kind_shown c ++ (null_seen c ++ default_seen c)) ≡ (has its_role (kind_shown c) || (has its_role (null_seen c) || has its_role (default_seen c)))
in_all c its_role = any_both (λ s. s.role == its_role) (kind_shown c) (null_seen c ++ default_seen c) ∙ ap (λ b. has its_role (kind_shown c) || b) (in_attributes c its_role)

attributes_lack : (c : Column) (its_role : ℕ) → is_null_role its_role ≡ false → is_default_role its_role ≡ false → has its_role (null_seen c ++ default_seen c) ≡ false
attributes_lack c its_role p q = in_attributes c its_role ∙ (λ i. null_lacks c its_role p i || default_lacks c its_role q i)

-- a role that no column has behind its name
all_lack : (c : Column) (its_role : ℕ) → is_kind_role its_role ≡ false → is_null_role its_role ≡ false → is_default_role its_role ≡ false → has its_role (kind_shown c ++ (null_seen c ++ default_seen c)) ≡ false
all_lack c its_role k p q = in_all c its_role ∙ (λ i. kind_lacks c its_role k i || (null_lacks c its_role p i || default_lacks c its_role q i))

-- a role of NULL and NOT NULL
nulls_have : (c : Column) (its_role : ℕ) → is_kind_role its_role ≡ false → is_default_role its_role ≡ false → has its_role (kind_shown c ++ (null_seen c ++ default_seen c)) ≡ has its_role (null_seen c)
nulls_have c its_role k q = in_all c its_role ∙ (λ i. kind_lacks c its_role k i || (has its_role (null_seen c) || default_lacks c its_role q i)) ∙ no_other (has its_role (null_seen c)) where
  no_other : (b : Bool) → (b || false) ≡ b
  no_other true = refl
  no_other false = refl

kind_of_column : (d : Sign) (c : Column) → is_kind c.kind ≡ true → has_length c.kind ≡ true → kind_of (column_parts d c) ≡ c.kind
kind_of_column d c h l = kind_is_read d c.name c.kind (null_seen c ++ default_seen c) h l (record {
  signed = attributes_lack c role.UNSIGNED refl refl;
  whole = attributes_lack c role.FRACTION refl refl;
})

nullable_is_read : (d : Sign) (primary : List (List ℕ)) (name : List ℕ) (c : Column) → nullable_of primary name (column_parts d c) ≡ c.nullable
nullable_is_read d primary name c =
    (λ i. nullable_by (all_lack c role.AUTO_INCREMENT refl refl refl i) (nulls_have c role.NOT_NULL refl refl i) (nulls_have c role.NULL_WRITTEN refl refl i) (is_among primary name))
    ∙ by c.nullable
  where
    by : (b : Bool) → nullable_by false (has role.NOT_NULL (all_shown (sign.nullable_signs b))) (has role.NULL_WRITTEN (all_shown (sign.nullable_signs b))) (is_among primary name) ≡ b
    by true = refl
    by false = refl

-- The default.

abbrev default_word : Sign
default_word = sign.word (codes "DEFAULT") role.DEFAULT

-- what a default's signs say
abbrev DefaultSays : Kind → Bool → List Sign → DefaultRule → Type 0
DefaultSays k nullable signs r = rule_of k nullable (last_seen (parts (starts (role.DEFAULT ∷ [])) (all_shown signs))) ≡ Some r

written_default : (k : Kind) (nullable : Bool) (signs : List Sign) (r : DefaultRule) → only is_value_role signs ≡ true → rule_of k nullable (Some (all_shown (default_word ∷ signs))) ≡ Some r → DefaultSays k nullable (default_word ∷ signs) r
written_default k nullable signs r only_values h =
    let one = part_last (starts (role.DEFAULT ∷ [])) (shown default_word) (all_shown signs) refl (starts_none is_value_role (role.DEFAULT ∷ []) signs only_values refl) in
    ap (λ ps. rule_of k nullable (last_seen ps)) one ∙ h

rule_of_value : (nullable : Bool) (v : Value) → not (is_null v) ≡ true → rule_by nullable (Some v) ≡ Some (default.Const v)
rule_of_value nullable value.Null h = absurd cc
rule_of_value nullable (value.Int n) h = refl
rule_of_value nullable (value.Bytes bytes) h = refl
rule_of_value nullable (value.Dec n) h = refl
rule_of_value nullable (value.Date n) h = refl
rule_of_value nullable (value.Moment n) h = refl
rule_of_value nullable (value.Stamp n) h = refl

abbrev ConstSays : Kind → Bool → Value → List Part → Type 0
ConstSays k nullable v ps = rule_of k nullable (Some (all_shown (default_word ∷ sign.value_signs (spelled ps)))) ≡ Some (default.Const v)

const_says : (k : Kind) (nullable : Bool) (v : Value) (ps : List Part) → not (is_null v) ≡ true → IsRead k v ps → ConstSays k nullable v ps
const_says k nullable v ps some (Null is e h) = absurd (let never : not (is_null value.Null) ≡ true = ap (λ z. not (is_null z)) (sym is) ∙ some in cc)
const_says k nullable v ps some (Literal kind bytes is e h) = subst (ConstSays k nullable v) (sym e) (ap (rule_by nullable) h ∙ rule_of_value nullable v some)
const_says k nullable v ps some (Minus digits e h) = subst (ConstSays k nullable v) (sym e) (ap (rule_by nullable) h ∙ rule_of_value nullable v some)

default_is_read : (k : Kind) (nullable : Bool) (r : DefaultRule) → is_rule r ≡ true → DefaultIsRead k r → DefaultSays k nullable (sign.default_signs k r) r
default_is_read k nullable default.Nothing h read = refl
default_is_read k nullable (default.Const v) h read =
    written_default k nullable (behind_default k (default.Const v)) (default.Const v) (behind_roles k (default.Const v)) (const_says k nullable v (value_parts k v) h read)
default_is_read k nullable default.Now h read = written_default k nullable (behind_default k default.Now) default.Now (behind_roles k default.Now) refl

default_starts : List Seen → Bool
default_starts xs = list_any (starts (role.DEFAULT ∷ [])) xs

last_default_of : (d : Sign) (c : Column) → last_default_seen (column_parts d c) ≡ last_seen (parts (starts (role.DEFAULT ∷ [])) (default_seen c))
last_default_of d c =
    ap last_seen (parts_skip (starts (role.DEFAULT ∷ [])) (kind_shown c) (null_seen c ++ default_seen c) (starts_none is_kind_role (role.DEFAULT ∷ []) (sign.kind_signs c.kind) (kind_roles c.kind) refl)
    ∙ parts_skip (starts (role.DEFAULT ∷ [])) (null_seen c) (default_seen c) (starts_none is_null_role (role.DEFAULT ∷ []) (sign.nullable_signs c.nullable) (null_roles c.nullable) refl))

-- what is known of a column that is written
pub record IsWritten (c : Column) : Type 0 where
  pub folded : is_folded c.name ≡ true
  pub kind : is_kind c.kind ≡ true
  pub length : has_length c.kind ≡ true
  pub rule : is_rule c.default_rule ≡ true
  pub read : DefaultIsRead c.kind c.default_rule

name_is : (d : Sign) (c : Column) → IsWritten c → name_of_column (column_parts d c) ≡ c.name
name_is d c w = folded_name_is_read c.name role.COLUMN_NAME w.folded

default_of_column : (d : Sign) (primary : List (List ℕ)) (c : Column) → IsWritten c → default_of primary (column_parts d c) ≡ Some c.default_rule
default_of_column d primary c w =
    (λ i. rule_of (kind_of_column d c w.kind w.length i) (nullable_is_read d primary (name_of_column (column_parts d c)) c i) (last_default_of d c i))
    ∙ default_is_read c.kind c.nullable c.default_rule w.rule w.read

-- The column.

no_key : (behind : Bool) (xs : List Seen) → has role.KEY_COLUMN xs ≡ false → key_from behind xs ≡ false
no_key behind [] h = refl
no_key behind (x ∷ xs) h =
    let both = either_false (x.role == role.KEY_COLUMN) (has role.KEY_COLUMN xs) h in
    rw both.0 (no_key (x.role == role.UNIQUE_COLUMN) xs both.1)

pub column_is_read : (d : Sign) (primary : List (List ℕ)) (c : Column) → IsWritten c → column_of primary (column_parts d c) ≡ c
column_is_read d primary c w = λ i.
    let one : Column = record {
      name = name_is d c w i;
      kind = kind_of_column d c w.kind w.length i;
      nullable = nullable_is_read d primary (name_of_column (column_parts d c)) c i;
      default_rule = unwrap_or (default_of_column d primary c w i) default.Nothing;
    } in
    one

pub column_fits : (d : Sign) (primary : List (List ℕ)) (c : Column) → IsWritten c → unfit_of primary (column_parts d c) ≡ false
column_fits d primary c w = ap is_none (default_of_column d primary c w)

pub no_primary : (d : Sign) (c : Column) → primaries_of (column_parts d c) ≡ []
no_primary d c =
    let key = all_lack c role.PRIMARY_KEY refl refl refl in
    let makes = no_key false (kind_shown c ++ (null_seen c ++ default_seen c)) (all_lack c role.KEY_COLUMN refl refl refl) in
    rw (key, makes) refl

pub no_unique : (d : Sign) (c : Column) → uniques_of (column_parts d c) ≡ []
no_unique d c =
    let column = all_lack c role.UNIQUE_COLUMN refl refl refl in
    let key = all_lack c role.UNIQUE_KEY refl refl refl in
    let index = all_lack c role.UNIQUE_INDEX refl refl refl in
    rw (column, key, index) refl
