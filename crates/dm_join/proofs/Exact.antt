-- Kinds, defaults, columns and keys that are the same are equal.
use Rattle.std.proofs.Common.{◌≡◌, Bool, true, false, List, [], ◌∷◌, eqb, refl, sym, ap, ◌∙◌}
use Rattle.std.specs.Prelude.{◌&&◌}
use mathlib.Core.Bool.{beq}
use Rattle.std.proofs.lemmas.Bool.{false≢true, and_parts, eqb-true}
use Rattle.dm_schema.specs.declared.column.Kind.{Kind}
use Rattle.dm_schema.specs.declared.column.Kind.TheVariants as kind
use Rattle.dm_schema.specs.declared.column.DefaultRule.{DefaultRule}
use Rattle.dm_schema.specs.declared.column.DefaultRule.TheVariants as default
use Rattle.dm_schema.specs.declared.column.Column.{Column}
use Rattle.dm_schema.specs.declared.column.UniqueKey.{UniqueKey}
use Rattle.dm_value.specs.declared.value.Value.{Value}
use Rattle.dm_value.specs.contracts.value.ValuePartialEq.TheImpl as value_eq
use Rattle.dm_value.specs.contracts.value.ValueOrd.TheImpl.Laws as value_laws
use Rattle.dm_value.specs.Order.{value_cmp}
use Rattle.dm_value.proofs.OrderLemmas.{value_exact}
use Rattle.dm_schema.specs.Names.{Text, same_name}
use Rattle.dm_schema.specs.KindOrder.{same_kind}
use Rattle.dm_schema.specs.Schemas.{same_column, same_unique}
use Rattle.dm_join.specs.AtMost.{same_default, same_names}
use Rattle.dm_join.proofs.NameLemmas.{same_is_equal, tied}

abbrev same_value : Value → Value → Bool
same_value = (value_eq.ghosts).eq

abbrev same_bool : Bool → Bool → Bool
same_bool = beq

pub kind_exact : (a b : Kind) → same_kind a b ≡ true → a ≡ b
kind_exact (kind.Signed x) (kind.Signed y) h = ap kind.Signed (eqb-true x y h)
kind_exact (kind.Unsigned x) (kind.Unsigned y) h = ap kind.Unsigned (eqb-true x y h)
kind_exact (kind.Decimal x z) (kind.Decimal y w) h =
    let parts = and_parts (eqb x y) (eqb z w) h in
    ap (λ n. kind.Decimal n z) (eqb-true x y parts.0) ∙ ap (kind.Decimal y) (eqb-true z w parts.1)
kind_exact (kind.Char x) (kind.Char y) h = ap kind.Char (eqb-true x y h)
kind_exact (kind.Varchar x) (kind.Varchar y) h = ap kind.Varchar (eqb-true x y h)
kind_exact (kind.Text x) (kind.Text y) h = ap kind.Text (eqb-true x y h)
kind_exact (kind.Binary x) (kind.Binary y) h = ap kind.Binary (eqb-true x y h)
kind_exact (kind.Varbinary x) (kind.Varbinary y) h = ap kind.Varbinary (eqb-true x y h)
kind_exact (kind.Blob x) (kind.Blob y) h = ap kind.Blob (eqb-true x y h)
kind_exact kind.Date kind.Date h = refl
kind_exact kind.Year kind.Year h = refl
kind_exact (kind.Datetime x) (kind.Datetime y) h = ap kind.Datetime (eqb-true x y h)
kind_exact (kind.Timestamp x) (kind.Timestamp y) h = ap kind.Timestamp (eqb-true x y h)
kind_exact a b h = absurd (false≢true h)

pub value_same : (a b : Value) → same_value a b ≡ true → a ≡ b
value_same a b h = let law = value_laws.matches_eq-law a b in value_exact a b (tied (value_cmp a b) (sym law ∙ h))

pub default_exact : (a b : DefaultRule) → same_default a b ≡ true → a ≡ b
default_exact default.Nothing default.Nothing h = refl
default_exact (default.Const x) (default.Const y) h = ap default.Const (value_same x y h)
default_exact default.Now default.Now h = refl
default_exact a b h = absurd (false≢true h)

pub names_exact : (a b : List Text) → same_names a b ≡ true → a ≡ b
names_exact [] [] h = refl
names_exact [] (y ∷ ys) h = absurd (false≢true h)
names_exact (x ∷ xs) [] h = absurd (false≢true h)
names_exact (x ∷ xs) (y ∷ ys) h =
    let parts = and_parts (same_name x y) (same_names xs ys) h in
    ap (λ n. n ∷ xs) (same_is_equal x y parts.0) ∙ ap (λ l. y ∷ l) (names_exact xs ys parts.1)

pub unique_exact : (a b : UniqueKey) → same_unique a b ≡ true → a ≡ b
unique_exact a b h =
    let parts = and_parts (same_name a.name b.name) (same_names a.columns b.columns) h in
    ap (λ n. record { name = n; columns = a.columns }) (same_is_equal a.name b.name parts.0) ∙ ap (λ l. record { name = b.name; columns = l }) (names_exact a.columns b.columns parts.1)

bool_exact : (a b : Bool) → same_bool a b ≡ true → a ≡ b
bool_exact true true h = refl
bool_exact true false h = absurd (false≢true h)
bool_exact false true h = absurd (false≢true h)
bool_exact false false h = refl

pub column_exact : (a b : Column) → same_column a b ≡ true → a ≡ b
column_exact a b h =
    let one = and_parts (same_name a.name b.name) (same_kind a.kind b.kind && (same_bool a.nullable b.nullable && same_default a.default_rule b.default_rule)) h in
    let two = and_parts (same_kind a.kind b.kind) (same_bool a.nullable b.nullable && same_default a.default_rule b.default_rule) one.1 in
    let three = and_parts (same_bool a.nullable b.nullable) (same_default a.default_rule b.default_rule) two.1 in
    ap (λ n. record { name = n; kind = a.kind; nullable = a.nullable; default_rule = a.default_rule }) (same_is_equal a.name b.name one.0)
    ∙ ap (λ k. record { name = b.name; kind = k; nullable = a.nullable; default_rule = a.default_rule }) (kind_exact a.kind b.kind two.0)
    ∙ ap (λ n. record { name = b.name; kind = b.kind; nullable = n; default_rule = a.default_rule }) (bool_exact a.nullable b.nullable three.0)
    ∙ ap (λ r. record { name = b.name; kind = b.kind; nullable = b.nullable; default_rule = r }) (default_exact a.default_rule b.default_rule three.1)
