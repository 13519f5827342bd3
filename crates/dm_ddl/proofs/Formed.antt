-- Names of columns and keys are folded, and a column that is read is one of which a schema can be made.
use Rattle.std.proofs.Common.{◌≡◌, ◌+◌, ◌≤◌, ◌<◌, ℕ, Bool, true, false, ◌&&◌, ◌⊎◌, inl, inr, List, [], ◌∷◌, map, Option, Some, None, Result, Ok, Err, unwrap_or, IfOk, refl, ◌∙◌, arith, leb, cond}
use Rattle.std.specs.Option.{option_map_or}
use Rattle.std.specs.List.{list_any}
use Rattle.std.specs.declared.alloc.AllocError.{AllocError}
use Rattle.std.proofs.lemmas.Bool.{leb-true}
use Rattle.std.proofs.lemmas.Bool.Decides.{leb_tells}
use Rattle.dm_value.specs.declared.value.Value.{Value}
use Rattle.dm_value.specs.declared.value.Value.TheVariants as value
use Rattle.dm_schema.specs.declared.column.Kind.{Kind}
use Rattle.dm_schema.specs.declared.column.DefaultRule.{DefaultRule}
use Rattle.dm_schema.specs.declared.column.DefaultRule.TheVariants as default
use Rattle.dm_schema.specs.Kinds.{is_between, is_folded, is_kind, is_rule, is_column}
use Rattle.dm_schema.specs.Effect.{rule_by}
use Rattle.dm_lex.specs.Literals.{lower}
use Rattle.dm_syntax.specs.declared.piece.Piece.{Piece}
use Rattle.dm_syntax.specs.declared.role.TheConstants as role
use Rattle.dm_syntax.specs.Pieces.{first_with, has_role}
use Rattle.dm_ddl.specs.Types.{kind_in}
use Rattle.dm_ddl.specs.Columns.{literal_in, last_default, rule_in, nullable_in, column_name, default_in}

-- Rules.

by_value : (nullable : Bool) (o : Option Value) → is_rule (unwrap_or (rule_by nullable o) default.Nothing) ≡ true
by_value nullable None = refl
by_value true (Some value.Null) = refl
by_value false (Some value.Null) = refl
by_value nullable (Some (value.Int n)) = refl
by_value nullable (Some (value.Bytes bytes)) = refl
by_value nullable (Some (value.Dec d)) = refl
by_value nullable (Some (value.Date d)) = refl
by_value nullable (Some (value.Moment m)) = refl
by_value nullable (Some (value.Stamp s)) = refl

pub rule_formed : (text : List ℕ) (k : Kind) (nullable : Bool) (last : Option (List Piece)) → is_rule (unwrap_or (rule_in text k nullable last) default.Nothing) ≡ true
rule_formed text k nullable None = refl
rule_formed text k nullable (Some pieces) = by (has_role role.NOW pieces) refl where
  by : (t : Bool) → has_role role.NOW pieces ≡ t → is_rule (unwrap_or (cond t (Some default.Now) (rule_by nullable (literal_in text k pieces))) default.Nothing) ≡ true
  by true e = refl
  by false e = by_value nullable (literal_in text k pieces)

-- Columns.

pub column_formed : (name : List ℕ) (k : Kind) (nullable : Bool) (rule : DefaultRule) → is_folded name ≡ true → is_kind k ≡ true → is_rule rule ≡ true
    → is_column (record { name = name; kind = k; nullable = nullable; default_rule = rule }) ≡ true
column_formed name k nullable rule folded kind formed = rw (folded, kind, formed) refl

pub default_as : (text : List ℕ) (primary : List (List ℕ)) (item : List Piece) (k : Kind) (nullable : Bool) (name : List ℕ) (r : Result (Option DefaultRule) AllocError)
    → name ≡ column_name text item → k ≡ kind_in text item → nullable ≡ nullable_in primary name item
    → IfOk r (λ rule. rule ≡ rule_in text k nullable (last_default item)) → IfOk r (λ rule. rule ≡ default_in text primary item)
default_as text primary item k nullable name (Ok rule) n e f h = h ∙ rw (e, f, n) refl
default_as text primary item k nullable name (Err e') n e f h = tt
