-- The literals of a written row, read from its bracket on, are its values.
use Rattle.std.proofs.Common.{◌≡◌, ℕ, suc, ◌+◌, true, false, ◌&&◌, List, [], ◌∷◌, ◌++◌, length, Some, refl, sym, ap, ◌∙◌, subst, arith, append_assoc, append-nil}
use Rattle.std.specs.Prelude.{⊤, codes}
use Rattle.std.specs.List.{list_all, flat_map}
use Rattle.std.specs.Cmp.Lexicographic.{pointwise}
use Rattle.std.proofs.lemmas.Bool.{and_parts}
use Rattle.dm_value.specs.declared.value.Value.{Value}
use Rattle.dm_schema.specs.declared.column.Kind.{Kind}
use Rattle.dm_schema.specs.declared.column.Column.{Column}
use Rattle.dm_schema.specs.Fits.{fits}
use Rattle.dm_schema.specs.Kinds.{is_column, is_folded, is_kind, is_rule}
use Rattle.dm_lex.specs.declared.token.Token.{Token}
use Rattle.dm_lex.specs.declared.token.TokenKind.{TokenKind}
use Rattle.dm_lex.specs.declared.token.TokenKind.TheVariants as token
use Rattle.dm_lex.specs.Literals.{literal_of}
use Rattle.dm_syntax.specs.Pieces.{bytes_of}
use Rattle.dm_dump.specs.declared.literal.Literal.{Literal}
use Rattle.dm_dump.specs.declared.literal.Waiting.TheVariants as waiting
use Rattle.dm_dump.specs.Terminals.{terminal_of}
use Rattle.dm_dump.specs.Literals.{is_literal, literals_from, value_in, values_of}
use Rattle.dm_reread.specs.Parts.{Part, Piece, text_of, tokens_from, mark, behind_comma, comma_parts, value_parts, all_value_parts, has_bytes}
use Rattle.dm_reread.specs.Read.{IsRead, Null, Literal as Literally, Minus}
use Rattle.dm_reread.proofs.Laws.{value_is_read}
use Rattle.dm_write.proofs.Placed.{Stands, past, past_all, token_at, bytes_at}
use Rattle.dm_write.proofs.DumpTokens.{seen_at, literal_seen}

-- each value of a row is read as itself, and fits its column
abbrev pub AreRead : List Column → List Value → Type 0
AreRead [] [] = ⊤
AreRead [] (v ∷ vs) = ⊥
AreRead (c ∷ cs) [] = ⊥
AreRead (c ∷ cs) (v ∷ vs) = IsRead c.kind v (value_parts c.kind v) × (fits v c ≡ true) × AreRead cs vs

kind_of_column : (c : Column) → is_column c ≡ true → is_kind c.kind ≡ true
kind_of_column c h =
    let parts = and_parts (is_folded c.name && is_kind c.kind) (is_rule c.default_rule) h in
    (and_parts (is_folded c.name) (is_kind c.kind) parts.0).1

pub are_read : (cs : List Column) (vs : List Value) → list_all is_column cs ≡ true → pointwise fits vs cs ≡ true → list_all has_bytes vs ≡ true → AreRead cs vs
are_read [] [] columns fit bytes = tt
are_read [] (v ∷ vs) columns fit bytes = absurd cc
are_read (c ∷ cs) [] columns fit bytes = absurd cc
are_read (c ∷ cs) (v ∷ vs) columns fit bytes =
    let column = and_parts (is_column c) (list_all is_column cs) columns in
    let here = and_parts (fits v c) (pointwise fits vs cs) fit in
    let has = and_parts (has_bytes v) (list_all has_bytes vs) bytes in
    (value_is_read c.kind c.nullable v (kind_of_column c column.0) here.0 has.0, here.0, are_read cs vs column.1 here.1 has.1)

-- One value.

-- a literal stands at the front, and its value is this
pub record Takes (text : List ℕ) (k : Kind) (v : Value) (tokens behind : List Token) : Type 0 where
  pub literal : Literal
  pub stands : literals_from text waiting.Literal tokens ≡ literal ∷ literals_from text waiting.Comma behind
  pub says : literal_of k literal.minus literal.value.kind (bytes_of text literal.value) ≡ Some v

takes_token : (text : List ℕ) (k : Kind) (v : Value) (t : Token) (bytes : List ℕ) (behind : List Token) → is_literal (terminal_of text t) ≡ true → bytes_of text t ≡ bytes → literal_of k false t.kind bytes ≡ Some v → Takes text k v (t ∷ behind) behind
takes_token text k v t bytes behind is has h = record {
  literal = record { first = t; minus = false; value = t };
  stands = rw is refl;
  says = ap (literal_of k false t.kind) has ∙ h;
}

-- the parts of a value, and what stands behind them
abbrev TakesParts : List ℕ → ℕ → Kind → Value → List Part → List Part → Type 0
TakesParts text at k v parts rest = Stands text at (parts ++ rest) → Takes text k v (tokens_from at (parts ++ rest)) (tokens_from (at + length (text_of parts)) rest)

one_part : (text : List ℕ) (at : ℕ) (k : Kind) (v : Value) (kind : TokenKind) (bytes : List ℕ) (rest : List Part)
    → ((s : Stands text at (Piece kind bytes ∷ rest)) → is_literal (terminal_of text (token_at at kind bytes)) ≡ true) → literal_of k false kind bytes ≡ Some v → TakesParts text at k v (Piece kind bytes ∷ []) rest
one_part text at k v kind bytes rest is h s =
    let none = append-nil bytes in
    rw none (takes_token text k v (token_at at kind bytes) bytes (tokens_from (at + length bytes) rest) (is s) (bytes_at text at kind bytes rest s) h)

minus_part : (text : List ℕ) (at : ℕ) (k : Kind) (v : Value) (digits : List ℕ) (rest : List Part) → literal_of k true token.Number digits ≡ Some v → TakesParts text at k v (mark 45 ∷ Piece token.Number digits ∷ []) rest
minus_part text at k v digits rest h s =
    let first = seen_at text at token.Mark (45 ∷ []) (Piece token.Number digits ∷ rest) s in
    let behind = past text at (mark 45) (Piece token.Number digits ∷ rest) s in
    let none = append-nil digits in
    let place : at + suc (length digits) ≡ at + 1 + length digits = omega arith in
    rw (none, place) (record {
      literal = record { first = token_at at token.Mark (45 ∷ []); minus = true; value = token_at (at + 1) token.Number digits };
      stands = rw first refl;
      says = ap (literal_of k true token.Number) (bytes_at text (at + 1) token.Number digits rest behind) ∙ h;
    })

pub takes_value : (text : List ℕ) (at : ℕ) (k : Kind) (v : Value) (parts rest : List Part) → IsRead k v parts → TakesParts text at k v parts rest
takes_value text at k v parts rest (Null is e h) =
    subst (λ (ps : List Part). TakesParts text at k v ps rest) (sym e) (one_part text at k v token.Word (codes "NULL") rest (λ s. ap is_literal (seen_at text at token.Word (codes "NULL") rest s)) h)
takes_value text at k v parts rest (Literally kind bytes is e h) =
    subst (λ (ps : List Part). TakesParts text at k v ps rest) (sym e) (one_part text at k v kind bytes rest (λ s. ap is_literal (seen_at text at kind bytes rest s) ∙ literal_seen kind bytes is) h)
takes_value text at k v parts rest (Minus digits e h) =
    subst (λ (ps : List Part). TakesParts text at k v ps rest) (sym e) (minus_part text at k v digits rest h)

-- All of them.

value_more : (text : List ℕ) (c : Column) (cs : List Column) (v : Value) (vs : List Value) (tokens behind : List Token) → Takes text c.kind v tokens behind → fits v c ≡ true → values_of text cs (literals_from text waiting.Comma behind) ≡ Some vs
    → values_of text (c ∷ cs) (literals_from text waiting.Literal tokens) ≡ Some (v ∷ vs)
value_more text c cs v vs tokens behind taken fit rest =
    let here : value_in text c taken.literal ≡ Some v = rw (taken.says, fit) refl in
    rw (taken.stands, here, rest) refl

no_value_at_end : (text : List ℕ) (at : ℕ) (rest : List Part) → Stands text at (mark 41 ∷ rest) → literals_from text waiting.Literal (tokens_from at (mark 41 ∷ rest)) ≡ []
no_value_at_end text at rest s = rw (seen_at text at token.Mark (41 ∷ []) rest s) refl

no_comma_at_end : (text : List ℕ) (at : ℕ) (rest : List Part) → Stands text at (mark 41 ∷ rest) → literals_from text waiting.Comma (tokens_from at (mark 41 ∷ rest)) ≡ []
no_comma_at_end text at rest s = rw (seen_at text at token.Mark (41 ∷ []) rest s) refl

past_comma : (text : List ℕ) (at : ℕ) (rest : List Part) → Stands text at (mark 44 ∷ rest) → literals_from text waiting.Comma (tokens_from at (mark 44 ∷ rest)) ≡ literals_from text waiting.Literal (tokens_from (at + 1) rest)
past_comma text at rest s = rw (seen_at text at token.Mark (44 ∷ []) rest s) refl

-- what stands behind a value of a row
abbrev more_parts : List Column → List Value → List Part → List Part
more_parts cs vs rest = flat_map behind_comma (all_value_parts cs vs) ++ mark 41 ∷ rest

more_values : (text : List ℕ) (at : ℕ) (cs : List Column) (vs : List Value) (rest : List Part) → AreRead cs vs → Stands text at (more_parts cs vs rest) → values_of text cs (literals_from text waiting.Comma (tokens_from at (more_parts cs vs rest))) ≡ Some vs
more_values text at [] [] rest read s = ap (values_of text []) (no_comma_at_end text at rest s)
more_values text at [] (v ∷ vs) rest read s = absurd read
more_values text at (c ∷ cs) [] rest read s = absurd read
more_values text at (c ∷ cs) (v ∷ vs) rest read s =
    let joined = append_assoc (value_parts c.kind v) (flat_map behind_comma (all_value_parts cs vs)) (mark 41 ∷ rest) in
    let there : Stands text at (mark 44 ∷ value_parts c.kind v ++ more_parts cs vs rest) = subst (λ (ps : List Part). Stands text at (mark 44 ∷ ps)) joined s in
    let value = past text at (mark 44) (value_parts c.kind v ++ more_parts cs vs rest) there in
    let behind = past_all text (at + 1) (value_parts c.kind v) (more_parts cs vs rest) value in
    let taken = takes_value text (at + 1) c.kind v (value_parts c.kind v) (more_parts cs vs rest) read.0 value in
    subst (λ (ps : List Part). values_of text (c ∷ cs) (literals_from text waiting.Comma (tokens_from at (mark 44 ∷ ps))) ≡ Some (v ∷ vs)) (sym joined)
    (ap (values_of text (c ∷ cs)) (past_comma text at (value_parts c.kind v ++ more_parts cs vs rest) there)
    ∙ value_more text c cs v vs _ _ taken read.1 (more_values text (at + 1 + length (text_of (value_parts c.kind v))) cs vs rest read.2 behind))

-- the values of a row, from behind its bracket on
pub row_values : (text : List ℕ) (at : ℕ) (cs : List Column) (vs : List Value) (rest : List Part) → AreRead cs vs → Stands text at (comma_parts (all_value_parts cs vs) ++ mark 41 ∷ rest)
    → values_of text cs (literals_from text waiting.Literal (tokens_from at (comma_parts (all_value_parts cs vs) ++ mark 41 ∷ rest))) ≡ Some vs
row_values text at [] [] rest read s = ap (values_of text []) (no_value_at_end text at rest s)
row_values text at [] (v ∷ vs) rest read s = absurd read
row_values text at (c ∷ cs) [] rest read s = absurd read
row_values text at (c ∷ cs) (v ∷ vs) rest read s =
    let joined = append_assoc (value_parts c.kind v) (flat_map behind_comma (all_value_parts cs vs)) (mark 41 ∷ rest) in
    let there : Stands text at (value_parts c.kind v ++ more_parts cs vs rest) = subst (Stands text at) joined s in
    let behind = past_all text at (value_parts c.kind v) (more_parts cs vs rest) there in
    let taken = takes_value text at c.kind v (value_parts c.kind v) (more_parts cs vs rest) read.0 there in
    subst (λ (ps : List Part). values_of text (c ∷ cs) (literals_from text waiting.Literal (tokens_from at ps)) ≡ Some (v ∷ vs)) (sym joined)
    (value_more text c cs v vs _ _ taken read.1 (more_values text (at + length (text_of (value_parts c.kind v))) cs vs rest read.2 behind))
