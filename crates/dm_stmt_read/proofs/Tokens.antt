-- Names and values are read as they were written, before what may follow.
use Rattle.std.proofs.Common.{◌≡◌, ℕ, ◌-◌, ◌^◌, ◌<◌, pos, nat_eq, eqb, leb, ltb, Bool, true, false, ◌&&◌, cond, List, [], ◌∷◌, ◌++◌, take, drop, length, codes, Some, refl, sym, ap, ◌∙◌, subst, append-nil, arith, eqb-true, lt-ltb, le-leb, zero-add, take_at, drop_at}
use Rattle.std.specs.List.{starts_with}
use Rattle.std.specs.Fmt.{decimal}
use Rattle.std.proofs.lemmas.Bool.{and_parts, and_from}
use Rattle.dm_value.specs.declared.value.Value.{Value}
use Rattle.dm_value.specs.declared.value.Value.TheVariants as variant
use Rattle.dm_schema.specs.declared.column.Kind.{Kind}
use Rattle.dm_schema.specs.declared.column.Kind.TheVariants as kind
use Rattle.dm_schema.specs.Kinds.{is_kind}
use Rattle.dm_schema.specs.Fits.{fits_by}
use Rattle.dm_text.specs.Names.{quoted}
use Rattle.dm_text.specs.Values.{string_text, value_text}
use Rattle.dm_lex.specs.declared.token.Token.{Token}
use Rattle.dm_lex.specs.declared.token.TokenKind.{TokenKind}
use Rattle.dm_lex.specs.declared.token.TokenKind.TheVariants as token
use Rattle.dm_lex.specs.declared.lexeme.Lexeme.TheVariants as lexeme
use Rattle.dm_lex.specs.Lexemes.{starts, begins_dashes, line_length, lexeme_of}
use Rattle.dm_lex.specs.Literals.{fitting, literal_of}
use Rattle.dm_syntax.specs.Names.{name_of}
use Rattle.dm_lex.specs.Tokens.{Lexed}
use Rattle.dm_reread.specs.Parts.{Part, Piece, text_of, is_piece, is_spelled_before, may_follow, word, mark, has_bytes, value_parts}
use Rattle.dm_reread.specs.Read.{IsRead, Null, Literal, Minus, is_literal}
use Rattle.dm_reread.proofs.Composing.{parts_are_lexed_at}
use Rattle.dm_reread.proofs.Names.{name_token_is_read, string_is_read}
use Rattle.dm_reread.proofs.Lexing.{one_is_spelled, string_is_piece}
use Rattle.dm_reread.proofs.Follows.{ends}
use Rattle.dm_reread.proofs.Written.{value_is_written}
use Rattle.dm_reread.proofs.Spelled.{name_is_spelled, value_is_spelled}
use Rattle.dm_reread.proofs.Reading.{value_is_read}
use Rattle.dm_stmt_read.specs.Readers.{first_of, front, told, name, literal, value, whole_of, small_of, bytes_in, number, small, string, and_then, given}
use Rattle.dm_stmt_read.proofs.Taking.{takes_word, passes_word}

-- the token of so many bytes at the front
abbrev front_token : TokenKind → List ℕ → Token
front_token k bytes = record { kind = k; from = 0; to = length bytes }

front_is : (k : TokenKind) (bytes behind : List ℕ) → is_spelled_before behind (Piece k bytes ∷ []) ≡ true → front (bytes ++ behind) ≡ Some (front_token k bytes)
unfolding front
front_is k bytes behind spelled =
    let whole : bytes ++ behind ≡ (bytes ++ []) ++ behind = ap (λ xs. xs ++ behind) (sym (append-nil bytes)) in
    ap (λ (l : Lexed). first_of l.tokens) (parts_are_lexed_at (bytes ++ behind) 0 (Piece k bytes ∷ []) behind whole spelled)
    ∙ ap (λ n. Some (let t : Token = record { kind = k; from = 0; to = n } in t)) (zero-add (length bytes))

own_bytes : (bytes behind : List ℕ) → take (length bytes - 0) (bytes ++ behind) ≡ bytes
own_bytes bytes behind = take_at bytes behind (length bytes - 0) (omega arith)

-- Names.

pub takes_name : (own behind : List ℕ) → starts 96 behind ≡ false → name (quoted own ++ behind) ≡ Some (own, behind)
unfolding name
takes_name own behind ends =
    let t : Token = front_token token.Quoted (quoted own) in
    let text : List ℕ = quoted own ++ behind in
    let bytes = own_bytes (quoted own) behind in
    ap (λ o. told text o (λ t. Some (name_of text t))) (front_is token.Quoted (quoted own) behind (name_is_spelled own behind ends))
    ∙ (λ i. Some (name_token_is_read text t own (λ j. record { kind = token.Quoted; bytes = bytes j }) i, drop_at (quoted own) behind (length (quoted own)) refl i))

-- Literals.

pub takes_literal : (k : Kind) (minus : Bool) (sort : TokenKind) (bytes behind : List ℕ) (v : Value) → is_spelled_before behind (Piece sort bytes ∷ []) ≡ true → literal_of k minus sort bytes ≡ Some v
    → literal k minus (bytes ++ behind) ≡ Some (v, behind)
unfolding literal
takes_literal k minus sort bytes behind v spelled means =
    let text : List ℕ = bytes ++ behind in
    ap (λ o. told text o (λ t. literal_of k minus t.kind (take (t.to - t.from) (drop t.from text)))) (front_is sort bytes behind spelled)
    ∙ ap (λ xs. told text (Some (front_token sort bytes)) (λ t. literal_of k minus sort xs)) (own_bytes bytes behind)
    ∙ ap (λ o. told text (Some (front_token sort bytes)) (λ t. o)) means
    ∙ ap (λ xs. Some (v, xs)) (drop_at bytes behind (length bytes) refl)

-- Values.

-- no literal begins with a minus
no_literal : (sort : TokenKind) (n : ℕ) (bytes : List ℕ) → is_literal sort ≡ true → is_piece sort n (lexeme_of (45 ∷ bytes)) ≡ true → ⊥
no_literal sort n bytes is piece = by sort (begins_dashes (45 ∷ bytes)) (line_length (45 ∷ bytes)) is piece where
  by : (sort : TokenKind) (dashes : Bool) (m : ℕ) → is_literal sort ≡ true → is_piece sort n (cond dashes (lexeme.Gap m) (lexeme.Piece token.Mark 1)) ≡ true → ⊥
  by token.Word dashes m h p = cc
  by token.Quoted dashes m h p = cc
  by token.Text true m h p = cc
  by token.Text false m h p = cc
  by token.Hex true m h p = cc
  by token.Hex false m h p = cc
  by token.Number true m h p = cc
  by token.Number false m h p = cc
  by token.Mark dashes m h p = cc

no_minus : (sort : TokenKind) (n : ℕ) (left : List ℕ) → is_literal sort ≡ true → is_piece sort n (lexeme_of left) ≡ true → starts_with nat_eq left (codes "-") ≡ false
no_minus sort n [] is piece = refl
no_minus sort n (b ∷ left) is piece = by (eqb 45 b) refl where
  by : (same : Bool) → eqb 45 b ≡ same → (same && true) ≡ false
  by true e = absurd (no_literal sort n left is (subst (λ m. is_piece sort n (lexeme_of (m ∷ left)) ≡ true) (sym (eqb-true 45 b e)) piece))
  by false e = refl

without_minus : (k : Kind) (sort : TokenKind) (bytes behind : List ℕ) (v : Value) → starts_with nat_eq (bytes ++ behind) (codes "-") ≡ false → is_spelled_before behind (Piece sort bytes ∷ []) ≡ true → literal_of k false sort bytes ≡ Some v
    → value k (bytes ++ behind) ≡ Some (v, behind)
unfolding value
without_minus k sort bytes behind v none spelled means = rw (passes_word (codes "-") (bytes ++ behind) none) (takes_literal k false sort bytes behind v spelled means)

with_minus : (k : Kind) (digits behind : List ℕ) (v : Value) → is_spelled_before behind (Piece token.Number digits ∷ []) ≡ true → literal_of k true token.Number digits ≡ Some v → value k (45 ∷ (digits ++ behind)) ≡ Some (v, behind)
unfolding value
with_minus k digits behind v spelled means = rw (takes_word (codes "-") (digits ++ behind)) (takes_literal k true token.Number digits behind v spelled means)

read_parts : (k : Kind) (v : Value) (parts : List Part) (text behind : List ℕ) → text_of parts ≡ text → is_spelled_before behind parts ≡ true → IsRead k v parts → value k (text ++ behind) ≡ Some (v, behind)
read_parts k v parts text behind written spelled (Null is same means) =
    let own : text ≡ codes "NULL" = sym written ∙ ap text_of same in
    let begun : is_spelled_before behind (word (codes "NULL") ∷ []) ≡ true = subst (λ ps. is_spelled_before behind ps ≡ true) same spelled in
    ap (λ xs. value k (xs ++ behind)) own ∙ without_minus k token.Word (codes "NULL") behind v refl begun means
read_parts k v parts text behind written spelled (Literal sort bytes is same means) =
    let own : text ≡ bytes = sym written ∙ ap text_of same ∙ append-nil bytes in
    let begun : is_spelled_before behind (Piece sort bytes ∷ []) ≡ true = subst (λ ps. is_spelled_before behind ps ≡ true) same spelled in
    let piece = and_parts (is_piece sort (length bytes) (lexeme_of (bytes ++ behind))) true begun in
    ap (λ xs. value k (xs ++ behind)) own ∙ without_minus k sort bytes behind v (no_minus sort (length bytes) (bytes ++ behind) is piece.0) begun means
read_parts k v parts text behind written spelled (Minus digits same means) =
    let own : text ≡ 45 ∷ digits = sym written ∙ ap text_of same ∙ ap (λ xs. 45 ∷ xs) (append-nil digits) in
    let begun : is_spelled_before behind (mark 45 ∷ Piece token.Number digits ∷ []) ≡ true = subst (λ ps. is_spelled_before behind ps ≡ true) same spelled in
    let rest = and_parts (is_piece token.Mark 1 (lexeme_of (45 ∷ (text_of (Piece token.Number digits ∷ []) ++ behind)))) (is_spelled_before behind (Piece token.Number digits ∷ [])) begun in
    ap (λ xs. value k (xs ++ behind)) own ∙ with_minus k digits behind v rest.1 means

pub takes_value : (k : Kind) (nullable : Bool) (v : Value) (behind : List ℕ) → is_kind k ≡ true → fits_by k nullable v ≡ true → has_bytes v ≡ true → may_follow behind ≡ true → value k (value_text k v ++ behind) ≡ Some (v, behind)
takes_value k nullable v behind is fits bytes follows =
    read_parts k v (value_parts k v) (value_text k v) behind (value_is_written k v) (value_is_spelled k v behind bytes follows) (value_is_read k nullable v is fits bytes)

-- Numbers and strings.

pub takes_number : (n : ℕ) (behind : List ℕ) → n < 65536 → may_follow behind ≡ true → number (decimal n ++ behind) ≡ Some (n, behind)
unfolding number
takes_number n behind fits follows =
    let below = lt-ltb n 65536 fits in
    let own = takes_value (kind.Unsigned 2) false (variant.Int (pos n)) behind refl (and_from (leb 0 n) (ltb n 65536) (le-leb 0 n (omega arith)) below) refl follows in
    ap (λ o. and_then o (λ v. given (whole_of v))) own ∙ (rw below refl)

pub takes_small : (n : ℕ) (behind : List ℕ) → n < 256 → may_follow behind ≡ true → small (decimal n ++ behind) ≡ Some (n, behind)
unfolding small
takes_small n behind fits follows =
    let below = lt-ltb n 256 fits in
    ap (λ o. and_then o (λ m. given (small_of m))) (takes_number n behind (omega (arith, fits)) follows) ∙ (rw below refl)

pub takes_string : (bytes behind : List ℕ) → length bytes < 2 ^ 32 → may_follow behind ≡ true → string (string_text bytes ++ behind) ≡ Some (bytes, behind)
unfolding string
takes_string bytes behind few follows =
    let below = lt-ltb (length bytes) (2 ^ 32) few in
    let means : literal_of (kind.Blob 4) false token.Text (string_text bytes) ≡ Some (variant.Bytes bytes) =
    ap (λ xs. fitting (kind.Blob 4) (Some (variant.Bytes xs))) (string_is_read bytes) ∙ (rw below refl) in
    ap (λ o. and_then o (λ v. given (bytes_in v)))
    (takes_literal (kind.Blob 4) false token.Text (string_text bytes) behind (variant.Bytes bytes) (one_is_spelled token.Text (string_text bytes) behind (string_is_piece bytes behind (ends behind follows).quote)) means)
