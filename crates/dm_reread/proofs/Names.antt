-- Names and strings are read as they were written.
use Rattle.std.proofs.Common.{◌≡◌, ℕ, ◌≤◌, Bool, true, false, cond, List, [], ◌∷◌, ◌++◌, length, drop, refl, sym, ap, ◌∙◌, subst, arith, eqb, eqb-true}
use Rattle.std.specs.List.{flat_map}
use Rattle.std.proofs.lemmas.List.{length-append}
use Rattle.dm_text.specs.Names.{doubled, quoted}
use Rattle.dm_text.specs.Values.{escaped, string_text}
use Rattle.dm_lex.specs.declared.token.Token.{Token}
use Rattle.dm_lex.specs.declared.token.TokenKind.{TokenKind}
use Rattle.dm_lex.specs.declared.token.TokenKind.TheVariants as token
use Rattle.dm_lex.specs.Literals.{string_of}
use Rattle.dm_syntax.specs.Names.{unquoted, name_of}
use Rattle.dm_syntax.specs.Pieces.{bytes_of}
use Rattle.dm_reread.specs.Parts.{Spelling, spelling_of}
use Rattle.dm_reread.proofs.Lexing.{EscapeOf, Pair, Plain, escape_of}

some_behind : (xs : List ℕ) (b : ℕ) → 1 ≤ length (xs ++ b ∷ [])
some_behind xs b = let long = length-append xs (b ∷ []) in omega (arith, long)

-- Names.

name_passes : (b : ℕ) (xs : List ℕ) → 1 ≤ length xs → eqb b 96 ≡ false → unquoted (b ∷ xs) ≡ b ∷ unquoted xs
name_passes b [] some other = absurd (omega arith)
name_passes b (c ∷ xs) some other = rw other refl

doubled_is_read : (name : List ℕ) → unquoted (flat_map doubled name ++ 96 ∷ []) ≡ name
doubled_is_read [] = refl
doubled_is_read (b ∷ name) = by (eqb b 96) refl (doubled_is_read name) where
  by : (is : Bool) → eqb b 96 ≡ is → unquoted (flat_map doubled name ++ 96 ∷ []) ≡ name → unquoted (cond is (96 ∷ 96 ∷ []) (b ∷ []) ++ flat_map doubled name ++ 96 ∷ []) ≡ b ∷ name
  by true is rest = let same : 96 ≡ b = sym (eqb-true b 96 is) in λ i. same i ∷ rest i
  by false is rest = name_passes b (flat_map doubled name ++ 96 ∷ []) (some_behind (flat_map doubled name) 96) is ∙ ap (λ (xs : List ℕ). b ∷ xs) rest

pub name_is_read : (name : List ℕ) → unquoted (drop 1 (quoted name)) ≡ name
name_is_read name = doubled_is_read name

pub name_token_is_read : (text : List ℕ) (t : Token) (name : List ℕ) → spelling_of text t ≡ record { kind = token.Quoted; bytes = quoted name } → name_of text t ≡ name
name_token_is_read text t name is =
    let kinds : token.Quoted ≡ t.kind = sym (ap (λ (s : Spelling). s.kind) is) in
    let bytes : bytes_of text t ≡ quoted name = ap (λ (s : Spelling). s.bytes) is in
    subst (λ (kind : TokenKind). name_of text (record { kind = kind; from = t.from; to = t.to }) ≡ name) kinds (ap (λ (xs : List ℕ). unquoted (drop 1 xs)) bytes ∙ name_is_read name)

-- Strings.

string_passes : (b : ℕ) (xs : List ℕ) → 1 ≤ length xs → eqb b 92 ≡ false → eqb b 39 ≡ false → string_of (39 ∷ b ∷ xs) ≡ b ∷ string_of (39 ∷ xs)
string_passes b [] some no_escape no_quote = absurd (omega arith)
string_passes b (c ∷ xs) some no_escape no_quote = rw (no_escape, no_quote) refl

escaped_is_read : (bytes : List ℕ) → string_of (39 ∷ (flat_map escaped bytes ++ 39 ∷ [])) ≡ bytes
escaped_is_read [] = refl
escaped_is_read (b ∷ bytes) = by (escaped b) (escape_of b) (escaped_is_read bytes) where
  by : (text : List ℕ) → EscapeOf b text → string_of (39 ∷ (flat_map escaped bytes ++ 39 ∷ [])) ≡ bytes → string_of (39 ∷ (text ++ flat_map escaped bytes ++ 39 ∷ [])) ≡ b ∷ bytes
  by text (Pair c is means) rest = rw is (λ i. means i ++ rest i)
  by text (Plain is no_quote no_escape) rest =
      rw is (string_passes b (flat_map escaped bytes ++ 39 ∷ []) (some_behind (flat_map escaped bytes) 39) no_escape no_quote ∙ ap (λ (xs : List ℕ). b ∷ xs) rest)

pub string_is_read : (bytes : List ℕ) → string_of (string_text bytes) ≡ bytes
string_is_read bytes = escaped_is_read bytes
