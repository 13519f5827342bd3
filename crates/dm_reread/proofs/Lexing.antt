-- The lexemes of what is written: quoted names, strings, words and numbers.
use Rattle.std.proofs.Common.{◌≡◌, ℕ, ◌+◌, ◌/◌, ◌%◌, ◌<◌, ◌≤◌, Bool, true, false, not, ◌&&◌, ◌||◌, cond, List, [], ◌∷◌, ◌++◌, length, drop, Some, refl, sym, ap, ◌∙◌, append_assoc, arith, eqb, ltb, leb, eqb-true, drop_at, drop-drop}
use Rattle.std.specs.Prelude.{codes}
use Rattle.std.specs.List.{flat_map, prefix_len, list_all}
use Rattle.std.proofs.lemmas.Bool.{and_parts, and_from, and_left, and_right, or_parts, not-false, ltb-true, leb-true, agree_below, agree_below_at}
use Rattle.std.proofs.lemmas.List.{length-append}
use Rattle.dm_schema.specs.Kinds.{is_between}
use Rattle.dm_text.specs.Names.{doubled, quoted}
use Rattle.dm_text.specs.Values.{escaped, string_text, hex_digit, hex_pair}
use Rattle.dm_lex.specs.declared.token.TokenKind.{TokenKind}
use Rattle.dm_lex.specs.declared.token.TokenKind.TheVariants as token
use Rattle.dm_lex.specs.declared.lexeme.Lexeme.TheVariants as lexeme
use Rattle.dm_lex.specs.Lexemes.{is_blank, is_digit, is_hex_digit, begins_word, is_word_byte, at_front, starts, longer, closed_length, string_length, name_length, digits_length, number_length, enclosed, lexeme_of}
use Rattle.dm_lex.specs.Literals.{unescaped}
use Rattle.dm_reread.specs.Parts.{Piece, is_piece, is_spelled_before, may_follow, word, are_bytes}
use Rattle.dm_reread.proofs.Composing.{is_piece_from}
use Rattle.dm_reread.proofs.Follows.{ends, run_length}

-- one token before a text
pub one_is_spelled : (kind : TokenKind) (bytes behind : List ℕ) → is_piece kind (length bytes) (lexeme_of (bytes ++ behind)) ≡ true → is_spelled_before behind (Piece kind bytes ∷ []) ≡ true
one_is_spelled kind bytes behind is = and_from (is_piece kind (length bytes) (lexeme_of (bytes ++ behind))) true is refl

-- Between quotes.

-- a byte that neither closes nor escapes
passes_one : (escapes : ℕ → Bool) (quote b : ℕ) (xs : List ℕ) → escapes b ≡ false → eqb b quote ≡ false → closed_length escapes quote (b ∷ xs) ≡ longer 1 (closed_length escapes quote xs)
passes_one escapes quote b [] plain other = rw other refl
passes_one escapes quote b (c ∷ xs) plain other = rw (plain, other) refl

closes : (escapes : ℕ → Bool) (quote : ℕ) (behind : List ℕ) → escapes quote ≡ false → eqb quote quote ≡ true → starts quote behind ≡ false → closed_length escapes quote (quote ∷ behind) ≡ Some 1
closes escapes quote [] plain same ends = rw same refl
closes escapes quote (c ∷ behind) plain same ends = rw (plain, same, ends) refl

-- Quoted names.

doubled_length : (name behind : List ℕ) → starts 96 behind ≡ false → name_length (flat_map doubled name ++ 96 ∷ behind) ≡ Some (length (flat_map doubled name) + 1)
doubled_length [] behind ends = closes (λ b. false) 96 behind refl refl ends
doubled_length (b ∷ name) behind ends = by (eqb b 96) refl (doubled_length name behind ends) where
  by : (is : Bool) → eqb b 96 ≡ is → name_length (flat_map doubled name ++ 96 ∷ behind) ≡ Some (length (flat_map doubled name) + 1)
      → name_length ((cond is (96 ∷ 96 ∷ []) (b ∷ []) ++ flat_map doubled name) ++ 96 ∷ behind) ≡ Some (length (cond is (96 ∷ 96 ∷ []) (b ∷ []) ++ flat_map doubled name) + 1)
  by true is rest = ap (longer 2) rest ∙ ap Some (omega arith)
  by false is rest = passes_one (λ b. false) 96 b (flat_map doubled name ++ 96 ∷ behind) refl is ∙ ap (longer 1) rest ∙ ap Some (omega arith)

pub name_is_piece : (name behind : List ℕ) → starts 96 behind ≡ false → is_piece token.Quoted (length (quoted name)) (lexeme_of (quoted name ++ behind)) ≡ true
name_is_piece name behind ends =
    let text = append_assoc (flat_map doubled name) (96 ∷ []) behind in
    let long = length-append (flat_map doubled name) (96 ∷ []) in
    let inner = ap name_length text ∙ doubled_length name behind ends in
    is_piece_from token.Quoted (length (quoted name)) (1 + (length (flat_map doubled name) + 1)) (lexeme_of (quoted name ++ behind))
    (ap (enclosed (lexeme.Piece token.Quoted) 1) inner) (omega (arith, long))

-- Strings.

-- What stands for a byte in a string: a backslash and a byte, or the byte.
pub data EscapeOf (b : ℕ) (text : List ℕ) : Type 0 where
  Pair : (c : ℕ) → text ≡ 92 ∷ c ∷ [] → unescaped c ≡ b ∷ [] → EscapeOf b text
  Plain : text ≡ b ∷ [] → eqb b 39 ≡ false → eqb b 92 ≡ false → EscapeOf b text

same_byte : (a b : ℕ) → eqb b a ≡ true → a ∷ [] ≡ b ∷ []
same_byte a b is = ap (λ (n : ℕ). n ∷ []) (sym (eqb-true b a is))

pub escape_of : (b : ℕ) → EscapeOf b (escaped b)
escape_of b = by (eqb b 0) (eqb b 10) (eqb b 13) (eqb b 26) (eqb b 39) (eqb b 92) refl refl refl refl refl refl where
  by : (s t u v w x : Bool) → eqb b 0 ≡ s → eqb b 10 ≡ t → eqb b 13 ≡ u → eqb b 26 ≡ v → eqb b 39 ≡ w → eqb b 92 ≡ x
      → EscapeOf b (cond s (codes "\\0") (cond t (codes "\\n") (cond u (codes "\\r") (cond v (codes "\\Z") (cond w (codes "\\'") (cond x (codes "\\\\") (b ∷ [])))))))
  by true t u v w x es et eu ev ew ex = Pair 48 refl (same_byte 0 b es)
  by false true u v w x es et eu ev ew ex = Pair 110 refl (same_byte 10 b et)
  by false false true v w x es et eu ev ew ex = Pair 114 refl (same_byte 13 b eu)
  by false false false true w x es et eu ev ew ex = Pair 90 refl (same_byte 26 b ev)
  by false false false false true x es et eu ev ew ex = Pair 39 refl (same_byte 39 b ew)
  by false false false false false true es et eu ev ew ex = Pair 92 refl (same_byte 92 b ex)
  by false false false false false false es et eu ev ew ex = Plain refl ew ex

escaped_length : (bytes behind : List ℕ) → starts 39 behind ≡ false → string_length 39 (flat_map escaped bytes ++ 39 ∷ behind) ≡ Some (length (flat_map escaped bytes) + 1)
escaped_length [] behind ends = closes (λ b. eqb b 92) 39 behind refl refl ends
escaped_length (b ∷ bytes) behind ends = by (escaped b) (escape_of b) (escaped_length bytes behind ends) where
  by : (text : List ℕ) → EscapeOf b text → string_length 39 (flat_map escaped bytes ++ 39 ∷ behind) ≡ Some (length (flat_map escaped bytes) + 1)
      → string_length 39 ((text ++ flat_map escaped bytes) ++ 39 ∷ behind) ≡ Some (length (text ++ flat_map escaped bytes) + 1)
  by text (Pair c is means) rest = rw is (ap (longer 2) rest ∙ ap Some (omega arith))
  by text (Plain is no_quote no_escape) rest =
      rw is (passes_one (λ b. eqb b 92) 39 b (flat_map escaped bytes ++ 39 ∷ behind) no_escape no_quote ∙ ap (longer 1) rest ∙ ap Some (omega arith))

pub string_is_piece : (bytes behind : List ℕ) → starts 39 behind ≡ false → is_piece token.Text (length (string_text bytes)) (lexeme_of (string_text bytes ++ behind)) ≡ true
string_is_piece bytes behind ends =
    let text = append_assoc (flat_map escaped bytes) (39 ∷ []) behind in
    let long = length-append (flat_map escaped bytes) (39 ∷ []) in
    let inner = ap (string_length 39) text ∙ escaped_length bytes behind ends in
    is_piece_from token.Text (length (string_text bytes)) (1 + (length (flat_map escaped bytes) + 1)) (lexeme_of (string_text bytes ++ behind))
    (ap (enclosed (lexeme.Piece token.Text) 1) inner) (omega (arith, long))

-- What begins neither a gap nor a quoted token.

abbrev other_front : ℕ → Bool
other_front b = is_blank b || eqb b 35 || eqb b 45 || eqb b 47 || eqb b 96 || eqb b 39 || eqb b 34 || eqb b 120 || eqb b 88

record IsPlain (b : ℕ) : Type 0 where
  blank : is_blank b ≡ false
  hash : eqb b 35 ≡ false
  dash : eqb b 45 ≡ false
  slash : eqb b 47 ≡ false
  backquote : eqb b 96 ≡ false
  quote : eqb b 39 ≡ false
  double_quote : eqb b 34 ≡ false
  x : eqb b 120 ≡ false
  capital_x : eqb b 88 ≡ false

is_plain : (b : ℕ) → other_front b ≡ false → IsPlain b
is_plain b h =
    let p8 = or_parts (is_blank b || eqb b 35 || eqb b 45 || eqb b 47 || eqb b 96 || eqb b 39 || eqb b 34 || eqb b 120) (eqb b 88) h in
    let p7 = or_parts (is_blank b || eqb b 35 || eqb b 45 || eqb b 47 || eqb b 96 || eqb b 39 || eqb b 34) (eqb b 120) p8.0 in
    let p6 = or_parts (is_blank b || eqb b 35 || eqb b 45 || eqb b 47 || eqb b 96 || eqb b 39) (eqb b 34) p7.0 in
    let p5 = or_parts (is_blank b || eqb b 35 || eqb b 45 || eqb b 47 || eqb b 96) (eqb b 39) p6.0 in
    let p4 = or_parts (is_blank b || eqb b 35 || eqb b 45 || eqb b 47) (eqb b 96) p5.0 in
    let p3 = or_parts (is_blank b || eqb b 35 || eqb b 45) (eqb b 47) p4.0 in
    let p2 = or_parts (is_blank b || eqb b 35) (eqb b 45) p3.0 in
    let p1 = or_parts (is_blank b) (eqb b 35) p2.0 in
    record { blank = p1.0; hash = p1.1; dash = p2.1; slash = p3.1; backquote = p4.1; quote = p5.1; double_quote = p6.1; x = p7.1; capital_x = p8.1 }

-- Where a byte passes, and no byte below a bound passes both tests, it doesn't pass the other.
pub excludes : (test other : ℕ → Bool) (most b : ℕ) → agree_below (λ n. test n && other n) (λ n. false) most ≡ true → b < most → test b ≡ true → other b ≡ false
excludes test other most b apart below is = ap (λ (t : Bool). t && other b) (sym is) ∙ agree_below_at (λ n. test n && other n) (λ n. false) most b apart below

-- Numbers.

pub digit_below : (d : ℕ) → is_digit d ≡ true → d < 58
digit_below d is = let most = leb-true d 57 (and_parts (leb 48 d) (leb d 57) is).1 in omega (arith, most)

digit_first : (d : ℕ) (xs : List ℕ) → is_digit d ≡ true → starts 120 xs ≡ false → lexeme_of (d ∷ xs) ≡ lexeme.Piece token.Number (number_length (d ∷ xs))
digit_first d xs is no_x =
    let plain = is_plain d (excludes is_digit other_front 58 d refl (digit_below d is) is) in
    let letter : begins_word d ≡ false = excludes is_digit begins_word 58 d refl (digit_below d is) is in
    let no_hex : (eqb d 48 && starts 120 xs && at_front is_hex_digit (drop 1 xs)) ≡ false = and_left (eqb d 48 && starts 120 xs) (at_front is_hex_digit (drop 1 xs)) (and_right (eqb d 48) (starts 120 xs) no_x) in
    rw (plain.blank, plain.hash, plain.dash, plain.slash, plain.backquote, plain.quote, plain.double_quote, plain.x, plain.capital_x, no_hex, letter, is) refl

digits_no_x : (digits behind : List ℕ) → list_all is_digit digits ≡ true → starts 120 behind ≡ false → starts 120 (digits ++ behind) ≡ false
digits_no_x [] behind all ends = ends
digits_no_x (d ∷ digits) behind all ends =
    let is = (and_parts (is_digit d) (list_all is_digit digits) all).0 in
    excludes is_digit (λ n. eqb n 120) 58 d refl (digit_below d is) is

number_first : (digits behind : List ℕ) → 1 ≤ length digits → list_all is_digit digits ≡ true → starts 120 behind ≡ false → lexeme_of (digits ++ behind) ≡ lexeme.Piece token.Number (number_length (digits ++ behind))
number_first [] behind some all no_x = absurd (omega arith)
number_first (d ∷ digits) behind some all no_x =
    let parts = and_parts (is_digit d) (list_all is_digit digits) all in
    digit_first d (digits ++ behind) parts.0 (digits_no_x digits behind parts.1 no_x)

whole_length : (digits behind : List ℕ) → list_all is_digit digits ≡ true → at_front is_digit behind ≡ false → starts 46 behind ≡ false → number_length (digits ++ behind) ≡ length digits
whole_length digits behind all ends no_point =
    let long : digits_length (digits ++ behind) ≡ length digits = run_length is_digit digits behind all ends in
    let rest : drop (length digits) (digits ++ behind) ≡ behind = drop_at digits behind (length digits) refl in
    rw (long, rest, no_point) refl

pub number_is_piece : (digits behind : List ℕ) → 1 ≤ length digits → list_all is_digit digits ≡ true → may_follow behind ≡ true → is_piece token.Number (length digits) (lexeme_of (digits ++ behind)) ≡ true
number_is_piece digits behind some all follows =
    let e = ends behind follows in
    is_piece_from token.Number (length digits) (number_length (digits ++ behind)) (lexeme_of (digits ++ behind)) (number_first digits behind some all e.x) (whole_length digits behind all e.digit e.point)

fraction_length : (digits places behind : List ℕ) → list_all is_digit digits ≡ true → list_all is_digit places ≡ true → at_front is_digit behind ≡ false
    → number_length (digits ++ (46 ∷ (places ++ behind))) ≡ length digits + 1 + length places
fraction_length digits places behind all more ends =
    let long : digits_length (digits ++ (46 ∷ (places ++ behind))) ≡ length digits = run_length is_digit digits (46 ∷ (places ++ behind)) all refl in
    let rest : drop (length digits) (digits ++ (46 ∷ (places ++ behind))) ≡ 46 ∷ (places ++ behind) = drop_at digits (46 ∷ (places ++ behind)) (length digits) refl in
    let beyond : drop (length digits + 1) (digits ++ (46 ∷ (places ++ behind))) ≡ places ++ behind = sym (drop-drop 1 (length digits) (digits ++ (46 ∷ (places ++ behind)))) ∙ ap (drop 1) rest in
    let run : digits_length (places ++ behind) ≡ length places = run_length is_digit places behind more ends in
    rw (long, rest, beyond, run) refl

pub fraction_is_piece : (digits places behind : List ℕ) → 1 ≤ length digits → list_all is_digit digits ≡ true → list_all is_digit places ≡ true → may_follow behind ≡ true
    → is_piece token.Number (length (digits ++ 46 ∷ places)) (lexeme_of ((digits ++ 46 ∷ places) ++ behind)) ≡ true
fraction_is_piece digits places behind some all more follows =
    let e = ends behind follows in
    let text : (digits ++ 46 ∷ places) ++ behind ≡ digits ++ (46 ∷ (places ++ behind)) = append_assoc digits (46 ∷ places) behind in
    let long = length-append digits (46 ∷ places) in
    is_piece_from token.Number (length (digits ++ 46 ∷ places)) (number_length (digits ++ (46 ∷ (places ++ behind)))) (lexeme_of ((digits ++ 46 ∷ places) ++ behind))
    (ap lexeme_of text ∙ number_first digits (46 ∷ (places ++ behind)) some all refl)
    (fraction_length digits places behind all more e.digit ∙ omega (arith, long))

-- Words.

-- a capital letter, but X, which may begin a hexadecimal literal
abbrev is_letter : ℕ → Bool
is_letter b = is_between 65 90 b && not (eqb b 88)

letter_below : (b : ℕ) → is_letter b ≡ true → b < 91
letter_below b is = let most = leb-true b 90 (and_parts (leb 65 b) (leb b 90) (and_parts (is_between 65 90 b) (not (eqb b 88)) is).0).1 in omega (arith, most)

letter_first : (b : ℕ) (xs : List ℕ) → is_letter b ≡ true → lexeme_of (b ∷ xs) ≡ lexeme.Piece token.Word (prefix_len is_word_byte (b ∷ xs))
letter_first b xs is =
    let plain = is_plain b (excludes is_letter other_front 91 b refl (letter_below b is) is) in
    let zero : eqb b 48 ≡ false = excludes is_letter (λ n. eqb n 48) 91 b refl (letter_below b is) is in
    let letter : begins_word b ≡ true = not-false (begins_word b) (excludes is_letter (λ n. not (begins_word n)) 91 b refl (letter_below b is) is) in
    rw (plain.blank, plain.hash, plain.dash, plain.slash, plain.backquote, plain.quote, plain.double_quote, plain.x, plain.capital_x, zero, letter) refl

-- a word that begins with such a letter
abbrev pub is_capital_word : List ℕ → Bool
is_capital_word bytes = at_front is_letter bytes && list_all is_word_byte bytes

pub word_is_piece : (bytes behind : List ℕ) → is_capital_word bytes ≡ true → may_follow behind ≡ true → is_piece token.Word (length bytes) (lexeme_of (bytes ++ behind)) ≡ true
word_is_piece [] behind is follows = absurd cc
word_is_piece (b ∷ bytes) behind is follows =
    let parts = and_parts (is_letter b) (list_all is_word_byte (b ∷ bytes)) is in
    is_piece_from token.Word (length (b ∷ bytes)) (prefix_len is_word_byte (b ∷ (bytes ++ behind))) (lexeme_of (b ∷ (bytes ++ behind)))
    (letter_first b (bytes ++ behind) parts.0) (run_length is_word_byte (b ∷ bytes) behind parts.1 (ends behind follows).word)

pub word_is_spelled : (bytes behind : List ℕ) → is_capital_word bytes ≡ true → may_follow behind ≡ true → is_spelled_before behind (word bytes ∷ []) ≡ true
word_is_spelled bytes behind is follows = one_is_spelled token.Word bytes behind (word_is_piece bytes behind is follows)

-- Bytes in base 16.

hex_digit_is : (n : ℕ) → n < 16 → is_hex_digit (hex_digit n) ≡ true
hex_digit_is n small = agree_below_at (λ m. is_hex_digit (hex_digit m)) (λ m. true) 16 n refl small

pub pairs_are_digits : (bytes : List ℕ) → are_bytes bytes ≡ true → list_all is_hex_digit (flat_map hex_pair bytes) ≡ true
pairs_are_digits [] are = refl
pairs_are_digits (b ∷ bytes) are =
    let parts = and_parts (ltb b 256) (are_bytes bytes) are in
    let small = ltb-true b 256 parts.0 in
    let high = hex_digit_is (b / 16) (omega (arith, small)) in
    let low = hex_digit_is (b % 16) (omega arith) in
    and_from (is_hex_digit (hex_digit (b / 16))) (list_all is_hex_digit (hex_digit (b % 16) ∷ flat_map hex_pair bytes)) high
    (and_from (is_hex_digit (hex_digit (b % 16))) (list_all is_hex_digit (flat_map hex_pair bytes)) low (pairs_are_digits bytes parts.1))

hex_first : (digits behind : List ℕ) → 1 ≤ length digits → list_all is_hex_digit digits ≡ true → lexeme_of (48 ∷ 120 ∷ (digits ++ behind)) ≡ lexeme.Piece token.Hex (2 + prefix_len is_hex_digit (digits ++ behind))
hex_first [] behind some all = absurd (omega arith)
hex_first (h ∷ digits) behind some all = let first = (and_parts (is_hex_digit h) (list_all is_hex_digit digits) all).0 in rw first refl

pub hex_is_piece : (digits behind : List ℕ) → 1 ≤ length digits → list_all is_hex_digit digits ≡ true → may_follow behind ≡ true → is_piece token.Hex (length (48 ∷ 120 ∷ digits)) (lexeme_of (48 ∷ 120 ∷ (digits ++ behind))) ≡ true
hex_is_piece digits behind some all follows =
    is_piece_from token.Hex (length (48 ∷ 120 ∷ digits)) (2 + prefix_len is_hex_digit (digits ++ behind)) (lexeme_of (48 ∷ 120 ∷ (digits ++ behind)))
    (hex_first digits behind some all) (ap (λ (n : ℕ). 2 + n) (run_length is_hex_digit digits behind all (ends behind follows).hex_digit) ∙ omega arith)
