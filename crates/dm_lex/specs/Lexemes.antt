-- What stands at the front of a text: a blank, a comment or a token, after MySQL's manual, "Language Structure".
use Rattle.std.specs.Prelude.{ℕ, ◌+◌, ◌%◌, nat_le, Bool, true, false, not, ◌&&◌, ◌||◌, ◌==◌, List, [], ◌∷◌, take, drop, Option, Some, None, if◌then◌else◌}
use Rattle.std.specs.Option.{option_map}
use Rattle.std.specs.List.{prefix_len, position_or_len, list_all}
use Rattle.std.specs.Prelude.{length}
use Rattle.dm_schema.specs.Kinds.{is_between}
use Rattle.dm_lex.specs.declared.token.TokenKind.TheVariants as token
use Rattle.dm_lex.specs.declared.lexeme.Lexeme.{Lexeme}
use Rattle.dm_lex.specs.declared.lexeme.Lexeme.TheVariants.{Gap, Piece, Open, NotHex}

-- A gap is a blank or a comment, and a piece a token, each of so many bytes. `Open` has no end, and `NotHex` is a
-- hexadecimal literal whose quotes hold something else.

-- Bytes.

-- blank, tab, line feed, carriage return
abbrev pub is_blank : ℕ → Bool
is_blank b = b == 32 || b == 9 || b == 10 || b == 13

abbrev pub is_digit : ℕ → Bool
is_digit = is_between 48 57

abbrev pub is_hex_digit : ℕ → Bool
is_hex_digit b = is_digit b || is_between 65 70 b || is_between 97 102 b

-- letters, `_`, `$` and bytes that aren't ASCII begin a word; digits may follow
abbrev pub begins_word : ℕ → Bool
begins_word b = is_between 65 90 b || is_between 97 122 b || b == 95 || b == 36 || nat_le 128 b

abbrev pub is_word_byte : ℕ → Bool
is_word_byte b = begins_word b || is_digit b

abbrev pub is_quote : ℕ → Bool
is_quote b = b == 39 || b == 34

-- whether a text begins with a byte that passes
abbrev pub at_front : (ℕ → Bool) → List ℕ → Bool
at_front test [] = false
at_front test (b ∷ bs) = test b

abbrev pub starts : ℕ → List ℕ → Bool
starts byte = at_front (λ b. b == byte)

-- Lengths.

abbrev pub longer : ℕ → Option ℕ → Option ℕ
longer n = option_map (λ length. n + length)

-- How many bytes there are behind an opening quote up to its closing one, which counts: a doubled quote doesn't close,
-- nor does one behind an escape.
abbrev pub closed_length : (ℕ → Bool) → ℕ → List ℕ → Option ℕ
closed_length escapes quote [] = None
closed_length escapes quote (b ∷ []) = if b == quote then Some 1 else None
closed_length escapes quote (b ∷ c ∷ bs) =
    if escapes b then longer 2 (closed_length escapes quote bs)
    else if b == quote then (if c == quote then longer 2 (closed_length escapes quote bs) else Some 1)
    else longer 1 (closed_length escapes quote (c ∷ bs))

-- a backslash escapes the byte behind it
abbrev pub string_length : ℕ → List ℕ → Option ℕ
string_length quote = closed_length (λ b. b == 92) quote

abbrev pub name_length : List ℕ → Option ℕ
name_length = closed_length (λ b. false) 96

-- up to the first star with a slash behind it
abbrev pub comment_length : List ℕ → Option ℕ
comment_length [] = None
comment_length (b ∷ []) = None
comment_length (b ∷ c ∷ bs) = if b == 42 && c == 47 then Some 2 else longer 1 (comment_length (c ∷ bs))

-- up to the line's end
abbrev pub line_length : List ℕ → ℕ
line_length = position_or_len (λ b. b == 10)

abbrev pub digits_length : List ℕ → ℕ
digits_length = prefix_len is_digit

-- digits, and a point with digits or none behind it, if there is a point
abbrev pub number_length : List ℕ → ℕ
number_length bytes = if starts 46 (drop (digits_length bytes) bytes) then digits_length bytes + 1 + digits_length (drop (digits_length bytes + 1) bytes)
    else digits_length bytes

-- Lexemes.

-- an opening, of so many bytes, and what closes it
abbrev pub enclosed : (ℕ → Lexeme) → ℕ → Option ℕ → Lexeme
enclosed lexeme opening None = Open
enclosed lexeme opening (Some length) = lexeme (opening + length)

-- pairs of digits
abbrev pub is_hex : List ℕ → Bool
is_hex digits = length digits % 2 == 0 && list_all is_hex_digit digits

-- `x'` and what is behind it up to the next quote
abbrev pub quoted_hex : List ℕ → Lexeme
quoted_hex behind =
    if not (starts 39 (drop (position_or_len (λ b. b == 39) behind) behind)) then Open
    else if is_hex (take (position_or_len (λ b. b == 39) behind) behind) then Piece token.Hex (2 + position_or_len (λ b. b == 39) behind + 1)
    else NotHex

-- two dashes with a blank, a line's end or nothing behind them
abbrev pub begins_dashes : List ℕ → Bool
begins_dashes bytes = starts 45 bytes && starts 45 (drop 1 bytes) && by (drop 2 bytes) where
  by : List ℕ → Bool
  by [] = true
  by (b ∷ bs) = b == 32 || b == 10 || b == 13

abbrev pub first_of : List (Bool × Lexeme) → Lexeme → Lexeme
first_of [] other = other
first_of (c ∷ cs) other = if c.0 then c.1 else first_of cs other

-- What stands at the front: the first of these that does. Any other byte is a mark.
abbrev pub lexeme_of : List ℕ → Lexeme
lexeme_of bytes =
    first_of
    ((at_front is_blank bytes, Gap 1)
    ∷ (starts 35 bytes, Gap (line_length bytes))
    ∷ (begins_dashes bytes, Gap (line_length bytes))
    ∷ (starts 47 bytes && starts 42 (drop 1 bytes), enclosed Gap 2 (comment_length (drop 2 bytes)))
    ∷ (starts 96 bytes, enclosed (Piece token.Quoted) 1 (name_length (drop 1 bytes)))
    ∷ (starts 39 bytes, enclosed (Piece token.Text) 1 (string_length 39 (drop 1 bytes)))
    ∷ (starts 34 bytes, enclosed (Piece token.Text) 1 (string_length 34 (drop 1 bytes)))
    ∷ ((starts 120 bytes || starts 88 bytes) && starts 39 (drop 1 bytes), quoted_hex (drop 2 bytes))
    ∷ (starts 48 bytes && starts 120 (drop 1 bytes) && at_front is_hex_digit (drop 2 bytes), Piece token.Hex (2 + prefix_len is_hex_digit (drop 2 bytes)))
    ∷ (at_front begins_word bytes, Piece token.Word (prefix_len is_word_byte bytes))
    ∷ (at_front is_digit bytes, Piece token.Number (number_length bytes))
    ∷ (starts 46 bytes && at_front is_digit (drop 1 bytes), Piece token.Number (1 + digits_length (drop 1 bytes)))
    ∷ [])
    (Piece token.Mark 1)
