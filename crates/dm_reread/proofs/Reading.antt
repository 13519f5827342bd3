-- Each value's parts are read as the value.
use Rattle.std.proofs.Common.{◌≡◌, ℕ, suc, ◌+◌, ◌-◌, ◌*◌, ◌/◌, ◌%◌, ◌^◌, ◌<◌, ℤ, pos, negsuc, int_lt, unsigned_abs, Bool, true, false, not, cond, ◌&&◌, ◌==◌, List, [], ◌∷◌, ◌++◌, length, codes, Option, Some, None, refl, sym, ap, ◌∙◌, subst, append-nil, arith, eqb, leb, ltb, eqb-true, leb-true, ltb-true, le-leb, le-ltb, eq-eqb, take_all, get_or}
use Rattle.std.specs.List.{flat_map, list_all, suffix_len}
use Rattle.std.specs.Option.{option_map}
use Rattle.std.specs.Fmt.{decimal}
use Rattle.std.proofs.lemmas.Bool.{and_parts, not-true, agree_below_at}
use Rattle.std.proofs.lemmas.List.Sums.{suffix_len_is}
use Rattle.dm_value.specs.declared.value.Value.{Value}
use Rattle.dm_value.specs.declared.value.Value.TheVariants as value
use Rattle.dm_value.specs.declared.value.Dec.{Dec}
use Rattle.dm_value.specs.declared.value.Day.{Day}
use Rattle.dm_value.specs.declared.value.Moment.{Moment}
use Rattle.dm_value.specs.declared.value.Stamp.{Stamp}
use Rattle.dm_schema.specs.declared.column.Kind.{Kind}
use Rattle.dm_schema.specs.declared.column.Kind.TheVariants as kind
use Rattle.dm_schema.specs.Kinds.{is_kind}
use Rattle.dm_schema.specs.Fits.{fits_kind, fits_by, fits_day, fits_text, ends_in_space}
use Rattle.dm_time.specs.Texts.{has_shape, part, day_of}
use Rattle.dm_time.specs.Written.{day_text, moment_text, stamp_text}
use Rattle.dm_time.proofs.Written.{moment_is_read}
use Rattle.dm_time.proofs.Written.{number_is_read as part_is_read}
use Rattle.dm_time.proofs.StampTexts.{stamp_text_is_read}
use Rattle.dm_text.specs.Values.{in_quotes, string_text, hex_digit, hex_pair, places_text}
use Rattle.dm_lex.specs.declared.token.TokenKind.TheVariants as token
use Rattle.dm_lex.specs.Literals.{string_of, hex_pairs, hex_of, with_sign, integer_of, decimal_of, without_blanks_at_end, padded, value_of_bytes, value_of_number, value_of_string, fitting, literal_of}
use Rattle.dm_lex.specs.Literals.{hex_digit as hex_value}
use Rattle.dm_reread.specs.Parts.{Piece, signed_parts, integer_parts, binary_part, value_parts, are_bytes, has_bytes}
use Rattle.dm_reread.specs.Read.{IsRead, Null, Literal, Minus}
use Rattle.dm_reread.proofs.Lexing.{pairs_are_digits}
use Rattle.dm_reread.proofs.Plain.{is_plain, day_plain, moment_plain, stamp_plain, plain_string}
use Rattle.dm_reread.proofs.Decimals.{integer_is_read, decimal_is_read}
use Rattle.dm_reread.proofs.Names.{string_is_read}
use Rattle.dm_reread.proofs.Bounds.{signed_small, unsigned_small, year_small, digits_small}

fitted : (k : Kind) (v : Value) (o : Option Value) → o ≡ Some v → fits_kind k v ≡ true → fitting k o ≡ Some v
fitted k v o is fits =
    let kept : fitting k (Some v) ≡ Some v = rw fits refl in
    ap (fitting k) is ∙ kept

-- Integers.

abbrev TakesIntegers : Kind → Type 0
TakesIntegers k = (minus : Bool) (bytes : List ℕ) → value_of_number k minus bytes ≡ option_map value.Int (integer_of minus bytes)

integer_literal : (k : Kind) (minus : Bool) (m : ℕ) (n : ℤ) → TakesIntegers k → m < 10 ^ 64 → with_sign minus m ≡ n → fits_kind k (value.Int n) ≡ true → literal_of k minus token.Number (decimal m) ≡ Some (value.Int n)
integer_literal k minus m n takes small sign fits =
    fitted k (value.Int n) (value_of_number k minus (decimal m)) (takes minus (decimal m) ∙ ap (option_map value.Int) (integer_is_read minus m small ∙ ap Some sign)) fits

integer_read : (k : Kind) (n : ℤ) → TakesIntegers k → unsigned_abs n < 10 ^ 64 → fits_kind k (value.Int n) ≡ true → IsRead k (value.Int n) (integer_parts n)
integer_read k (pos m) takes small fits = Literal token.Number (decimal m) refl refl (integer_literal k false m (pos m) takes small refl fits)
integer_read k (negsuc m) takes small fits = Minus (decimal (suc m)) refl (integer_literal k true (suc m) (negsuc m) takes small refl fits)

-- Decimals.

decimal_literal : (precision scale : ℕ) (minus : Bool) (m : ℕ) (n : ℤ) → m < 10 ^ 64 → with_sign minus m ≡ n → fits_kind (kind.Decimal precision scale) (value.Dec (record { digits = n; scale = scale })) ≡ true
    → literal_of (kind.Decimal precision scale) minus token.Number (decimal (m / 10 ^ scale) ++ places_text scale m) ≡ Some (value.Dec (record { digits = n; scale = scale }))
decimal_literal precision scale minus m n small sign fits =
    fitted (kind.Decimal precision scale) (value.Dec (record { digits = n; scale = scale })) (option_map value.Dec (decimal_of scale minus (decimal (m / 10 ^ scale) ++ places_text scale m)))
    (ap (option_map value.Dec) (decimal_is_read scale minus m small ∙ ap (λ (z : ℤ). Some (let d : Dec = record { digits = z; scale = scale } in d)) sign)) fits

decimal_of_scale : (precision scale : ℕ) (n : ℤ) → unsigned_abs n < 10 ^ 64 → fits_kind (kind.Decimal precision scale) (value.Dec (record { digits = n; scale = scale })) ≡ true
    → IsRead (kind.Decimal precision scale) (value.Dec (record { digits = n; scale = scale })) (signed_parts (int_lt n (pos 0)) (decimal (unsigned_abs n / 10 ^ scale) ++ places_text scale (unsigned_abs n)))
decimal_of_scale precision scale (pos m) small fits =
    let digits : List ℕ = decimal (m / 10 ^ scale) ++ places_text scale m in
    let d : Dec = record { digits = pos m; scale = scale } in
    let no : int_lt (pos m) (pos 0) ≡ false = le-ltb m 0 (omega arith) in
    subst (λ (minus : Bool). IsRead (kind.Decimal precision scale) (value.Dec d) (signed_parts minus digits)) (sym no)
    (Literal token.Number digits refl refl (decimal_literal precision scale false m (pos m) small refl fits))
decimal_of_scale precision scale (negsuc m) small fits =
    Minus (decimal (suc m / 10 ^ scale) ++ places_text scale (suc m)) refl (decimal_literal precision scale true (suc m) (negsuc m) small refl fits)

decimal_read : (precision scale : ℕ) (d : Dec) → is_kind (kind.Decimal precision scale) ≡ true → fits_kind (kind.Decimal precision scale) (value.Dec d) ≡ true → IsRead (kind.Decimal precision scale) (value.Dec d) (value_parts (kind.Decimal precision scale) (value.Dec d))
decimal_read precision scale d is fits =
    let parts = and_parts (d.scale == scale) (ltb (unsigned_abs d.digits) (10 ^ precision)) fits in
    let same = eqb-true d.scale scale parts.0 in
    let small = digits_small (unsigned_abs d.digits) precision scale is (ltb-true (unsigned_abs d.digits) (10 ^ precision) parts.1) in
    subst (λ (s : ℕ). fits_kind (kind.Decimal precision s) (value.Dec d) ≡ true → IsRead (kind.Decimal precision s) (value.Dec d) (value_parts (kind.Decimal precision s) (value.Dec d))) same (decimal_of_scale precision d.scale d.digits small) fits

-- Strings.

string_literal : (k : Kind) (bytes : List ℕ) → value_of_string k bytes ≡ Some (value.Bytes bytes) → fits_kind k (value.Bytes bytes) ≡ true → IsRead k (value.Bytes bytes) (Piece token.Text (string_text bytes) ∷ [])
string_literal k bytes is fits =
    Literal token.Text (string_text bytes) refl refl
    (fitted k (value.Bytes bytes) (value_of_string k (string_of (string_text bytes))) (ap (value_of_string k) (string_is_read bytes) ∙ is) fits)

-- a text without a blank at its end is kept as it is
blanks_none : (bytes : List ℕ) → not (ends_in_space bytes) ≡ true → without_blanks_at_end bytes ≡ bytes
blanks_none bytes fits =
    let last : eqb (get_or bytes (length bytes - 1) 0) 32 ≡ false = not-true (ends_in_space bytes) fits in
    let none = suffix_len_is (λ b. b == 32) bytes (length bytes) 0 (omega arith) (λ k from to. absurd (omega arith)) (λ some. last) in
    take_all (length bytes - suffix_len (λ b. b == 32) bytes) bytes (omega (arith, none))

padded_none : (size : ℕ) (bytes : List ℕ) → length bytes ≡ size → padded size bytes ≡ bytes
padded_none size bytes long = let none : size - length bytes ≡ 0 = omega arith in rw (none, append-nil) refl

-- Bytes in base 16.

value_of_digit : (n : ℕ) → n < 16 → hex_value (hex_digit n) ≡ n
value_of_digit n small = eqb-true (hex_value (hex_digit n)) n (agree_below_at (λ m. eqb (hex_value (hex_digit m)) m) (λ m. true) 16 n refl small)

pairs_are_read : (bytes : List ℕ) → are_bytes bytes ≡ true → hex_pairs (flat_map hex_pair bytes) ≡ bytes
pairs_are_read [] are = refl
pairs_are_read (b ∷ bytes) are =
    let parts = and_parts (ltb b 256) (are_bytes bytes) are in
    let small = ltb-true b 256 parts.0 in
    let high = value_of_digit (b / 16) (omega (arith, small)) in
    let low = value_of_digit (b % 16) (omega arith) in
    let byte : 16 * hex_value (hex_digit (b / 16)) + hex_value (hex_digit (b % 16)) ≡ b = omega (arith, high, low) in
    λ i. byte i ∷ pairs_are_read bytes parts.1 i

pairs_even : (bytes : List ℕ) → length (flat_map hex_pair bytes) % 2 ≡ 0
pairs_even [] = refl
pairs_even (b ∷ bytes) = omega (arith, pairs_even bytes)

hex_is_read : (bytes : List ℕ) → are_bytes bytes ≡ true → hex_of (48 ∷ 120 ∷ flat_map hex_pair bytes) ≡ bytes
hex_is_read bytes are =
    let even : (length (flat_map hex_pair bytes) % 2 == 0) ≡ true = eq-eqb (length (flat_map hex_pair bytes) % 2) 0 (pairs_even bytes) in
    let odd_or_even : hex_of (48 ∷ 120 ∷ flat_map hex_pair bytes) ≡ hex_pairs (flat_map hex_pair bytes) = rw even refl in
    odd_or_even ∙ pairs_are_read bytes are

hex_literal : (k : Kind) (bytes : List ℕ) → are_bytes bytes ≡ true → value_of_bytes k bytes ≡ Some (value.Bytes bytes) → fits_kind k (value.Bytes bytes) ≡ true → literal_of k false token.Hex (48 ∷ 120 ∷ flat_map hex_pair bytes) ≡ Some (value.Bytes bytes)
hex_literal k bytes are is fits =
    let all = pairs_are_digits bytes are in
    rw all (fitted k (value.Bytes bytes) (value_of_bytes k (hex_of (48 ∷ 120 ∷ flat_map hex_pair bytes))) (ap (value_of_bytes k) (hex_is_read bytes are) ∙ is) fits)

binary_read : (k : Kind) (bytes : List ℕ) → ((xs : List ℕ) → value_of_string k xs ≡ value_of_bytes k xs) → are_bytes bytes ≡ true → value_of_bytes k bytes ≡ Some (value.Bytes bytes) → fits_kind k (value.Bytes bytes) ≡ true
    → IsRead k (value.Bytes bytes) (binary_part bytes ∷ [])
binary_read k [] strings are is fits = string_literal k [] (strings [] ∙ is) fits
binary_read k (b ∷ bytes) strings are is fits = Literal token.Hex (48 ∷ 120 ∷ flat_map hex_pair (b ∷ bytes)) refl refl (hex_literal k (b ∷ bytes) are is fits)

-- Days and moments.

plain_is_read : (text : List ℕ) → list_all is_plain text ≡ true → string_of (in_quotes text) ≡ text
plain_is_read text plain = ap string_of (sym (plain_string text plain)) ∙ string_is_read text

plain_literal : (k : Kind) (v : Value) (text : List ℕ) → list_all is_plain text ≡ true → value_of_string k text ≡ Some v → fits_kind k v ≡ true → IsRead k v (Piece token.Text (in_quotes text) ∷ [])
plain_literal k v text plain is fits =
    Literal token.Text (in_quotes text) refl refl (fitted k v (value_of_string k (string_of (in_quotes text))) (ap (value_of_string k) (plain_is_read text plain) ∙ is) fits)

from_48 : (digit : ℕ) → leb 48 (48 + digit % 10) ≡ true
from_48 digit = le-leb 48 (48 + digit % 10) (omega arith)

to_57 : (digit : ℕ) → leb (48 + digit % 10) 57 ≡ true
to_57 digit = le-leb (48 + digit % 10) 57 (omega arith)

day_has_shape : (d : Day) → has_shape (codes "0000-00-00") (day_text d) ≡ true
day_has_shape d = simp (from_48, to_57)

day_is_read : (d : Day) → fits_day d ≡ true → day_of (day_text d) ≡ Some d
day_is_read d fits =
    let last = and_parts (leb d.year 9999 && leb d.month 12) (leb d.day 31) fits in
    let first = and_parts (leb d.year 9999) (leb d.month 12) last.0 in
    let year_most = leb-true d.year 9999 first.0 in
    let month_most = leb-true d.month 12 first.1 in
    let day_most = leb-true d.day 31 last.1 in
    let year : part 0 4 (day_text d) ≡ d.year = part_is_read 4 d.year (omega (arith, year_most)) in
    let month : part 5 2 (day_text d) ≡ d.month = part_is_read 2 d.month (omega (arith, month_most)) in
    let day : part 8 2 (day_text d) ≡ d.day = part_is_read 2 d.day (omega (arith, day_most)) in
    ap (λ (t : Bool). cond {A = Option Day} t (Some (record { year = part 0 4 (day_text d); month = part 5 2 (day_text d); day = part 8 2 (day_text d) })) None) (day_has_shape d)
    ∙ (λ i. Some (let read : Day = record { year = year i; month = month i; day = day i } in read))

-- All values.

abbrev IsReadBack : Kind → Value → Type 0
IsReadBack k v = is_kind k ≡ true → fits_kind k v ≡ true → has_bytes v ≡ true → IsRead k v (value_parts k v)

pub integer_back : (k : Kind) (n : ℤ) → IsReadBack k (value.Int n)
integer_back (kind.Signed size) n is fits bytes = integer_read (kind.Signed size) n (λ minus xs. refl) (signed_small size n is fits) fits
integer_back (kind.Unsigned size) n is fits bytes = integer_read (kind.Unsigned size) n (λ minus xs. refl) (unsigned_small size n is fits) fits
integer_back kind.Year n is fits bytes = integer_read kind.Year n (λ minus xs. refl) (year_small n fits) fits
integer_back k n is fits bytes = absurd cc

pub decimal_back : (k : Kind) (d : Dec) → IsReadBack k (value.Dec d)
decimal_back (kind.Decimal precision scale) d is fits bytes = decimal_read precision scale d is fits
decimal_back k d is fits bytes = absurd cc

pub bytes_back : (k : Kind) (xs : List ℕ) → IsReadBack k (value.Bytes xs)
bytes_back (kind.Char most) xs is fits bytes =
    let kept = blanks_none xs (and_parts (fits_text most xs) (not (ends_in_space xs)) fits).1 in
    string_literal (kind.Char most) xs (ap (λ (ys : List ℕ). Some (value.Bytes ys)) kept) fits
bytes_back (kind.Varchar most) xs is fits bytes = string_literal (kind.Varchar most) xs refl fits
bytes_back (kind.Text prefix) xs is fits bytes = string_literal (kind.Text prefix) xs refl fits
bytes_back (kind.Binary size) xs is fits bytes =
    binary_read (kind.Binary size) xs (λ ys. refl) bytes (ap (λ (ys : List ℕ). Some (value.Bytes ys)) (padded_none size xs (eqb-true (length xs) size fits))) fits
bytes_back (kind.Varbinary most) xs is fits bytes = binary_read (kind.Varbinary most) xs (λ ys. refl) bytes refl fits
bytes_back (kind.Blob prefix) xs is fits bytes = binary_read (kind.Blob prefix) xs (λ ys. refl) bytes refl fits
bytes_back k xs is fits bytes = absurd cc

pub date_back : (k : Kind) (d : Day) → IsReadBack k (value.Date d)
date_back kind.Date d is fits bytes = plain_literal kind.Date (value.Date d) (day_text d) (day_plain d) (ap (option_map value.Date) (day_is_read d fits)) fits
date_back k d is fits bytes = absurd cc

pub moment_back : (k : Kind) (m : Moment) → IsReadBack k (value.Moment m)
moment_back (kind.Datetime digits) m is fits bytes =
    plain_literal (kind.Datetime digits) (value.Moment m) (moment_text digits m) (moment_plain digits m) (ap (option_map value.Moment) (moment_is_read digits m (leb-true digits 6 is) fits)) fits
moment_back k m is fits bytes = absurd cc

pub stamp_back : (k : Kind) (s : Stamp) → IsReadBack k (value.Stamp s)
stamp_back (kind.Timestamp digits) s is fits bytes =
    plain_literal (kind.Timestamp digits) (value.Stamp s) (stamp_text digits s) (stamp_plain digits s) (ap (option_map value.Stamp) (stamp_text_is_read digits s (stamp_text digits s) (leb-true digits 6 is) fits refl).read) fits
stamp_back k s is fits bytes = absurd cc

pub value_is_read : (k : Kind) (nullable : Bool) (v : Value) → is_kind k ≡ true → fits_by k nullable v ≡ true → has_bytes v ≡ true → IsRead k v (value_parts k v)
value_is_read k nullable value.Null is fits bytes = Null refl refl refl
value_is_read k nullable (value.Int n) is fits bytes = integer_back k n is fits bytes
value_is_read k nullable (value.Dec d) is fits bytes = decimal_back k d is fits bytes
value_is_read k nullable (value.Bytes xs) is fits bytes = bytes_back k xs is fits bytes
value_is_read k nullable (value.Date d) is fits bytes = date_back k d is fits bytes
value_is_read k nullable (value.Moment m) is fits bytes = moment_back k m is fits bytes
value_is_read k nullable (value.Stamp s) is fits bytes = stamp_back k s is fits bytes
