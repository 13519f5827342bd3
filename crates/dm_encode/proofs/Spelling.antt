-- Each value that fits a kind is read back from its bytes.
use Rattle.std.proofs.Common.{◌≡◌, ℕ, ◌+◌, ◌*◌, ◌<◌, ◌≤◌, ◌^◌, true, not, ltb, leb, List, ◌++◌, length, Ok, refl, sym, subst, arith}
use Rattle.std.specs.Prelude.{IsTrue, unsigned_abs}
use Rattle.std.proofs.lemmas.Bool.{ltb-true, leb-true, eqb-true, eq-eqb}
use Rattle.dm_value.specs.declared.value.Value.{Value}
use Rattle.dm_value.specs.declared.value.Value.TheVariants as value
use Rattle.dm_schema.specs.declared.column.Kind.{Kind}
use Rattle.dm_schema.specs.declared.column.Kind.TheVariants as kind
use Rattle.dm_schema.specs.Fits.{ends_in_space, fits_kind, fits_text}
use Rattle.dm_schema.specs.Kinds.{is_between, is_kind}
use Rattle.std.specs.Str.{is_utf8}
use Rattle.dm_base.specs.Reading.{le}
use Rattle.dm_decode.specs.Types.{goes_with, integer_code, is_string, prefix_width, string_length}
use Rattle.dm_decode.specs.Decimals.{decimal_width}
use Rattle.dm_decode.specs.Values.{fraction_width, moment_offset, prefixed, value_bytes, value_of}
use Rattle.dm_encode.specs.Numbers.{be_bytes, le_bytes}
use Rattle.dm_encode.specs.Kinds.{column_map, is_mapped, string_meta}
use Rattle.dm_encode.specs.Values.{behind_length, day_number, fraction, moment_number, spelled_value, twos_complement, year_number}
use Rattle.dm_encode.specs.Decimals.{spelled_decimal}
use Rattle.dm_encode.proofs.Digits.{length-le, le_back}
use Rattle.dm_encode.proofs.Taking.{Takes, takes_both, takes_le, takes_piece}
use Rattle.dm_encode.proofs.Rests.{both}
use Rattle.dm_encode.proofs.Shapes.{day_back, day_below, length-moment, length-stamp, moment_back, size_some, stamp_back, twos_back, twos_below, unsigned_back, unsigned_below, year_back, year_below}
use Rattle.dm_encode.proofs.Lengths.{blanks_none, padded_none, prefix_room, real_type_back, string_length_back, text_short}
use Rattle.dm_encode.proofs.GroupsBack.{decimal_back, length-decimal}

-- The reader takes the bytes of a value, and they are the value.
pub record Spells (k : Kind) (v : Value) : Type 0 where
  pub content : List ℕ
  pub takes : Takes (value_bytes k (column_map k)) (spelled_value k v) content
  pub reads : value_of k content ≡ Ok v

takes_prefixed : (width : ℕ) (bytes : List ℕ) → length bytes < 256 ^ width → Takes (prefixed width) (behind_length width bytes) bytes
takes_prefixed width bytes room = takes_both (le width) (le_bytes width (length bytes)) (length bytes) _ bytes bytes (takes_le width (length bytes) room) (takes_piece (length bytes) bytes refl)

-- the same behind MYSQL_TYPE_STRING's metadata
takes_string : (most : ℕ) (bytes : List ℕ) → most < 1024 → length bytes ≤ most → Takes (prefixed (prefix_width (string_length (string_meta most)))) (behind_length (prefix_width most) bytes) bytes
takes_string most bytes small within =
    let P : ℕ → Type 0 = λ n. Takes (prefixed (prefix_width n)) (behind_length (prefix_width most) bytes) bytes in
    subst P (sym (string_length_back most small)) (takes_prefixed (prefix_width most) bytes (prefix_room most (length bytes) within (omega arith)))

pub spells : (k : Kind) (v : Value) → IsTrue (is_kind k) → IsTrue (is_mapped k) → IsTrue (fits_kind k v) → Spells k v
spells (kind.Signed size) (value.Int n) ok mapped fit = record {
  content = le_bytes size (twos_complement size n);
  takes = takes_piece size (le_bytes size (twos_complement size n)) (length-le size (twos_complement size n));
  reads = rw (le_back size (twos_complement size n) (twos_below size n (size_some size ok) fit), twos_back size n (size_some size ok) fit) refl;
}
spells (kind.Unsigned size) (value.Int n) ok mapped fit = record {
  content = le_bytes size (unsigned_abs n);
  takes = takes_piece size (le_bytes size (unsigned_abs n)) (length-le size (unsigned_abs n));
  reads = rw (le_back size (unsigned_abs n) (unsigned_below size n fit), unsigned_back size n fit) refl;
}
spells (kind.Decimal precision scale) (value.Dec d) ok mapped fit =
    let p = both (is_between 1 38 precision) (leb scale precision) ok in
    let q = both (leb 1 precision) (leb precision 38) p.0 in
    record {
      content = spelled_decimal precision scale d.digits;
      takes = takes_piece (decimal_width precision scale) (spelled_decimal precision scale d.digits) (length-decimal precision scale d.digits);
      reads = rw (decimal_back precision scale d (leb-true 1 precision q.0) (leb-true scale precision p.1) fit) refl;
    }
spells (kind.Char most) (value.Bytes bytes) ok mapped fit =
    let p = both (fits_text most bytes) (not (ends_in_space bytes)) fit in
    let small = leb-true most 255 ok in
    record {
      content = bytes;
      takes = takes_string (4 * most) bytes (omega (arith, small)) (text_short most bytes p.0);
      reads = rw (blanks_none bytes p.1) refl;
    }
spells (kind.Varchar most) (value.Bytes bytes) ok mapped fit =
    let q = both (is_kind (kind.Varchar most)) (ltb (4 * most) 65536) mapped in
    record {
      content = bytes;
      takes = takes_prefixed (prefix_width (4 * most)) bytes (prefix_room (4 * most) (length bytes) (text_short most bytes fit) (ltb-true (4 * most) 65536 q.1));
      reads = refl;
    }
spells (kind.Text prefix) (value.Bytes bytes) ok mapped fit = record {
  content = bytes;
  takes = takes_prefixed prefix bytes (ltb-true (length bytes) (256 ^ prefix) (both (is_utf8 bytes) (ltb (length bytes) (256 ^ prefix)) fit).1);
  reads = refl;
}
spells (kind.Binary size) (value.Bytes bytes) ok mapped fit =
    let long = eqb-true (length bytes) size fit in
    let small = leb-true size 255 ok in
    record {
      content = bytes;
      takes = takes_string size bytes (omega (arith, small)) (omega (arith, long));
      reads = rw (padded_none size bytes long) refl;
    }
spells (kind.Varbinary most) (value.Bytes bytes) ok mapped fit =
    let q = both (is_kind (kind.Varbinary most)) (ltb most 65536) mapped in
    record {
      content = bytes;
      takes = takes_prefixed (prefix_width most) bytes (prefix_room most (length bytes) (leb-true (length bytes) most fit) (ltb-true most 65536 q.1));
      reads = refl;
    }
spells (kind.Blob prefix) (value.Bytes bytes) ok mapped fit = record {
  content = bytes;
  takes = takes_prefixed prefix bytes (ltb-true (length bytes) (256 ^ prefix) fit);
  reads = refl;
}
spells kind.Date (value.Date d) ok mapped fit = record {
  content = le_bytes 3 (day_number d);
  takes = takes_piece 3 (le_bytes 3 (day_number d)) (length-le 3 (day_number d));
  reads = rw (le_back 3 (day_number d) (day_below d fit), day_back d fit) refl;
}
spells kind.Year (value.Int n) ok mapped fit = record {
  content = le_bytes 1 (year_number (unsigned_abs n));
  takes = takes_piece 1 (le_bytes 1 (year_number (unsigned_abs n))) (length-le 1 (year_number (unsigned_abs n)));
  reads = rw (le_back 1 (year_number (unsigned_abs n)) (year_below n fit), year_back n fit) refl;
}
spells (kind.Datetime digits) (value.Moment m) ok mapped fit = record {
  content = be_bytes 5 (moment_offset + moment_number m) ++ fraction digits m.micros;
  takes = takes_piece (5 + fraction_width digits) (be_bytes 5 (moment_offset + moment_number m) ++ fraction digits m.micros) (length-moment digits m);
  reads = rw (moment_back digits m (leb-true digits 6 ok) fit) refl;
}
spells (kind.Timestamp digits) (value.Stamp s) ok mapped fit = record {
  content = be_bytes 4 s.seconds ++ fraction digits s.micros;
  takes = takes_piece (4 + fraction_width digits) (be_bytes 4 s.seconds ++ fraction digits s.micros) (length-stamp digits s);
  reads = rw (stamp_back digits s (leb-true digits 6 ok) fit) refl;
}
spells k v ok mapped fit = absurd cc

-- The type code and metadata that are written go with the kind.

is_string_map : (most : ℕ) → most < 1024 → is_string (record { code = 254; meta = string_meta most }) ≡ true
is_string_map most small = rw (real_type_back most small) refl

pub map_goes : (k : Kind) → IsTrue (is_kind k) → goes_with k (column_map k) ≡ true
map_goes (kind.Signed size) ok = eq-eqb (integer_code size) (integer_code size) refl
map_goes (kind.Unsigned size) ok = eq-eqb (integer_code size) (integer_code size) refl
map_goes (kind.Decimal precision scale) ok = eq-eqb (precision + 256 * scale) (precision + 256 * scale) refl
map_goes (kind.Char most) ok = let small = leb-true most 255 ok in is_string_map (4 * most) (omega (arith, small))
map_goes (kind.Varchar most) ok = refl
map_goes (kind.Text prefix) ok = eq-eqb prefix prefix refl
map_goes (kind.Binary size) ok = let small = leb-true size 255 ok in is_string_map size (omega (arith, small))
map_goes (kind.Varbinary most) ok = refl
map_goes (kind.Blob prefix) ok = eq-eqb prefix prefix refl
map_goes kind.Date ok = refl
map_goes kind.Year ok = refl
map_goes (kind.Datetime digits) ok = eq-eqb digits digits refl
map_goes (kind.Timestamp digits) ok = eq-eqb digits digits refl
