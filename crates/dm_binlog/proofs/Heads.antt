-- Reading what stands before the rows, step by step.
use Rattle.std.proofs.Common.{◌≡◌, ℕ, ◌+◌, ◌*◌, ◌≤◌, Bool, true, false, cond, List, [], length, take, length-take, length-drop, Option, Some, None, leb, ◌&&◌, refl, sym, ap, ◌∙◌, arith}
use Rattle.std.proofs.lemmas.Bool.{leb-true}
use Rattle.dm_base.specs.Reading.{Reading, le, lenenc, piece, left_of}
use Rattle.dm_binlog.specs.Bodies.{all_set, bitmap_length, is_update, rows_head_of, second_bitmap, version_of}

abbrev got : Option (List ℕ × Reading) → List ℕ
got None = []
got (Some read) = read.0

-- a piece has as many bytes as were asked for
pub piece_length : (count : ℕ) (before after : Reading) (bytes : List ℕ) → piece count before ≡ Some (bytes, after) → length bytes ≡ count
piece_length count before after bytes h = by (leb (before.place + count) (length before.bytes)) refl h where
  by : (b : Bool) → leb (before.place + count) (length before.bytes) ≡ b
      → cond {A = Option (List ℕ × Reading)} b (Some (take count (left_of before), record { bytes = before.bytes; place = before.place + count })) None ≡ Some (bytes, after) → length bytes ≡ count
  by true e same =
      let it : take count (left_of before) ≡ bytes = ap got same in
      let within = leb-true _ _ e in
      rw (← it) (simp (length-take, length-drop) (omega arith))
  by false e same = absurd cc

-- a bitmap has a bit for each column
pub bits_there : (count bytes : ℕ) (before after : Reading) (bitmap : List ℕ) → bytes ≡ bitmap_length count → piece bytes before ≡ Some (bitmap, after) → count ≤ 8 * length bitmap
bits_there count bytes before after bitmap same h = let e = piece_length bytes before after bitmap h in omega (arith, e, same)

pub second_there : (kind count : ℕ) (before after : Reading) (first bitmap : List ℕ) → count ≤ 8 * length first → second_bitmap kind count first before ≡ Some (bitmap, after) → count ≤ 8 * length bitmap
second_there kind count before after first bitmap there h = by (is_update kind) h where
  by : (b : Bool) → cond {A = Reading → Option (List ℕ × Reading)} b (piece (bitmap_length count)) (λ r. Some (first, r)) before ≡ Some (bitmap, after) → count ≤ 8 * length bitmap
  by true same = bits_there count (bitmap_length count) before after bitmap refl same
  by false same = let it : first ≡ bitmap = ap got same in rw (← it) there

module _ (kind id flags : ℕ) (body extra : List ℕ) (start named flagged placed : Reading)
    (begun : start ≡ record { bytes = body; place = 0 }) (id_is : le 6 start ≡ Some (id, named)) (flags_are : le 2 named ≡ Some (flags, flagged)) (extra_is : version_of kind flagged ≡ Some (extra, placed)) where
  first_is : le 6 (record { bytes = body; place = 0 }) ≡ Some (id, named)
  first_is = ap (le 6) (sym begun) ∙ id_is

  pub no_count : lenenc placed ≡ None → None ≡ rows_head_of kind body
  no_count none = rw (first_is, flags_are, extra_is, none) refl

  module _ (count : ℕ) (counted : Reading) (count_is : lenenc placed ≡ Some (count, counted)) where
    module _ (bytes : ℕ) (bytes_are : bytes ≡ bitmap_length count) where
      pub no_present : piece bytes counted ≡ None → None ≡ rows_head_of kind body
      no_present none =
          let present_is : piece (bitmap_length count) counted ≡ None = ap (λ n. piece n counted) (sym bytes_are) ∙ none in
          rw (first_is, flags_are, extra_is, count_is, present_is) refl

      module _ (present : List ℕ) (shown : Reading) (shown_is : piece bytes counted ≡ Some (present, shown)) where
        present_is : piece (bitmap_length count) counted ≡ Some (present, shown)
        present_is = ap (λ n. piece n counted) (sym bytes_are) ∙ shown_is

        pub no_after : second_bitmap kind count present shown ≡ None → None ≡ rows_head_of kind body
        no_after none = rw (first_is, flags_are, extra_is, count_is, present_is, none) refl

        pub whole_head : (after : List ℕ) (ended : Reading) (full : Bool) (rows : ℕ) → second_bitmap kind count present shown ≡ Some (after, ended) → full ≡ (all_set count present && all_set count after) → rows ≡ ended.place
            → Some (record { id = id; count = count; full = full; rows = rows }) ≡ rows_head_of kind body
        whole_head after ended full rows after_is same ends = rw (same, ends, first_is, flags_are, extra_is, count_is, present_is, after_is) refl
