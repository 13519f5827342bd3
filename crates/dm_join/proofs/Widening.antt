-- What fits a column fits each column above it, and the fill of a column fits it.
use Rattle.std.proofs.Common.{◌≡◌, ℕ, ◌≤◌, ◌<◌, ◌*◌, ◌-◌, ◌^◌, [], length, replicate, Option, Some, None, Bool, true, false, refl, sym, ap, subst, arith, inl, inr}
use Rattle.std.specs.Prelude.{◌⊎◌, ◌&&◌, not, is_some, ◌==◌, nat_lt, nat_le, ℤ, pos, neg_ℤ, int_le, int_lt}
use Rattle.std.specs.Str.{is_utf8}
use Rattle.std.specs.Fmt.{char_count}
use Rattle.std.proofs.lemmas.Str.{is_utf8-from_IsUtf8, IsUtf8-nil}
use Rattle.std.proofs.Math.Pow.{pow_mono}
use Rattle.std.proofs.lemmas.Nat.{pow_pos}
use Rattle.std.proofs.Math.Nat.{one-le-pow, pow-le-pow_right}
use Rattle.std.proofs.lemmas.List.{length-replicate}
use Rattle.std.proofs.lemmas.Bool.{and_from, not-false, ltb-true, lt-ltb, leb-true, le-leb, eq-eqb, false≢true}
use Rattle.dm_value.specs.declared.value.Value.{Value}
use Rattle.dm_value.specs.declared.value.Value.TheVariants as value
use Rattle.dm_schema.specs.declared.column.Kind.{Kind}
use Rattle.dm_schema.specs.declared.column.Kind.TheVariants as kind
use Rattle.dm_schema.specs.declared.column.DefaultRule.{DefaultRule}
use Rattle.dm_schema.specs.declared.column.DefaultRule.TheVariants as default
use Rattle.dm_schema.specs.declared.column.Column.{Column}
use Rattle.dm_schema.specs.Layout.{Layout}
use Rattle.dm_schema.specs.Fill.{fill, fill_by, fill_for_missing, missing_by, zero_of}
use Rattle.dm_schema.specs.Fits.{fits, fits_by, fits_kind}
use Rattle.dm_schema.specs.KindOrder.{size_of, size_at_most, same_family, kind_at_most}
use Rattle.dm_schema.specs.Schemas.{is_unfit_default}
use Rattle.dm_join.proofs.Lists.{IsIn, none_of}
use Rattle.dm_join.proofs.Formed.{Formed}
use Rattle.dm_join.proofs.KindLaws.{below_cases}
use Rattle.dm_join.proofs.AtMostLaws.{ColumnAtMost}

signed_grows : (m n : ℕ) (i : ℤ) → m ≤ n → (int_le (neg_ℤ (pos (2 ^ (8 * m - 1)))) i && int_lt i (pos (2 ^ (8 * m - 1)))) ≡ true
    → (int_le (neg_ℤ (pos (2 ^ (8 * n - 1)))) i && int_lt i (pos (2 ^ (8 * n - 1)))) ≡ true
signed_grows m n i low fit =
    let more : 2 ^ (8 * m - 1) ≤ 2 ^ (8 * n - 1) = pow_mono {i = 8 * m - 1} {j = 8 * n - 1} (omega arith) in
    at (2 ^ (8 * m - 1)) (2 ^ (8 * n - 1)) i more fit where
      at : (p q : ℕ) (i : ℤ) → p ≤ q → (int_le (neg_ℤ (pos p)) i && int_lt i (pos p)) ≡ true → (int_le (neg_ℤ (pos q)) i && int_lt i (pos q)) ≡ true
      at p q i more fit = grind arith

unsigned_grows : (m n : ℕ) (i : ℤ) → m ≤ n → (int_le (pos 0) i && int_lt i (pos (2 ^ (8 * m)))) ≡ true → (int_le (pos 0) i && int_lt i (pos (2 ^ (8 * n)))) ≡ true
unsigned_grows m n i low fit =
    let more : 2 ^ (8 * m) ≤ 2 ^ (8 * n) = pow_mono {i = 8 * m} {j = 8 * n} (omega arith) in
    at (2 ^ (8 * m)) (2 ^ (8 * n)) i more fit where
      at : (p q : ℕ) (i : ℤ) → p ≤ q → (int_le (pos 0) i && int_lt i (pos p)) ≡ true → (int_le (pos 0) i && int_lt i (pos q)) ≡ true
      at p q i more fit = grind arith

at_most_grows : (c m n : ℕ) → m ≤ n → nat_le c m ≡ true → nat_le c n ≡ true
at_most_grows c m n low e = le-leb c n (omega (arith, leb-true c m e))

below_grows : (c m n : ℕ) → m ≤ n → nat_lt c (256 ^ m) ≡ true → nat_lt c (256 ^ n) ≡ true
below_grows c m n low e = at (256 ^ m) (256 ^ n) (pow-le-pow_right {n = 256} (omega arith) low) e where
  at : (p q : ℕ) → p ≤ q → nat_lt c p ≡ true → nat_lt c q ≡ true
  at p q more e = lt-ltb c q (omega (arith, ltb-true c p e))

and_grows : (a b c : Bool) → (b ≡ true → c ≡ true) → (a && b) ≡ true → (a && c) ≡ true
and_grows true b c f e = f e
and_grows false b c f e = absurd (false≢true e)

first_grows : (a b c : Bool) → (a ≡ true → b ≡ true) → (a && c) ≡ true → (b && c) ≡ true
first_grows true b c f e = and_from b c (f refl) e
first_grows false b c f e = absurd (false≢true e)

-- the kind of a family that is ordered by size, with another size
with_size : Kind → ℕ → Kind
with_size (kind.Signed m) n = kind.Signed n
with_size (kind.Unsigned m) n = kind.Unsigned n
with_size (kind.Char m) n = kind.Char n
with_size (kind.Varchar m) n = kind.Varchar n
with_size (kind.Text m) n = kind.Text n
with_size (kind.Varbinary m) n = kind.Varbinary n
with_size (kind.Blob m) n = kind.Blob n
with_size k n = k

-- a kind of the family is told by its size
told_by_size : (a b : Kind) (n : ℕ) → same_family a b ≡ true → size_of b ≡ Some n → with_size a n ≡ b
unfolding with_size
told_by_size (kind.Signed m) (kind.Signed x) n f e = ap kind.Signed (sym (cc e))
told_by_size (kind.Unsigned m) (kind.Unsigned x) n f e = ap kind.Unsigned (sym (cc e))
told_by_size (kind.Char m) (kind.Char x) n f e = ap kind.Char (sym (cc e))
told_by_size (kind.Varchar m) (kind.Varchar x) n f e = ap kind.Varchar (sym (cc e))
told_by_size (kind.Text m) (kind.Text x) n f e = ap kind.Text (sym (cc e))
told_by_size (kind.Varbinary m) (kind.Varbinary x) n f e = ap kind.Varbinary (sym (cc e))
told_by_size (kind.Blob m) (kind.Blob x) n f e = ap kind.Blob (sym (cc e))
told_by_size (kind.Decimal p s) (kind.Decimal q t) n f e = absurd (cc e)
told_by_size (kind.Binary m) (kind.Binary x) n f e = absurd (cc e)
told_by_size kind.Date kind.Date n f e = absurd (cc e)
told_by_size kind.Year kind.Year n f e = absurd (cc e)
told_by_size (kind.Datetime m) (kind.Datetime x) n f e = absurd (cc e)
told_by_size (kind.Timestamp m) (kind.Timestamp x) n f e = absurd (cc e)
told_by_size a b n f e = absurd (false≢true f)

sized_grows : (a : Kind) (n : ℕ) (v : Value) → size_at_most (size_of a) (Some n) ≡ true → fits_kind a v ≡ true → fits_kind (with_size a n) v ≡ true
unfolding with_size
sized_grows (kind.Signed m) n (value.Int i) low e = signed_grows m n i (leb-true m n low) e
sized_grows (kind.Unsigned m) n (value.Int i) low e = unsigned_grows m n i (leb-true m n low) e
sized_grows (kind.Char m) n (value.Bytes bs) low e =
    first_grows (is_utf8 bs && nat_le (char_count bs) m) (is_utf8 bs && nat_le (char_count bs) n) _ (and_grows (is_utf8 bs) _ _ (at_most_grows (char_count bs) m n (leb-true m n low))) e
sized_grows (kind.Varchar m) n (value.Bytes bs) low e = and_grows (is_utf8 bs) _ _ (at_most_grows (char_count bs) m n (leb-true m n low)) e
sized_grows (kind.Text m) n (value.Bytes bs) low e = and_grows (is_utf8 bs) _ _ (below_grows (length bs) m n (leb-true m n low)) e
sized_grows (kind.Varbinary m) n (value.Bytes bs) low e = at_most_grows (length bs) m n (leb-true m n low) e
sized_grows (kind.Blob m) n (value.Bytes bs) low e = below_grows (length bs) m n (leb-true m n low) e
sized_grows (kind.Decimal p s) n v low e = absurd (false≢true low)
sized_grows (kind.Binary m) n v low e = absurd (false≢true low)
sized_grows kind.Date n v low e = absurd (false≢true low)
sized_grows kind.Year n v low e = absurd (false≢true low)
sized_grows (kind.Datetime m) n v low e = absurd (false≢true low)
sized_grows (kind.Timestamp m) n v low e = absurd (false≢true low)
sized_grows a n v low e = absurd (false≢true e)

-- a value of a kind is one of each greater kind
pub kind_grows : (a b : Kind) (v : Value) → kind_at_most a b ≡ true → fits_kind a v ≡ true → fits_kind b v ≡ true
kind_grows a b v low fit = by (below_cases a b low) where
  sized : (o : Option ℕ) → size_of b ≡ o → same_family a b ≡ true → size_at_most (size_of a) o ≡ true → fits_kind b v ≡ true
  sized None e one below = absurd (no_size (size_of a) below) where
    no_size : (o : Option ℕ) → size_at_most o None ≡ true → ⊥
    no_size None e = false≢true e
    no_size (Some m) e = false≢true e
  sized (Some n) e one below = subst (λ k. fits_kind k v ≡ true) (told_by_size a b n one e) (sized_grows a n v below fit)

  by : (a ≡ b) ⊎ ((same_family a b ≡ true) × (size_at_most (size_of a) (size_of b) ≡ true)) → fits_kind b v ≡ true
  by (inl same) = subst (λ k. fits_kind k v ≡ true) same fit
  by (inr l) = sized (size_of b) refl l.0 l.1

fits_by_grows : (a b : Kind) (m n : Bool) (v : Value) → kind_at_most a b ≡ true → (m ≡ true → n ≡ true) → fits_by a m v ≡ true → fits_by b n v ≡ true
fits_by_grows a b m n value.Null low null e = null e
fits_by_grows a b m n (value.Int i) low null e = kind_grows a b (value.Int i) low e
fits_by_grows a b m n (value.Bytes bs) low null e = kind_grows a b (value.Bytes bs) low e
fits_by_grows a b m n (value.Dec x) low null e = kind_grows a b (value.Dec x) low e
fits_by_grows a b m n (value.Date x) low null e = kind_grows a b (value.Date x) low e
fits_by_grows a b m n (value.Moment x) low null e = kind_grows a b (value.Moment x) low e
fits_by_grows a b m n (value.Stamp x) low null e = kind_grows a b (value.Stamp x) low e

-- a value that fits a column fits each of a greater kind that is nullable if it is
pub fits_grows : (c d : Column) (v : Value) → kind_at_most c.kind d.kind ≡ true → (c.nullable ≡ true → d.nullable ≡ true) → fits v c ≡ true → fits v d ≡ true
fits_grows c d v low null e = fits_by_grows c.kind d.kind c.nullable d.nullable v low null e

-- a value that fits a column fits each column above it
pub fits_above : (c d : Column) (v : Value) → ColumnAtMost c d → fits v c ≡ true → fits v d ≡ true
fits_above c d v most e = fits_grows c d v most.kind most.nullable e

as_value : (k : Kind) (b : Bool) (v w : Value) → Some w ≡ Some v → fits_by k b w ≡ true → fits_by k b v ≡ true
as_value k b v w e fit = let same : w ≡ v = cc e in subst (λ x. fits_by k b x ≡ true) same fit

-- the zero of a kind is one of it
zero_fits : (k : Kind) (b : Bool) (v : Value) → zero_of k ≡ Some v → fits_by k b v ≡ true
unfolding char_count
zero_fits (kind.Signed n) b v e =
    as_value (kind.Signed n) b v (value.Int (pos 0)) e (at (2 ^ (8 * n - 1)) (pow_pos (8 * n - 1))) where
      at : (p : ℕ) → 0 < p → (int_le (neg_ℤ (pos p)) (pos 0) && int_lt (pos 0) (pos p)) ≡ true
      at p some = grind arith
zero_fits (kind.Unsigned n) b v e =
    as_value (kind.Unsigned n) b v (value.Int (pos 0)) e (at (2 ^ (8 * n)) (pow_pos (8 * n))) where
      at : (p : ℕ) → 0 < p → (int_le (pos 0) (pos 0) && int_lt (pos 0) (pos p)) ≡ true
      at p some = grind arith
zero_fits (kind.Decimal p s) b v e =
    as_value (kind.Decimal p s) b v (value.Dec (record { digits = pos 0; scale = s })) e
    (and_from (s == s) (nat_lt 0 (10 ^ p)) (eq-eqb s s refl) (lt-ltb 0 (10 ^ p) (one-le-pow p 10 (omega arith))))
zero_fits (kind.Char m) b v e =
    as_value (kind.Char m) b v (value.Bytes []) e
    (and_from (is_utf8 [] && nat_le (char_count []) m) true (and_from (is_utf8 []) (nat_le (char_count []) m) (is_utf8-from_IsUtf8 [] IsUtf8-nil) (le-leb 0 m (omega arith))) refl)
zero_fits (kind.Varchar m) b v e =
    as_value (kind.Varchar m) b v (value.Bytes []) e (and_from (is_utf8 []) (nat_le (char_count []) m) (is_utf8-from_IsUtf8 [] IsUtf8-nil) (le-leb 0 m (omega arith)))
zero_fits (kind.Text m) b v e =
    as_value (kind.Text m) b v (value.Bytes []) e (and_from (is_utf8 []) (nat_lt 0 (256 ^ m)) (is_utf8-from_IsUtf8 [] IsUtf8-nil) (lt-ltb 0 (256 ^ m) (one-le-pow m 256 (omega arith))))
zero_fits (kind.Binary m) b v e = as_value (kind.Binary m) b v (value.Bytes (replicate m 0)) e (eq-eqb (length (replicate m 0)) m (length-replicate m 0))
zero_fits (kind.Varbinary m) b v e = as_value (kind.Varbinary m) b v (value.Bytes []) e (le-leb 0 m (omega arith))
zero_fits (kind.Blob m) b v e = as_value (kind.Blob m) b v (value.Bytes []) e (lt-ltb 0 (256 ^ m) (one-le-pow m 256 (omega arith)))
zero_fits kind.Date b v e = absurd (cc e)
zero_fits kind.Year b v e = absurd (cc e)
zero_fits (kind.Datetime n) b v e = absurd (cc e)
zero_fits (kind.Timestamp n) b v e = absurd (cc e)

fill_by_fits : (r : DefaultRule) (b : Bool) (k : Kind) (v : Value) → ((w : Value) → r ≡ default.Const w → fits_by k b w ≡ true) → fill_by r b k ≡ Some v → fits_by k b v ≡ true
fill_by_fits (default.Const w) b k v constant e = as_value k b v w e (constant w refl)
fill_by_fits default.Nothing true k v constant e = as_value k true v value.Null e refl
fill_by_fits default.Nothing false k v constant e = zero_fits k false v e
fill_by_fits default.Now b k v constant e = absurd (cc e)

default_fits : (c : Column) (w : Value) → is_unfit_default c ≡ false → c.default_rule ≡ default.Const w → fits w c ≡ true
default_fits c w fine is = not-false (fits w c) (by c.default_rule c.nullable c.kind is fine) where
  by : (r : DefaultRule) (b : Bool) (k : Kind) → r ≡ default.Const w → is_unfit_default (record { name = c.name; kind = k; nullable = b; default_rule = r }) ≡ false → not (fits_by k b w) ≡ false
  by (default.Const x) b k same e = let one : x ≡ w = cc same in subst (λ y. not (fits_by k b y) ≡ false) one e
  by default.Nothing b k same e = absurd (cc same)
  by default.Now b k same e = absurd (cc same)

-- the fill of a schema's column fits it
pub fill_fits : (l : Layout) (c : Column) (v : Value) → Formed l → IsIn c l.columns → fill c ≡ Some v → fits v c ≡ true
fill_fits l c v formed i e = fill_by_fits c.default_rule c.nullable c.kind v (λ w is. default_fits c w (none_of is_unfit_default l.columns c formed.defaults_fit i) is) e

missing_by_fills : (r : DefaultRule) (b : Bool) (k : Kind) → is_some (missing_by r b) ≡ true → fill_by r b k ≡ missing_by r b
missing_by_fills (default.Const w) b k some = refl
missing_by_fills default.Nothing true k some = refl
missing_by_fills default.Nothing false k some = absurd (false≢true some)
missing_by_fills default.Now b k some = absurd (false≢true some)

-- where a column has a constant fill for missing, that is its fill
pub missing_fills : (c : Column) → is_some (fill_for_missing c) ≡ true → fill c ≡ fill_for_missing c
missing_fills c some = missing_by_fills c.default_rule c.nullable c.kind some
