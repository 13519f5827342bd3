-- The order of values tells all values apart, and is total.
use Rattle.std.proofs.Common.{◌≡◌, ℕ, refl, ap}
use Rattle.std.specs.Prelude.{ℤ}
use Rattle.std.specs.Cmp.{IsTotalOrder}
use Rattle.std.specs.FinMap.{slice_cmp-IsAntisymmetric}
use Rattle.std.proofs.lemmas.Cmp.{lists_total}
use Rattle.std.proofs.lemmas.Map.Lookups.{CmpEqualImpliesEq, exact_signed, exact_unsigned, exact_bytes, exact_pairs}
use Rattle.std.specs.declared.cmp.Ordering.TheVariants.{Less, Equal, Greater}
use Rattle.dm_value.specs.declared.value.Value.TheVariants as v
use Rattle.dm_value.specs.declared.value.Day.{Day}
use Rattle.dm_value.specs.contracts.value.ValueOrd.TheImpl.Laws.{total-law}
use Rattle.dm_value.specs.Order.{value_cmp, row_cmp, dec_cmp, day_cmp, moment_cmp, stamp_cmp}

less_not : Less ≡ Equal → ⊥
less_not h = cc

greater_not : Greater ≡ Equal → ⊥
greater_not h = cc

exact_dec : CmpEqualImpliesEq dec_cmp
exact_dec a b h = ap (λ (p : ℤ × ℕ). record { digits = p.0; scale = p.1 }) (exact_pairs _ _ exact_signed exact_unsigned (a.digits, a.scale) (b.digits, b.scale) h)

exact_day : CmpEqualImpliesEq day_cmp
exact_day a b h = ap (λ (p : ℕ × (ℕ × ℕ)). record { year = p.0; month = p.1.0; day = p.1.1 }) (exact_pairs _ _ exact_unsigned (exact_pairs _ _ exact_unsigned exact_unsigned) (a.year, (a.month, a.day)) (b.year, (b.month, b.day)) h)

exact_stamp : CmpEqualImpliesEq stamp_cmp
exact_stamp a b h = ap (λ (p : ℕ × ℕ). record { seconds = p.0; micros = p.1 }) (exact_pairs _ _ exact_unsigned exact_unsigned (a.seconds, a.micros) (b.seconds, b.micros) h)

exact_moment : CmpEqualImpliesEq moment_cmp
exact_moment a b h = ap (λ (p : Day × (ℕ × (ℕ × (ℕ × ℕ)))). record { day = p.0; hour = p.1.0; minute = p.1.1.0; second = p.1.1.1.0; micros = p.1.1.1.1 })
    (exact_pairs _ _ exact_day (exact_pairs _ _ exact_unsigned (exact_pairs _ _ exact_unsigned (exact_pairs _ _ exact_unsigned exact_unsigned))) (a.day, (a.hour, (a.minute, (a.second, a.micros)))) (b.day, (b.hour, (b.minute, (b.second, b.micros)))) h)

-- values that compare alike are one
pub value_exact : CmpEqualImpliesEq value_cmp
value_exact v.Null v.Null h = refl
value_exact v.Null (v.Int y) h = absurd (less_not h)
value_exact v.Null (v.Bytes y) h = absurd (less_not h)
value_exact v.Null (v.Dec y) h = absurd (less_not h)
value_exact v.Null (v.Date y) h = absurd (less_not h)
value_exact v.Null (v.Moment y) h = absurd (less_not h)
value_exact v.Null (v.Stamp y) h = absurd (less_not h)
value_exact (v.Int x) v.Null h = absurd (greater_not h)
value_exact (v.Int x) (v.Int y) h = ap v.Int (exact_signed x y h)
value_exact (v.Int x) (v.Bytes y) h = absurd (less_not h)
value_exact (v.Int x) (v.Dec y) h = absurd (less_not h)
value_exact (v.Int x) (v.Date y) h = absurd (less_not h)
value_exact (v.Int x) (v.Moment y) h = absurd (less_not h)
value_exact (v.Int x) (v.Stamp y) h = absurd (less_not h)
value_exact (v.Bytes x) v.Null h = absurd (greater_not h)
value_exact (v.Bytes x) (v.Int y) h = absurd (greater_not h)
value_exact (v.Bytes x) (v.Bytes y) h = ap v.Bytes (exact_bytes x y h)
value_exact (v.Bytes x) (v.Dec y) h = absurd (less_not h)
value_exact (v.Bytes x) (v.Date y) h = absurd (less_not h)
value_exact (v.Bytes x) (v.Moment y) h = absurd (less_not h)
value_exact (v.Bytes x) (v.Stamp y) h = absurd (less_not h)
value_exact (v.Dec x) v.Null h = absurd (greater_not h)
value_exact (v.Dec x) (v.Int y) h = absurd (greater_not h)
value_exact (v.Dec x) (v.Bytes y) h = absurd (greater_not h)
value_exact (v.Dec x) (v.Dec y) h = ap v.Dec (exact_dec x y h)
value_exact (v.Dec x) (v.Date y) h = absurd (less_not h)
value_exact (v.Dec x) (v.Moment y) h = absurd (less_not h)
value_exact (v.Dec x) (v.Stamp y) h = absurd (less_not h)
value_exact (v.Date x) v.Null h = absurd (greater_not h)
value_exact (v.Date x) (v.Int y) h = absurd (greater_not h)
value_exact (v.Date x) (v.Bytes y) h = absurd (greater_not h)
value_exact (v.Date x) (v.Dec y) h = absurd (greater_not h)
value_exact (v.Date x) (v.Date y) h = ap v.Date (exact_day x y h)
value_exact (v.Date x) (v.Moment y) h = absurd (less_not h)
value_exact (v.Date x) (v.Stamp y) h = absurd (less_not h)
value_exact (v.Moment x) v.Null h = absurd (greater_not h)
value_exact (v.Moment x) (v.Int y) h = absurd (greater_not h)
value_exact (v.Moment x) (v.Bytes y) h = absurd (greater_not h)
value_exact (v.Moment x) (v.Dec y) h = absurd (greater_not h)
value_exact (v.Moment x) (v.Date y) h = absurd (greater_not h)
value_exact (v.Moment x) (v.Moment y) h = ap v.Moment (exact_moment x y h)
value_exact (v.Moment x) (v.Stamp y) h = absurd (less_not h)
value_exact (v.Stamp x) v.Null h = absurd (greater_not h)
value_exact (v.Stamp x) (v.Int y) h = absurd (greater_not h)
value_exact (v.Stamp x) (v.Bytes y) h = absurd (greater_not h)
value_exact (v.Stamp x) (v.Dec y) h = absurd (greater_not h)
value_exact (v.Stamp x) (v.Date y) h = absurd (greater_not h)
value_exact (v.Stamp x) (v.Moment y) h = absurd (greater_not h)
value_exact (v.Stamp x) (v.Stamp y) h = ap v.Stamp (exact_stamp x y h)

pub value_total : IsTotalOrder value_cmp
value_total = total-law

pub row_exact : CmpEqualImpliesEq row_cmp
row_exact = slice_cmp-IsAntisymmetric value_exact

pub row_total : IsTotalOrder row_cmp
row_total = lists_total value_total
