-- A decimal that 128 bits with a sign don't hold is one of no kind.
use Rattle.std.proofs.Common.{◌≡◌, ℕ, ◌^◌, ◌<◌, ◌≤◌, Bool, true, false, cond, Option, Some, None, refl, arith, lit<, leb, ltb, eqb}
use Rattle.std.specs.Prelude.{unsigned_abs}
use Rattle.std.specs.Option.{option_map}
use Rattle.std.proofs.Math.Nat.{pow-le-pow_right}
use Rattle.std.proofs.lemmas.Bool.{and_parts, ltb-true, lt-ltb, leb-true}
use Rattle.dm_value.specs.declared.value.Value.TheVariants as value
use Rattle.dm_value.specs.declared.value.Dec.{Dec}
use Rattle.dm_schema.specs.declared.column.Kind.{Kind}
use Rattle.dm_schema.specs.declared.column.Kind.TheVariants as kind
use Rattle.dm_schema.specs.Kinds.{is_kind, is_between}
use Rattle.dm_schema.specs.Fits.{fits_kind}
use Rattle.dm_lex.specs.Literals.{fitting}
use Rattle.dm_lex.specs.Held.{is_held, held_decimal}

digits_held : (digits precision : ℕ) → precision ≤ 38 → digits < 10 ^ precision → ltb digits (2 ^ 127) ≡ true
digits_held digits precision few lt =
    let most : 10 ^ precision ≤ 10 ^ 38 = pow-le-pow_right (lit< tt) few in
    lt-ltb _ _ (omega (arith, most))

held_by_kind : (k : Kind) (d : Dec) → is_kind k ≡ true → fits_kind k (value.Dec d) ≡ true → is_held d.digits ≡ true
held_by_kind (kind.Decimal precision scale) d is fits =
    let few = leb-true precision 38 (and_parts (leb 1 precision) (leb precision 38) (and_parts (is_between 1 38 precision) (leb scale precision) is).0).1 in
    let below = ltb-true (unsigned_abs d.digits) (10 ^ precision) (and_parts (eqb d.scale scale) (ltb (unsigned_abs d.digits) (10 ^ precision)) fits).1 in
    digits_held (unsigned_abs d.digits) precision few below
held_by_kind k d is fits = absurd cc

pub none_fits : (k : Kind) (o : Option Dec) → is_kind k ≡ true → None ≡ held_decimal o → None ≡ fitting k (option_map value.Dec o)
none_fits k None is none = refl
none_fits k (Some d) is none = by (is_held d.digits) (fits_kind k (value.Dec d)) (held_by_kind k d is) none where
  by : (s t : Bool) → (t ≡ true → s ≡ true) → None ≡ cond s (Some d) None → None ≡ cond t (Some (value.Dec d)) None
  by true t h none = absurd cc
  by false true h none = absurd (let never = h refl in cc)
  by false false h none = refl
