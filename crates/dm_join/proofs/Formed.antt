-- What it takes to be a schema, part by part.
use Rattle.std.proofs.Common.{◌≡◌, Bool, true, false, cond, List, [], ◌∷◌, length, Option, Some, None, Ok, refl, sym, ap, ◌∙◌}
use Rattle.std.specs.Prelude.{◌||◌, ◌&&◌, not, ◌==◌, nat_le, is_none}
use Rattle.std.specs.List.{list_any, list_all}
use Rattle.std.proofs.lemmas.Bool.{false≢true, and_parts, and_from, or_parts, or_from, not-false, not_from_true, leb-true, le-ltb}
use Rattle.dm_list.specs.Answer.{first_refusal, unless_refused}
use Rattle.dm_schema.specs.declared.fault.SchemaFault.{SchemaFault}
use Rattle.dm_schema.specs.declared.fault.SchemaFault.TheVariants as fault
use Rattle.dm_schema.specs.Layout.{Layout}
use Rattle.dm_schema.specs.Kinds.{is_column, is_key}
use Rattle.dm_schema.specs.Schemas.{all_columns, has_nullable, is_unfit_default, column_repeats, key_repeats, names_repeat, some_key_repeats_names, refusals, is_formed, joined_schema_of}

pub record Formed (layout : Layout) : Type 0 where
  pub columns : list_all is_column layout.columns ≡ true
  pub keys : list_all is_key layout.uniques ≡ true
  pub few_keys : nat_le (length layout.uniques) 16 ≡ true
  pub columns_apart : column_repeats layout.columns ≡ false
  pub keys_apart : key_repeats layout.uniques ≡ false
  pub primary_apart : names_repeat layout.primary ≡ false
  pub key_names_apart : some_key_repeats_names layout.uniques ≡ false
  pub some_primary : (length layout.primary == 0) ≡ false
  pub primary_stands : all_columns layout.columns layout.primary ≡ true
  pub keys_stand : list_all (λ k. all_columns layout.columns k.columns) layout.uniques ≡ true
  pub not_nullable : has_nullable layout.columns layout.primary ≡ false
  pub defaults_fit : list_any is_unfit_default layout.columns ≡ false

first_not : {E : Type 0} (b : Bool) (fault : E) (rest : Option E) → is_none (cond b (Some fault) rest) ≡ true → (b ≡ false) × (is_none rest ≡ true)
first_not true fault rest e = absurd (false≢true e)
first_not false fault rest e = (refl, e)

pub record NoRefusal (a b c d e : Bool) : Type 0 where
  pub first : a ≡ false
  pub second : b ≡ false
  pub third : c ≡ false
  pub fourth : d ≡ false
  pub fifth : e ≡ false

five : Bool → Bool → Bool → Bool → Bool → List (Bool × SchemaFault)
five a b c d e = (a, fault.Duplicate) ∷ (b, fault.NoPrimary) ∷ (c, fault.UnknownColumn) ∷ (d, fault.NullablePrimary) ∷ (e, fault.DefaultUnfit) ∷ []

five_false : (a b c d e : Bool) → is_none (first_refusal (five a b c d e)) ≡ true → NoRefusal a b c d e
unfolding five
five_false a b c d e none =
    let one = first_not a fault.Duplicate (first_refusal ((b, fault.NoPrimary) ∷ (c, fault.UnknownColumn) ∷ (d, fault.NullablePrimary) ∷ (e, fault.DefaultUnfit) ∷ [])) none in
    let two = first_not b fault.NoPrimary (first_refusal ((c, fault.UnknownColumn) ∷ (d, fault.NullablePrimary) ∷ (e, fault.DefaultUnfit) ∷ [])) one.1 in
    let three = first_not c fault.UnknownColumn (first_refusal ((d, fault.NullablePrimary) ∷ (e, fault.DefaultUnfit) ∷ [])) two.1 in
    let four = first_not d fault.NullablePrimary (first_refusal ((e, fault.DefaultUnfit) ∷ [])) three.1 in
    let last = first_not e fault.DefaultUnfit None four.1 in
    record { first = one.0; second = two.0; third = three.0; fourth = four.0; fifth = last.0 }

five_none : (a b c d e : Bool) → NoRefusal a b c d e → first_refusal (five a b c d e) ≡ None
unfolding five
five_none a b c d e h =
    ap (λ x. first_refusal (five x b c d e)) h.first ∙ ap (λ x. first_refusal (five false x c d e)) h.second ∙ ap (λ x. first_refusal (five false false x d e)) h.third
    ∙ ap (λ x. first_refusal (five false false false x e)) h.fourth ∙ ap (λ x. first_refusal (five false false false false x)) h.fifth

are_refusals : (l : Layout) → refusals l.columns l.primary l.uniques
    ≡ five (column_repeats l.columns || key_repeats l.uniques || names_repeat l.primary || some_key_repeats_names l.uniques) (length l.primary == 0)
    (not (all_columns l.columns l.primary && list_all (λ k. all_columns l.columns k.columns) l.uniques)) (has_nullable l.columns l.primary) (list_any is_unfit_default l.columns)
unfolding five
are_refusals l = refl

pub formed_parts : (l : Layout) → is_formed l ≡ true → Formed l
formed_parts l formed =
    let one = and_parts (list_all is_column l.columns && list_all is_key l.uniques && nat_le (length l.uniques) 16) (is_none (first_refusal (refusals l.columns l.primary l.uniques))) formed in
    let two = and_parts (list_all is_column l.columns && list_all is_key l.uniques) (nat_le (length l.uniques) 16) one.0 in
    let three = and_parts (list_all is_column l.columns) (list_all is_key l.uniques) two.0 in
    let none = five_false _ _ _ _ _ (sym (ap (λ rs. is_none (first_refusal rs)) (are_refusals l)) ∙ one.1) in
    let a = or_parts (column_repeats l.columns || key_repeats l.uniques || names_repeat l.primary) (some_key_repeats_names l.uniques) none.first in
    let b = or_parts (column_repeats l.columns || key_repeats l.uniques) (names_repeat l.primary) a.0 in
    let d = or_parts (column_repeats l.columns) (key_repeats l.uniques) b.0 in
    let stand = and_parts (all_columns l.columns l.primary) (list_all (λ k. all_columns l.columns k.columns) l.uniques) (not-false _ none.third) in
    record {
      columns = three.0;
      keys = three.1;
      few_keys = two.1;
      columns_apart = d.0;
      keys_apart = d.1;
      primary_apart = b.1;
      key_names_apart = a.1;
      some_primary = none.second;
      primary_stands = stand.0;
      keys_stand = stand.1;
      not_nullable = none.fourth;
      defaults_fit = none.fifth;
    }

no_refusal : (l : Layout) → Formed l → first_refusal (refusals l.columns l.primary l.uniques) ≡ None
no_refusal l f =
    ap first_refusal (are_refusals l)
    ∙ five_none _ _ _ _ _ (record {
      first = or_from _ _ (or_from _ _ (or_from _ _ f.columns_apart f.keys_apart) f.primary_apart) f.key_names_apart;
      second = f.some_primary;
      third = not_from_true _ (and_from _ _ f.primary_stands f.keys_stand);
      fourth = f.not_nullable;
      fifth = f.defaults_fit;
    })

pub formed_from : (l : Layout) → Formed l → is_formed l ≡ true
formed_from l f =
    and_from (list_all is_column l.columns && list_all is_key l.uniques && nat_le (length l.uniques) 16) (is_none (first_refusal (refusals l.columns l.primary l.uniques)))
    (and_from (list_all is_column l.columns && list_all is_key l.uniques) (nat_le (length l.uniques) 16) (and_from (list_all is_column l.columns) (list_all is_key l.uniques) f.columns f.keys) f.few_keys)
    (ap is_none (no_refusal l f))

-- such columns and keys make a schema, however many columns there are
pub formed_makes : (l : Layout) → Formed l → joined_schema_of l.columns l.primary l.uniques ≡ Ok l
formed_makes l f =
    ap (λ b. unless_refused (cond b (Some fault.TooMany) (first_refusal (refusals l.columns l.primary l.uniques))) l) (le-ltb 16 (length l.uniques) (leb-true (length l.uniques) 16 f.few_keys))
    ∙ ap (λ o. unless_refused o l) (no_refusal l f)
