-- A schema stays one when its columns and keys are put in order.
use Rattle.std.proofs.Common.{◌≡◌, Bool, true, false, List, Ok, ap, ◌∙◌}
use Rattle.std.specs.Prelude.{IsTrue, nat_le}
use Rattle.std.specs.List.{list_any, list_all}
use Rattle.dm_schema.specs.declared.column.Column.{Column}
use Rattle.dm_schema.specs.Kinds.{is_column, is_key}
use Rattle.dm_schema.specs.Layout.{Layout}
use Rattle.dm_schema.specs.Names.{Text, has_column, repeats, same_name}
use Rattle.dm_schema.specs.NameOrder.{columns_in_order, in_order_of, uniques_in_order}
use Rattle.dm_schema.specs.Schemas.{all_columns, in_order, is_formed, is_nullable_column, is_unfit_default, joined_schema_of, names_repeat}
use Rattle.dm_join.proofs.Formed.{Formed, formed_parts, formed_makes}
use Rattle.dm_join.proofs.JoinFormed.{unique_name}
use Rattle.dm_join.proofs.Lists.{all_from, all_of, any_from, any_of, none_from, none_of}
use Rattle.dm_join.proofs.Orders.{apart_from, apart_ordered, apart_repeats, column_name, from_ordered, in_ordered, length_ordered}

all_ordered : {A : Type 0} (test : A → Bool) (name : A → Text) (xs : List A) → list_all test xs ≡ true → list_all test (in_order_of name xs) ≡ true
all_ordered test name xs all = all_from test (in_order_of name xs) (λ x i. all_of test xs x all (from_ordered name xs x i))

none_ordered : {A : Type 0} (test : A → Bool) (name : A → Text) (xs : List A) → list_any test xs ≡ false → list_any test (in_order_of name xs) ≡ false
none_ordered test name xs none = none_from test (in_order_of name xs) (λ x i. none_of test xs x none (from_ordered name xs x i))

apart_in_order : {A : Type 0} (name : A → Text) (xs : List A) → repeats (λ a b. same_name (name a) (name b)) xs ≡ false
    → repeats (λ a b. same_name (name a) (name b)) (in_order_of name xs) ≡ false
apart_in_order name xs apart = apart_repeats name (in_order_of name xs) (apart_ordered name xs (apart_from name xs apart))

stand_ordered : (columns : List Column) (names : List Text) → all_columns columns names ≡ true → all_columns (columns_in_order columns) names ≡ true
stand_ordered columns names all =
    all_from (λ n. has_column (columns_in_order columns) n) names (λ n i.
    let found = any_from (λ c. same_name c.name n) columns (all_of (λ n. has_column columns n) names n all i) in
    any_of (λ c. same_name c.name n) (columns_in_order columns) found.0 (in_ordered column_name columns found.0 found.1) found.2)

formed_in_order : (l : Layout) → Formed l → Formed (in_order l)
formed_in_order l f = record {
  columns = all_ordered is_column column_name l.columns f.columns;
  keys = all_ordered is_key unique_name l.uniques f.keys;
  few_keys = ap (λ n. nat_le n 16) (length_ordered unique_name l.uniques) ∙ f.few_keys;
  columns_apart = apart_in_order column_name l.columns f.columns_apart;
  keys_apart = apart_in_order unique_name l.uniques f.keys_apart;
  primary_apart = f.primary_apart;
  key_names_apart = none_ordered (λ k. names_repeat k.columns) unique_name l.uniques f.key_names_apart;
  some_primary = f.some_primary;
  primary_stands = stand_ordered l.columns l.primary f.primary_stands;
  keys_stand =
      all_from (λ k. all_columns (columns_in_order l.columns) k.columns) (uniques_in_order l.uniques) (λ k i.
      stand_ordered l.columns k.columns (all_of (λ k. all_columns l.columns k.columns) l.uniques k f.keys_stand (from_ordered unique_name l.uniques k i)));
  not_nullable = none_ordered (λ c. is_nullable_column l.primary c) column_name l.columns f.not_nullable;
  defaults_fit = none_ordered is_unfit_default column_name l.columns f.defaults_fit;
}

pub ordered_columns : (l : Layout) → is_formed l ≡ true → IsTrue (list_all is_column (columns_in_order l.columns))
ordered_columns l formed = (formed_in_order l (formed_parts l formed)).columns

pub ordered_keys : (l : Layout) → is_formed l ≡ true → IsTrue (list_all is_key (uniques_in_order l.uniques))
ordered_keys l formed = (formed_in_order l (formed_parts l formed)).keys

pub ordered_makes : (l : Layout) → is_formed l ≡ true → joined_schema_of (columns_in_order l.columns) l.primary (uniques_in_order l.uniques) ≡ Ok (in_order l)
ordered_makes l formed = formed_makes (in_order l) (formed_in_order l (formed_parts l formed))
