-- The join of schemas, from the join of their columns in one list.
use Rattle.std.proofs.Common.{◌≡◌, ◌<◌, Bool, true, false, cond, List, [], ◌∷◌, ◌++◌, length, get_or, Option, Some, None, Result, Ok, Err, refl, sym, ap, subst, ◌∙◌, arith}
use Rattle.std.specs.Prelude.{not}
use Rattle.std.specs.List.{list_all, flat_map}
use Rattle.dm_list.specs.Answer.{Answers, first_refusal, unless_refused}
use Rattle.dm_schema.specs.declared.column.Column.{Column}
use Rattle.dm_schema.specs.declared.column.UniqueKey.{UniqueKey}
use Rattle.dm_schema.specs.Layout.{Layout}
use Rattle.dm_schema.specs.Names.{Text, column_names}
use Rattle.dm_schema.specs.Kinds.{is_column, is_key}
use Rattle.dm_schema.specs.declared.fault.SchemaFault.TheVariants as fault
use Rattle.dm_schema.specs.Schemas.{joined_schema_of, schema_of, is_too_many, refusals}
use Rattle.dm_join.specs.declared.no_join.JoinCause.TheVariants as cause
use Rattle.dm_join.specs.declared.no_join.NoJoin.{NoJoin}
use Rattle.dm_join.specs.declared.no_join.NoJoin.TheVariants.{At, Memory}
use Rattle.dm_join.specs.AtMost.{same_names}
use Rattle.dm_join.specs.NameSet.{name_set}
use Rattle.dm_join.specs.Join.{columns_under, refusals_at, all_names, first_primary, first_name, common_uniques, refusals_of, joined_layout, join, is_memory}
use Rattle.dm_join.specs.Groups.{are_formed, columns_of, columns_named, columns_joined}
use Rattle.dm_join.proofs.Orders.{column_name, apart_from}
use Rattle.dm_join.proofs.Formed.{Formed, formed_makes}
use Rattle.dm_join.proofs.GroupLemmas.{joined_by, joined_by_alike, is_joined_by, columns_joined_alike}
use Rattle.dm_join.proofs.JoinColumns.{named_is_under}
use Rattle.dm_join.proofs.JoinFormed.{formed_each, joined_is_formed}

map_append : (xs ys : List Column) → column_names (xs ++ ys) ≡ column_names xs ++ column_names ys
map_append [] ys = refl
map_append (x ∷ xs) ys = ap (λ l. x.name ∷ l) (map_append xs ys)

names_of_all : (schemas : List Layout) → column_names (columns_of schemas) ≡ flat_map (λ s. column_names s.columns) schemas
names_of_all [] = refl
names_of_all (s ∷ ss) = map_append s.columns (columns_of ss) ∙ ap (λ l. column_names s.columns ++ l) (names_of_all ss)

-- the schema of columns that were joined
abbrev pub with_columns : List Layout → Result (List Column) NoJoin → Result Layout NoJoin
with_columns schemas (Ok columns) = Ok (record { columns = columns; primary = first_primary schemas; uniques = common_uniques schemas })
with_columns schemas (Err fault) = Err fault

whole : (schemas : List Layout) (o : Option NoJoin) (columns : List Column)
    → unless_refused o (record { columns = columns; primary = first_primary schemas; uniques = common_uniques schemas }) ≡ with_columns schemas (unless_refused o columns)
whole schemas None columns = refl
whole schemas (Some fault) columns = refl

-- where the primary keys are one, the join is that of the columns
pub join_by_columns : (schemas : List Layout) (sorted : List Column) → are_formed schemas ≡ true → ((name : Text) → columns_named sorted name ≡ columns_named (columns_of schemas) name)
    → list_all (λ s. same_names (first_primary schemas) s.primary) schemas ≡ true → join schemas ≡ with_columns schemas (columns_joined schemas sorted)
unfolding join joined_by
join_by_columns schemas sorted formed kept primary =
    ap (λ b. unless_refused (cond (not b) (Some (At (first_name (first_primary schemas)) cause.Primary)) (first_refusal at_names)) (joined_layout schemas)) primary
    ∙ whole schemas (first_refusal at_names) (joined_layout schemas).columns
    ∙ ap (with_columns schemas) (sym by_names) where
      at_names : List (Bool × NoJoin)
      at_names = flat_map (λ name. refusals_at schemas name (columns_under schemas name)) (all_names schemas)

      by_names : columns_joined schemas sorted ≡ joined_by schemas (columns_under schemas) (all_names schemas)
      by_names =
          columns_joined_alike schemas sorted (columns_of schemas) kept
          ∙ is_joined_by schemas (columns_of schemas)
          ∙ joined_by_alike schemas (columns_named (columns_of schemas)) (columns_under schemas) (name_set (column_names (columns_of schemas)))
          (λ m i. named_is_under schemas m (λ s j. let f = formed_each schemas s formed j in apart_from column_name s.columns f.columns_apart))
          ∙ ap (λ ns. joined_by schemas (columns_under schemas) (name_set ns)) (names_of_all schemas)

-- the first schema's primary key, as the code reads it
pub primary_of_first : (schemas : List Layout) (first : Layout) → 0 < length schemas → first ≡ get_or schemas 0 first → first.primary ≡ first_primary schemas
primary_of_first [] first some is = absurd (omega arith)
primary_of_first (s ∷ ss) first some is = ap (λ (l : Layout). l.primary) is

pub primary_refused : (schemas : List Layout) (first : Layout) (column : Text) → 0 < length schemas → first ≡ get_or schemas 0 first → list_all (λ s. same_names first.primary s.primary) schemas ≡ false → column ≡ first_name first.primary
    → Err (At column cause.Primary) ≡ join schemas
unfolding join
primary_refused schemas first column some is differ named =
    let same : first.primary ≡ first_primary schemas = primary_of_first schemas first some is in
    ap (λ n. Err (At n cause.Primary)) (named ∙ ap first_name same)
    ∙ sym (ap (λ b. unless_refused (cond (not b) (Some (At (first_name (first_primary schemas)) cause.Primary)) (first_refusal (flat_map (λ name. refusals_at schemas name (columns_under schemas name)) (all_names schemas)))) (joined_layout schemas))
    (sym (ap (λ k. list_all (λ s. same_names k s.primary) schemas) same) ∙ differ))

-- what joined columns make
pub record Makes (schemas : List Layout) (columns : List Column) (primary : List Text) (uniques : List UniqueKey) : Type 0 where
  pub columns_fine : list_all is_column columns ≡ true
  pub keys_fine : list_all is_key uniques ≡ true
  pub made : joined_schema_of columns primary uniques ≡ Ok (record { columns = columns; primary = primary; uniques = uniques })
  pub is_join : join schemas ≡ Ok (record { columns = columns; primary = primary; uniques = uniques })

-- where there is an answer, no refusal came
pub not_refused : {T E : Type 0} (o : Option E) (x y : T) → unless_refused o x ≡ Ok y → (o ≡ None) × (x ≡ y)
not_refused None x y e = (refl, cc e)
not_refused (Some fault) x y e = absurd (cc e)

-- a join that there is, is the joined layout, and a schema
pub join_is : (schemas : List Layout) (joined : Layout) → join schemas ≡ Ok joined → (first_refusal (refusals_of schemas) ≡ None) × (joined_layout schemas ≡ joined)
unfolding join
join_is schemas joined e = not_refused (first_refusal (refusals_of schemas)) (joined_layout schemas) joined e

pub join_is_formed : (schemas : List Layout) (joined : Layout) → 0 < length schemas → are_formed schemas ≡ true → join schemas ≡ Ok joined → Formed joined
join_is_formed [] joined some formed e = absurd (omega arith)
join_is_formed (s ∷ ss) joined some formed e = let r = join_is (s ∷ ss) joined e in subst Formed r.1 (joined_is_formed s ss formed r.0)

pub makes_join : (schemas : List Layout) (first : Layout) (sorted columns : List Column) (primary : List Text) (uniques : List UniqueKey) → 0 < length schemas → first ≡ get_or schemas 0 first → are_formed schemas ≡ true
    → ((name : Text) → columns_named sorted name ≡ columns_named (columns_of schemas) name) → list_all (λ s. same_names first.primary s.primary) schemas ≡ true
    → Ok columns ≡ columns_joined schemas sorted → primary ≡ first.primary → uniques ≡ common_uniques schemas → Makes schemas columns primary uniques
makes_join schemas first sorted columns primary uniques some is formed kept same joined primary_is uniques_is =
    subst (λ us. Makes schemas columns primary us) (sym uniques_is) (subst (λ p. Makes schemas columns p (common_uniques schemas)) (sym (primary_is ∙ key)) whole_is) where
      key : first.primary ≡ first_primary schemas
      key = primary_of_first schemas first some is

      is_join : join schemas ≡ Ok (record { columns = columns; primary = first_primary schemas; uniques = common_uniques schemas })
      is_join =
          join_by_columns schemas sorted formed kept (sym (ap (λ k. list_all (λ s. same_names k s.primary) schemas) key) ∙ same)
          ∙ ap (with_columns schemas) (sym joined)

      fine : Formed (record { columns = columns; primary = first_primary schemas; uniques = common_uniques schemas })
      fine = join_is_formed schemas (record { columns = columns; primary = first_primary schemas; uniques = common_uniques schemas }) some formed is_join

      whole_is : Makes schemas columns (first_primary schemas) (common_uniques schemas)
      whole_is = record { columns_fine = fine.columns; keys_fine = fine.keys; made = formed_makes (record { columns = columns; primary = first_primary schemas; uniques = common_uniques schemas }) fine; is_join = is_join }

-- what speaks against the join of the columns, speaks against the join
pub columns_refused : (schemas : List Layout) (first : Layout) (sorted : List Column) (fault : NoJoin) → 0 < length schemas → first ≡ get_or schemas 0 first → are_formed schemas ≡ true
    → ((name : Text) → columns_named sorted name ≡ columns_named (columns_of schemas) name) → list_all (λ s. same_names first.primary s.primary) schemas ≡ true
    → Answers is_memory (Err fault) (columns_joined schemas sorted) → Answers is_memory (Err fault) (join schemas)
columns_refused schemas first sorted fault some is formed kept same answers = by fault answers where
  key : first.primary ≡ first_primary schemas
  key = primary_of_first schemas first some is

  by : (f : NoJoin) → Answers is_memory (Err f) (columns_joined schemas sorted) → Answers is_memory (Err f) (join schemas)
  by Memory h = tt
  by (At column why) h =
      ap (with_columns schemas) h
      ∙ sym (join_by_columns schemas sorted formed kept (sym (ap (λ k. list_all (λ s. same_names k s.primary) schemas) key) ∙ same))

-- one answer by another, whose faults are of another type
pub ok_is : {T E F : Type 0} {x y : T} (r : Result T E) (expected : Result T F) → r ≡ Ok x → r ≡ Ok y → expected ≡ Ok y → Ok x ≡ expected
ok_is {x = x} {y = y} r expected here there is = let one : x ≡ y = cc (sym here ∙ there) in ap Ok one ∙ sym is

-- a schema has the primary key that it was made with
pub made_primary : (columns : List Column) (primary : List Text) (uniques : List UniqueKey) (made : Layout) → Ok made ≡ schema_of columns primary uniques → made.primary ≡ primary
made_primary columns primary uniques made e =
    let r = not_refused (first_refusal ((is_too_many columns uniques, fault.TooMany) ∷ refusals columns primary uniques)) (record { columns = columns; primary = primary; uniques = uniques }) made (sym e) in
    sym (ap (λ (l : Layout). l.primary) r.1)
