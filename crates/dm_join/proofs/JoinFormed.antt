-- The join of schemas is a schema.
use Rattle.std.proofs.Common.{◌≡◌, ℕ, ◌+◌, ◌<◌, ◌≤◌, Bool, true, false, List, [], ◌∷◌, ◌++◌, length, get_or, take, Some, None, refl, sym, ap, ◌∙◌, arith, inl, inr, append_assoc, append-nil}
use Rattle.std.specs.Prelude.{◌⊎◌, ◌&&◌}
use Rattle.std.specs.List.{list_any, list_all, filter}
use Rattle.std.proofs.lemmas.Bool.{false≢true, cases_Bool, and_cases, and_left, and_right, and_parts, and_from, leb-true, le-leb, both_ways}
use Rattle.std.proofs.lemmas.List.{take_more}
use Rattle.std.proofs.lemmas.List.Folds.{list_all-append}
use Rattle.dm_list.specs.Answer.{first_refusal}
use Rattle.dm_value.specs.declared.value.Value.TheVariants as v
use Rattle.dm_schema.specs.declared.column.Kind.{Kind}
use Rattle.dm_schema.specs.declared.column.DefaultRule.{DefaultRule}
use Rattle.dm_schema.specs.declared.column.DefaultRule.TheVariants as default
use Rattle.dm_schema.specs.declared.column.Column.{Column}
use Rattle.dm_schema.specs.declared.column.UniqueKey.{UniqueKey}
use Rattle.dm_schema.specs.Layout.{Layout}
use Rattle.dm_schema.specs.Names.{Text, same_name, column_at, has_column}
use Rattle.dm_schema.specs.Kinds.{is_column, is_key, is_folded, is_kind, is_rule}
use Rattle.dm_schema.specs.Schemas.{all_columns, is_nullable_column, is_unfit_default, names_repeat, is_formed, same_unique}
use Rattle.dm_join.specs.Join.{columns_under, refusals_of, joined_layout}
use Rattle.dm_join.specs.Groups.{are_formed, columns_of}
use Rattle.dm_join.proofs.Lists.{IsIn, all_of, all_from, any_of, any_from, none_of, none_from, from_filter}
use Rattle.dm_join.proofs.NameLemmas.{same_is_equal, same_from}
use Rattle.dm_join.proofs.Orders.{column_name, from_ordered, length_ordered, length_filtered, apart_from, apart_repeats, apart_filtered, apart_ordered, found_column}
use Rattle.dm_join.proofs.Exact.{default_exact}
use Rattle.dm_join.proofs.Formed.{Formed, formed_parts}
use Rattle.dm_join.proofs.JoinColumns.{from_under, under_named, Joined, joined_there, joined_has, joined_apart, fine_at, primary_at}

pub formed_each : (schemas : List Layout) (s : Layout) → are_formed schemas ≡ true → IsIn s schemas → Formed s
unfolding are_formed
formed_each schemas s formed i = formed_parts s (all_of is_formed schemas s formed i)

pub none_is_formed : are_formed [] ≡ true
unfolding are_formed
none_is_formed = refl

pub one_more_formed : (schemas : List Layout) (i : ℕ) (s : Layout) → i < length schemas → s ≡ get_or schemas i s → is_formed s ≡ true → are_formed (take i schemas) ≡ true → are_formed (take (i + 1) schemas) ≡ true
unfolding are_formed
one_more_formed schemas i s within here formed so_far =
    ap (list_all is_formed) (take_more schemas i s within)
    ∙ list_all-append is_formed (take i schemas) (get_or schemas i s ∷ [])
    ∙ and_from _ _ so_far (and_from _ _ (ap is_formed (sym here) ∙ formed) refl)

of_both : (xs ys : List Layout) → columns_of (xs ++ ys) ≡ columns_of xs ++ columns_of ys
of_both [] ys = refl
of_both (x ∷ xs) ys = ap (λ l. x.columns ++ l) (of_both xs ys) ∙ sym (append_assoc x.columns (columns_of xs) (columns_of ys))

pub one_more_columns : (schemas : List Layout) (i : ℕ) (s : Layout) (columns : List Column) → i < length schemas → s ≡ get_or schemas i s → columns ≡ columns_of (take i schemas) → columns ++ s.columns ≡ columns_of (take (i + 1) schemas)
one_more_columns schemas i s columns within here so_far =
    ap (λ l. l ++ s.columns) so_far
    ∙ ap (λ (t : Layout). columns_of (take i schemas) ++ t.columns) here
    ∙ ap (λ l. columns_of (take i schemas) ++ l) (sym (append-nil (get_or schemas i s).columns))
    ∙ sym (of_both (take i schemas) (get_or schemas i s ∷ []))
    ∙ ap columns_of (sym (take_more schemas i s within))

unfit_alike : (one other : Text) (k : Kind) (a b : Bool) (rule : DefaultRule) → is_rule rule ≡ true
    → is_unfit_default (record { name = one; kind = k; nullable = a; default_rule = rule }) ≡ false → is_unfit_default (record { name = other; kind = k; nullable = b; default_rule = rule }) ≡ false
unfit_alike one other k a b default.Nothing r h = refl
unfit_alike one other k a b default.Now r h = refl
unfit_alike one other k a b (default.Const v.Null) r h = absurd (false≢true r)
unfit_alike one other k a b (default.Const (v.Int n)) r h = h
unfit_alike one other k a b (default.Const (v.Bytes bytes)) r h = h
unfit_alike one other k a b (default.Const (v.Dec d)) r h = h
unfit_alike one other k a b (default.Const (v.Date d)) r h = h
unfit_alike one other k a b (default.Const (v.Moment m)) r h = h
unfit_alike one other k a b (default.Const (v.Stamp s)) r h = h

abbrev pub unique_name : UniqueKey → Text
unique_name k = k.name

module _ (s : Layout) (ss : List Layout) (formed : are_formed (s ∷ ss) ≡ true) (none : first_refusal (refusals_of (s ∷ ss)) ≡ None) where
  abbrev schemas : List Layout
  schemas = s ∷ ss

  abbrev joined : Layout
  joined = joined_layout schemas

  first : Formed s
  first = formed_each schemas s formed (inl refl)

  -- a column under a name is one of a formed schema's
  column_is_fine : (n : Text) (c : Column) → IsIn c (columns_under schemas n) → (is_column c ≡ true) × (is_unfit_default c ≡ false)
  column_is_fine n c i =
      let from = from_under schemas n c i in
      let f = formed_each schemas from.0 formed from.1 in
      let there = (found_column from.0.columns n c from.2).0 in
      (all_of is_column from.0.columns c f.columns there, none_of is_unfit_default from.0.columns c f.defaults_fit there)

  column_parts : (c : Column) → is_column c ≡ true → (is_folded c.name ≡ true) × (is_kind c.kind ≡ true) × (is_rule c.default_rule ≡ true)
  column_parts c e =
      let one = and_parts (is_folded c.name && is_kind c.kind) (is_rule c.default_rule) e in
      let two = and_parts (is_folded c.name) (is_kind c.kind) one.0 in
      (two.0, two.1, one.1)

  joined_is_column : (c : Column) → IsIn c joined.columns → is_column c ≡ true
  joined_is_column c i =
      let j = joined_there schemas c i in
      let one = column_parts j.parts.first (column_is_fine c.name j.parts.first j.parts.first_in).0 in
      let most = column_parts j.parts.greatest (column_is_fine c.name j.parts.greatest j.parts.greatest_in).0 in
      and_from (is_folded c.name && is_kind c.kind) (is_rule c.default_rule)
      (and_from (is_folded c.name) (is_kind c.kind) (ap is_folded j.parts.name ∙ one.0) (ap is_kind j.parts.kind ∙ most.1))
      (ap is_rule j.parts.default_rule ∙ one.2)

  joined_default_fits : (c : Column) → IsIn c joined.columns → is_unfit_default c ≡ false
  joined_default_fits c i =
      let j = joined_there schemas c i in
      let fine = fine_at schemas none c.name j.there in
      let g = j.parts.greatest in
      let rule : g.default_rule ≡ c.default_rule = default_exact _ _ (fine.defaults g j.parts.first j.parts.greatest_in j.parts.first_in) ∙ sym j.parts.default_rule in
      let kept : is_unfit_default (record { name = g.name; kind = c.kind; nullable = g.nullable; default_rule = c.default_rule }) ≡ false =
      ap (λ k. is_unfit_default (record { name = g.name; kind = k; nullable = g.nullable; default_rule = c.default_rule })) j.parts.kind
      ∙ ap (λ r. is_unfit_default (record { name = g.name; kind = g.kind; nullable = g.nullable; default_rule = r })) (sym rule)
      ∙ (column_is_fine c.name g j.parts.greatest_in).1 in
      unfit_alike g.name c.name c.kind g.nullable c.nullable c.default_rule
      (ap is_rule j.parts.default_rule ∙ (column_parts j.parts.first (column_is_fine c.name j.parts.first j.parts.first_in).0).2) kept

  under_not_nullable : (n : Text) (c : Column) → list_any (λ m. same_name n m) s.primary ≡ true → IsIn c (columns_under schemas n) → c.nullable ≡ false
  under_not_nullable n c among i =
      by (and_cases c.nullable (list_any (λ m. same_name c.name m) from.0.primary) (none_of (is_nullable_column from.0.primary) from.0.columns c f.not_nullable (found_column from.0.columns n c from.2).0)) where
        from : (t : Layout) × IsIn t schemas × (column_at t.columns n ≡ Some c)
        from = from_under schemas n c i

        f : Formed from.0
        f = formed_each schemas from.0 formed from.1

        by : (c.nullable ≡ false) ⊎ (list_any (λ m. same_name c.name m) from.0.primary ≡ false) → c.nullable ≡ false
        by (inl e) = e
        by (inr e) =
            absurd (both_ways _ e
            (ap (λ l. list_any (λ m. same_name c.name m) l) (sym (primary_at schemas from.0 none from.1))
            ∙ ap (λ (k : Text). list_any (λ m. same_name k m) s.primary) (under_named schemas n c i) ∙ among))

  joined_not_nullable : (c : Column) → IsIn c joined.columns → is_nullable_column s.primary c ≡ false
  joined_not_nullable c i = by (cases_Bool (list_any (λ m. same_name c.name m) s.primary)) where
    j : Joined schemas c
    j = joined_there schemas c i

    by : (list_any (λ m. same_name c.name m) s.primary ≡ true) ⊎ (list_any (λ m. same_name c.name m) s.primary ≡ false) → is_nullable_column s.primary c ≡ false
    by (inl among) = and_left c.nullable (list_any (λ m. same_name c.name m) s.primary) (j.parts.nullable ∙ none_from (λ d. d.nullable) (columns_under schemas c.name) (λ d k. under_not_nullable c.name d among k))
    by (inr e) = and_right c.nullable (list_any (λ m. same_name c.name m) s.primary) e

  joined_has_name : (n : Text) → has_column s.columns n ≡ true → has_column joined.columns n ≡ true
  joined_has_name n e =
      let d = any_from (λ c. same_name c.name n) s.columns e in
      let c = joined_has schemas s d.0 (inl refl) d.1 in
      any_of (λ c. same_name c.name n) joined.columns c.0 c.1 (same_from c.0.name n (c.2 ∙ same_is_equal d.0.name n d.2))

  all_stand : (names : List Text) → all_columns s.columns names ≡ true → all_columns joined.columns names ≡ true
  all_stand names e = all_from (λ n. has_column joined.columns n) names (λ n i. joined_has_name n (all_of (λ m. has_column s.columns m) names n e i))

  abbrev is_common : UniqueKey → Bool
  is_common k = list_all (λ t. list_any (same_unique k) t.uniques) schemas

  from_first : (k : UniqueKey) → IsIn k joined.uniques → IsIn k s.uniques
  from_first k i = (from_filter is_common s.uniques k (from_ordered unique_name (filter is_common s.uniques) k i)).0

  pub joined_is_formed : Formed joined
  joined_is_formed =
      let few : length (filter is_common s.uniques) ≤ length s.uniques = length_filtered is_common s.uniques in
      let same : length joined.uniques ≡ length (filter is_common s.uniques) = length_ordered unique_name (filter is_common s.uniques) in
      let most : length s.uniques ≤ 16 = leb-true (length s.uniques) 16 first.few_keys in
      let at_most_16 : length joined.uniques ≤ 16 = omega arith in
      record {
        columns = all_from is_column joined.columns joined_is_column;
        keys = all_from is_key joined.uniques (λ k i. all_of is_key s.uniques k first.keys (from_first k i));
        few_keys = le-leb (length joined.uniques) 16 at_most_16;
        columns_apart = apart_repeats column_name joined.columns (joined_apart schemas);
        keys_apart = apart_repeats unique_name joined.uniques (apart_ordered unique_name (filter is_common s.uniques) (apart_filtered unique_name is_common s.uniques (apart_from unique_name s.uniques first.keys_apart)));
        primary_apart = first.primary_apart;
        key_names_apart = none_from (λ k. names_repeat k.columns) joined.uniques (λ k i. none_of (λ k. names_repeat k.columns) s.uniques k first.key_names_apart (from_first k i));
        some_primary = first.some_primary;
        primary_stands = all_stand s.primary first.primary_stands;
        keys_stand = all_from (λ k. all_columns joined.columns k.columns) joined.uniques (λ k i. all_stand k.columns (all_of (λ k. all_columns s.columns k.columns) s.uniques k first.keys_stand (from_first k i)));
        not_nullable = none_from (is_nullable_column s.primary) joined.columns joined_not_nullable;
        defaults_fit = none_from is_unfit_default joined.columns joined_default_fits;
      }
