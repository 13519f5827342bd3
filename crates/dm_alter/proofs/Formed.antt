-- Behind a change, the columns and keys are still such that a schema can be made of them.
use Rattle.std.proofs.Common.{◌≡◌, ℕ, Bool, true, false, not, cond, ◌&&◌, ◌||◌, ◌==◌, suc, zero, ◌+◌, ◌/◌, ◌%◌, ◌<◌, ◌≤◌, List, [], ◌∷◌, ◌++◌, length, map, Option, Some, None, option_and_then, unwrap_or, refl, sym, ap, ◌∙◌, arith, nat_lt, nat_le, lit≤}
use Rattle.std.specs.Option.{option_map, option_map_or}
use Rattle.std.specs.List.{list_all, list_any, filter, flat_map, find, range_with_len}
use Rattle.std.proofs.lemmas.Bool.{and_parts, and_from, ltb-true, ltb-false}
use Rattle.std.proofs.lemmas.Bool.Decides.{nat_tests}
use Rattle.std.proofs.lemmas.List.Folds.{list_all-append, list_any-append}
use Rattle.dm_value.specs.declared.value.Value.{Value}
use Rattle.dm_value.specs.declared.value.Value.TheVariants as value
use Rattle.dm_schema.specs.declared.column.Column.{Column}
use Rattle.dm_schema.specs.declared.column.UniqueKey.{UniqueKey}
use Rattle.dm_schema.specs.declared.column.DefaultRule.{DefaultRule}
use Rattle.dm_schema.specs.declared.column.DefaultRule.TheVariants as default
use Rattle.dm_schema.specs.declared.change.Change.{Change}
use Rattle.dm_schema.specs.declared.change.Change.TheVariants as change
use Rattle.dm_schema.specs.declared.change.Spot.{Spot}
use Rattle.dm_schema.specs.declared.change.Spot.TheVariants as spot
use Rattle.dm_schema.specs.Layout.{Layout}
use Rattle.dm_schema.specs.Names.{Text, same_name, column_at}
use Rattle.dm_schema.specs.Kinds.{is_column, is_key, is_rule, is_folded, is_kind, is_between}
use Rattle.dm_schema.specs.Schemas.{is_formed}
use Rattle.dm_schema.specs.Effect.{Reading, is_change, without_column, put_after, placed, replaced, modified, is_among, rule_by, rule_of, with_rule, with_default, modified_column, numbered, named_key, free_name, first_column, is_taken, changed}

abbrev Columns : List Column → Type 0
Columns columns = list_all is_column columns ≡ true

abbrev Keys : List UniqueKey → Type 0
Keys keys = list_all is_key keys ≡ true

one_more : {A : Type 0} (test : A → Bool) (x : A) (xs : List A) → test x ≡ true → list_all test xs ≡ true → list_all test (x ∷ xs) ≡ true
one_more test x xs p q = and_from (test x) (list_all test xs) p q

joined : {A : Type 0} (test : A → Bool) (xs ys : List A) → list_all test xs ≡ true → list_all test ys ≡ true → list_all test (xs ++ ys) ≡ true
joined test xs ys p q = list_all-append test xs ys ∙ and_from (list_all test xs) (list_all test ys) p q

filtered : {A : Type 0} (test keep : A → Bool) (xs : List A) → list_all test xs ≡ true → list_all test (filter keep xs) ≡ true
filtered test keep [] all = refl
filtered {A = A} test keep (x ∷ xs) all = by (keep x) (and_parts (test x) (list_all test xs) all) (filtered test keep xs) where
  by : (b : Bool) → (test x ≡ true) × (list_all test xs ≡ true) → (list_all test xs ≡ true → list_all test (filter keep xs) ≡ true) → list_all test (cond b (x ∷ filter keep xs) (filter keep xs)) ≡ true
  by true h rest = one_more test x (filter keep xs) h.0 (rest h.1)
  by false h rest = rest h.1

-- what is found passes
found_passes : {A : Type 0} (test here : A → Bool) (xs : List A) (x : A) → list_all test xs ≡ true → find here xs ≡ Some x → test x ≡ true
found_passes test here [] x all e = absurd cc
found_passes {A = A} test here (y ∷ ys) x all e = by (here y) e (and_parts (test y) (list_all test ys) all) (found_passes test here ys x) where
  by : (b : Bool) → cond b (Some y) (find here ys) ≡ Some x → (test y ≡ true) × (list_all test ys ≡ true) → (list_all test ys ≡ true → find here ys ≡ Some x → test x ≡ true) → test x ≡ true
  by true h parts rest = let same : y ≡ x = cc in rw (← same) parts.0
  by false h parts rest = rest parts.1 h

replaced_formed : (column : Column) (columns : List Column) → is_column column ≡ true → Columns columns → Columns (replaced column columns)
replaced_formed column [] p all = refl
replaced_formed column (c ∷ cs) p all = by (same_name c.name column.name) (and_parts (is_column c) (list_all is_column cs) all) (replaced_formed column cs p) where
  by : (b : Bool) → (is_column c ≡ true) × Columns cs → (Columns cs → Columns (replaced column cs)) → Columns (cond b column c ∷ replaced column cs)
  by true h rest = one_more is_column column (replaced column cs) p (rest h.1)
  by false h rest = one_more is_column c (replaced column cs) h.0 (rest h.1)

put_formed : (name : Text) (column : Column) (columns : List Column) → is_column column ≡ true → Columns columns → Columns (put_after name column columns)
put_formed name column [] p all = refl
put_formed name column (c ∷ cs) p all = by (same_name c.name name) (and_parts (is_column c) (list_all is_column cs) all) (put_formed name column cs p) where
  by : (b : Bool) → (is_column c ≡ true) × Columns cs → (Columns cs → Columns (put_after name column cs)) → Columns (cond b (c ∷ column ∷ []) (c ∷ []) ++ put_after name column cs)
  by true h rest = one_more is_column c (column ∷ put_after name column cs) h.0 (one_more is_column column (put_after name column cs) p (rest h.1))
  by false h rest = one_more is_column c (put_after name column cs) h.0 (rest h.1)

placed_formed : (spot : Spot) (column : Column) (columns : List Column) → is_column column ≡ true → Columns columns → Columns (placed spot column columns)
placed_formed spot.Keep column columns p all = joined is_column columns (column ∷ []) all (one_more is_column column [] p refl)
placed_formed spot.Last column columns p all = joined is_column columns (column ∷ []) all (one_more is_column column [] p refl)
placed_formed spot.First column columns p all = one_more is_column column columns p all
placed_formed (spot.After name) column columns p all = put_formed name column columns p all

modified_formed : (spot : Spot) (column : Column) (columns : List Column) → is_column column ≡ true → Columns columns → Columns (modified spot column columns)
modified_formed spot.Keep column columns p all = replaced_formed column columns p all
modified_formed spot.Last column columns p all =
    joined is_column (without_column columns column.name) (column ∷ []) (filtered is_column _ columns all) (one_more is_column column [] p refl)
modified_formed spot.First column columns p all = one_more is_column column (without_column columns column.name) p (filtered is_column _ columns all)
modified_formed (spot.After name) column columns p all = by (same_name name column.name) where
  by : (b : Bool) → Columns (cond b (replaced column columns) (put_after name column (without_column columns column.name)))
  by true = replaced_formed column columns p all
  by false = put_formed name column (without_column columns column.name) p (filtered is_column _ columns all)

-- NOT NULL changes nothing of it
modified_column_formed : (layout : Layout) (column : Column) → is_column column ≡ true → is_column (modified_column layout column) ≡ true
modified_column_formed layout column p = by (is_among layout.primary column.name) where
  by : (b : Bool) → is_column (cond b (record { name = column.name; kind = column.kind; nullable = false; default_rule = column.default_rule }) column) ≡ true
  by true = p
  by false = p

-- a rule that is there isn't NULL
rule_formed : (nullable : Bool) (o : Option Value) (rule : DefaultRule) → rule_by nullable o ≡ Some rule → is_rule rule ≡ true
rule_formed nullable None rule e = absurd cc
rule_formed true (Some value.Null) rule e = let same : default.Nothing ≡ rule = cc in rw (← same) refl
rule_formed false (Some value.Null) rule e = absurd cc
rule_formed nullable (Some (value.Int n)) rule e = let same : default.Const (value.Int n) ≡ rule = cc in rw (← same) refl
rule_formed nullable (Some (value.Bytes bytes)) rule e = let same : default.Const (value.Bytes bytes) ≡ rule = cc in rw (← same) refl
rule_formed nullable (Some (value.Dec d)) rule e = let same : default.Const (value.Dec d) ≡ rule = cc in rw (← same) refl
rule_formed nullable (Some (value.Date d)) rule e = let same : default.Const (value.Date d) ≡ rule = cc in rw (← same) refl
rule_formed nullable (Some (value.Moment m)) rule e = let same : default.Const (value.Moment m) ≡ rule = cc in rw (← same) refl
rule_formed nullable (Some (value.Stamp s)) rule e = let same : default.Const (value.Stamp s) ≡ rule = cc in rw (← same) refl

read_rule_formed : (read : Reading) (column : Column) (text : List ℕ) (rule : DefaultRule) → rule_of read column text ≡ Some rule → is_rule rule ≡ true
read_rule_formed read column text rule e = by (length text == 0) e where
  by : (b : Bool) → cond b (Some default.Nothing) (rule_by column.nullable (read column.kind text)) ≡ Some rule → is_rule rule ≡ true
  by true h = let same : default.Nothing ≡ rule = cc in rw (← same) refl
  by false h = rule_formed column.nullable (read column.kind text) rule h

pub column_passes : (columns : List Column) (name : Text) (column : Column) → list_all is_column columns ≡ true → column_at columns name ≡ Some column → is_column column ≡ true
column_passes columns name column all e = found_passes is_column (λ c. same_name c.name name) columns column all e

with_rule_formed : (column : Column) (rule : DefaultRule) → is_column column ≡ true → is_rule rule ≡ true → is_column (with_rule column rule) ≡ true
with_rule_formed column rule p q =
    let parts = and_parts (is_folded column.name && is_kind column.kind) (is_rule column.default_rule) p in
    and_from (is_folded column.name && is_kind column.kind) (is_rule rule) parts.0 q

-- a column with the default that a text gives it
default_formed : (read : Reading) (columns : List Column) (name : Text) (text : List ℕ) (column : Column) → Columns columns → with_default read columns name text ≡ Some column → is_column column ≡ true
default_formed read columns name text column all e = by (column_at columns name) refl e where
  ruled : (c : Column) (o : Option DefaultRule) → is_column c ≡ true → rule_of read c text ≡ o → option_map (with_rule c) o ≡ Some column → is_column column ≡ true
  ruled c None p r h = absurd cc
  ruled c (Some rule) p r h = let same : with_rule c rule ≡ column = cc in rw (← same) (with_rule_formed c rule p (read_rule_formed read c text rule r))

  by : (o : Option Column) → column_at columns name ≡ o → option_and_then (λ c. option_map (with_rule c) (rule_of read c text)) o ≡ Some column → is_column column ≡ true
  by None at h = absurd cc
  by (Some c) at h = ruled c (rule_of read c text) (column_passes columns name c all at) refl h

set_default_formed : (layout : Layout) (o : Option Column) → Columns layout.columns → ((column : Column) → o ≡ Some column → is_column column ≡ true)
    → Columns (option_map_or (λ c. record { columns = replaced c layout.columns; primary = layout.primary; uniques = layout.uniques }) o layout).columns
set_default_formed layout None all each = all
set_default_formed layout (Some c) all each = replaced_formed c layout.columns (each c refl) all

pub columns_formed : (read : Reading) (layout : Layout) (c : Change) → Columns layout.columns → is_change c ≡ true → Columns (changed read layout c).columns
columns_formed read layout (change.Add column spot) all p = placed_formed spot column layout.columns p all
columns_formed read layout (change.Drop name) all p = filtered is_column _ layout.columns all
columns_formed read layout (change.Modify column spot null_written) all p =
    modified_formed spot (modified_column layout column) layout.columns (modified_column_formed layout column p) all
columns_formed read layout (change.SetDefault name text) all p =
    set_default_formed layout (with_default read layout.columns name text) all (λ column e. default_formed read layout.columns name text column all e)
columns_formed read layout (change.AddUnique key named) all p = all
columns_formed read layout (change.DropKey name) all p = all
columns_formed read layout (change.RenameKey name) all p = all
columns_formed read layout (change.Refused cause) all p = all
columns_formed read layout change.NoEffect all p = all

-- Names of keys.

digit_folded : (k : ℕ) → k < 10 → is_between 65 90 (48 + k) ≡ false
digit_folded k lt = grind (arith, nat_tests)

not_false : (b : Bool) → not b ≡ true → b ≡ false
not_false true e = absurd cc
not_false false e = refl

longer_folded : (name tail : List ℕ) → is_folded name ≡ true → list_any (is_between 65 90) tail ≡ false → is_folded (name ++ tail) ≡ true
longer_folded name tail p q =
    let front : list_any (is_between 65 90) name ≡ false = not_false _ p in
    rw (list_any-append (is_between 65 90) name tail, front, q) refl

numbered_folded : (name : List ℕ) (number : ℕ) → is_folded name ≡ true → number < 100 → is_folded (numbered name number) ≡ true
numbered_folded name number p small = by (number == 1) (nat_lt number 10) refl where
  by : (first short : Bool) → nat_lt number 10 ≡ short
      → is_folded (cond first name (cond short (name ++ 95 ∷ (48 + number) ∷ []) (name ++ 95 ∷ (48 + number / 10) ∷ (48 + number % 10) ∷ []))) ≡ true
  by true short e = p
  by false true e =
      let low : is_between 65 90 (48 + number) ≡ false = digit_folded number (ltb-true _ _ e) in
      longer_folded name (95 ∷ (48 + number) ∷ []) p (rw low refl)
  by false false e =
      let ten = ltb-false _ _ e in
      let high : is_between 65 90 (48 + number / 10) ≡ false = digit_folded (number / 10) (omega arith) in
      let low : is_between 65 90 (48 + number % 10) ≡ false = digit_folded (number % 10) (omega arith) in
      longer_folded name (95 ∷ (48 + number / 10) ∷ (48 + number % 10) ∷ []) p (rw (high, low) refl)

all_numbered : (name : List ℕ) (from count : ℕ) → is_folded name ≡ true → from + count ≤ 100 → list_all is_folded (map (numbered name) (range_with_len from count)) ≡ true
all_numbered name from zero p small = refl
all_numbered name from (suc count) p small =
    one_more is_folded (numbered name from) (map (numbered name) (range_with_len (from + 1) count)) (numbered_folded name from p (omega arith)) (all_numbered name (from + 1) count p (omega arith))

free_folded : (keys : List UniqueKey) (name : List ℕ) → is_folded name ≡ true → is_folded (free_name keys name) ≡ true
free_folded keys name p = by (find (λ n. not (is_taken keys n)) (map (numbered name) (range_with_len 1 18))) refl where
  by : (o : Option (List ℕ)) → find (λ n. not (is_taken keys n)) (map (numbered name) (range_with_len 1 18)) ≡ o → is_folded (unwrap_or o name) ≡ true
  by None e = p
  by (Some n) e = found_passes is_folded (λ n. not (is_taken keys n)) (map (numbered name) (range_with_len 1 18)) n (all_numbered name 1 18 p (lit≤ tt)) e

first_folded : (key : UniqueKey) → list_all is_folded key.columns ≡ true → is_folded (first_column key) ≡ true
first_folded key all = by key.columns all where
  name_of : List Text → Text
  name_of [] = []
  name_of (n ∷ ns) = n

  by : (names : List Text) → list_all is_folded names ≡ true → is_folded (name_of names) ≡ true
  by [] h = refl
  by (n ∷ ns) h = (and_parts (is_folded n) (list_all is_folded ns) h).0

pub key_formed : (keys : List UniqueKey) (key : UniqueKey) (named : Bool) → (is_key key && list_all is_folded key.columns) ≡ true → is_key (named_key keys key named) ≡ true
key_formed keys key true p = (and_parts (is_key key) (list_all is_folded key.columns) p).0
key_formed keys key false p =
    let parts = and_parts (is_key key) (list_all is_folded key.columns) p in
    let has_columns = (and_parts (is_folded key.name) (not (length key.columns == 0)) parts.0).1 in
    and_from (is_folded (free_name keys (first_column key))) (not (length key.columns == 0)) (free_folded keys (first_column key) (first_folded key parts.1)) has_columns

pub keys_formed : (read : Reading) (layout : Layout) (c : Change) → Keys layout.uniques → is_change c ≡ true → Keys (changed read layout c).uniques
keys_formed read layout (change.Add column spot) all p = all
keys_formed read layout (change.Drop name) all p = all
keys_formed read layout (change.Modify column spot null_written) all p = all
keys_formed read layout (change.SetDefault name text) all p = by (with_default read layout.columns name text) where
  by : (o : Option Column) → Keys (option_map_or (λ c. record { columns = replaced c layout.columns; primary = layout.primary; uniques = layout.uniques }) o layout).uniques
  by None = all
  by (Some c) = all
keys_formed read layout (change.AddUnique key named) all p =
    joined is_key layout.uniques (named_key layout.uniques key named ∷ []) all (one_more is_key (named_key layout.uniques key named) [] (key_formed layout.uniques key named p) refl)
keys_formed read layout (change.DropKey name) all p = filtered is_key _ layout.uniques all
keys_formed read layout (change.RenameKey name) all p = all
keys_formed read layout (change.Refused cause) all p = all
keys_formed read layout change.NoEffect all p = all

-- A formed schema.

pub formed_columns : (layout : Layout) → is_formed layout ≡ true → Columns layout.columns
formed_columns layout h =
    let few = and_parts (list_all is_column layout.columns && list_all is_key layout.uniques && nat_le (length layout.uniques) 16) _ h in
    let keys = and_parts (list_all is_column layout.columns && list_all is_key layout.uniques) _ few.0 in
    (and_parts (list_all is_column layout.columns) (list_all is_key layout.uniques) keys.0).0

pub formed_keys : (layout : Layout) → is_formed layout ≡ true → Keys layout.uniques
formed_keys layout h =
    let few = and_parts (list_all is_column layout.columns && list_all is_key layout.uniques && nat_le (length layout.uniques) 16) _ h in
    let keys = and_parts (list_all is_column layout.columns && list_all is_key layout.uniques) _ few.0 in
    (and_parts (list_all is_column layout.columns) (list_all is_key layout.uniques) keys.0).1
