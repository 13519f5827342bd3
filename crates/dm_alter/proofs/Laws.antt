-- Laws of the effect of an ALTER: what it keeps of the schema, and what a column that it leaves may be.
use Rattle.std.proofs.Common.{◌≡◌, true, ◌&&◌, List, [], ◌∷◌, ◌++◌, length, Option, Some, None, Ok, nat_le, is_some, refl, ap, ◌∙◌, subst}
use Rattle.std.specs.Option.{option_map_or}
use Rattle.std.specs.List.{list_all}
use Rattle.std.proofs.lemmas.Bool.{and_from}
use Rattle.dm_schema.specs.declared.column.Column.{Column}
use Rattle.dm_schema.specs.declared.change.Change.{Change}
use Rattle.dm_schema.specs.declared.change.Change.TheVariants as change
use Rattle.dm_schema.specs.Layout.{Layout}
use Rattle.dm_schema.specs.Names.{Text, column_at}
use Rattle.dm_schema.specs.Fill.{fill}
use Rattle.dm_schema.specs.KindOrder.{comparable}
use Rattle.dm_schema.specs.Kinds.{is_column, is_key}
use Rattle.dm_schema.specs.Schemas.{is_formed, schema_of, joined_schema_of}
use Rattle.dm_schema.specs.Effect.{Making, Reading, is_change, with_default, with_columns, replaced, changed, was_dropped, step, steps, ddl_effect, joined_effect}
use Rattle.dm_alter.proofs.Formed.{columns_formed, keys_formed, formed_columns, formed_keys}
use Rattle.dm_alter.proofs.AddedColumns.{AreFilled, filled_at_first, taken_filled}
use Rattle.dm_alter.proofs.KeptColumns.{KeepsKind, AreComparable, comparable_at_first, taken_comparable}
use Rattle.dm_alter.proofs.Inductions.{IsCareful, IsTaken, IsUnrefused, read_is_careful, joined_is_careful, step_taken, steps_keep, all_steps_keep}

-- The primary key stays what it is.

changed_primary : (read : Reading) (layout : Layout) (c : Change) → (changed read layout c).primary ≡ layout.primary
changed_primary read layout (change.Add column spot) = refl
changed_primary read layout (change.Drop name) = refl
changed_primary read layout (change.Modify column spot null_written) = refl
changed_primary read layout (change.SetDefault name text) = by (with_default read layout.columns name text) where
  by : (o : Option Column) → (option_map_or (λ c. with_columns layout (replaced c layout.columns)) o layout).primary ≡ layout.primary
  by None = refl
  by (Some c) = refl
changed_primary read layout (change.AddUnique key named) = refl
changed_primary read layout (change.DropKey name) = refl
changed_primary read layout (change.RenameKey name) = refl
changed_primary read layout (change.Refused cause) = refl
changed_primary read layout change.NoEffect = refl

taken_primary : (read : Reading) (before : List Change) (layout : Layout) (c : Change) (after : Layout) → IsTaken read before layout c after → after.primary ≡ layout.primary
taken_primary read before layout c after taken = ap (λ l. l.primary) taken.leaves ∙ changed_primary read layout c

pub step_same_primary : (make : Making) → IsCareful make → (read : Reading) (before : List Change) (layout : Layout) (c : Change) (after : Layout)
    → step make read before layout c ≡ Ok after → after.primary ≡ layout.primary
step_same_primary make careful read before layout c after answer = taken_primary read before layout c after (step_taken make careful read before layout c after answer)

pub steps_same_primary : (make : Making) → IsCareful make → (read : Reading) (before : List Change) (layout : Layout) (changes : List Change) (after : Layout)
    → steps make read before (Ok layout) changes ≡ Ok after → after.primary ≡ layout.primary
steps_same_primary make careful read before layout changes after answer =
    all_steps_keep make careful read (λ front present. present.primary ≡ layout.primary)
    (λ front present c next taken here. taken_primary read front present c next taken ∙ here) before layout changes after refl answer

-- A schema stays well formed: names are apart, keys name columns, and no column of the primary key is nullable.

formed_from : (layout : Layout) → list_all is_column layout.columns ≡ true → list_all is_key layout.uniques ≡ true → IsUnrefused layout → is_formed layout ≡ true
formed_from layout columns keys rest =
    and_from (list_all is_column layout.columns && list_all is_key layout.uniques && nat_le (length layout.uniques) 16) _
    (and_from (list_all is_column layout.columns && list_all is_key layout.uniques) _ (and_from (list_all is_column layout.columns) _ columns keys) rest.0) rest.1

taken_formed : (read : Reading) (before : List Change) (layout : Layout) (c : Change) (after : Layout) → is_change c ≡ true → IsTaken read before layout c after
    → is_formed layout ≡ true → is_formed after ≡ true
taken_formed read before layout c after p taken formed =
    ap is_formed taken.leaves
    ∙ formed_from (changed read layout c) (columns_formed read layout c (formed_columns layout formed) p) (keys_formed read layout c (formed_keys layout formed) p) taken.is_unrefused

pub step_formed : (make : Making) → IsCareful make → (read : Reading) (before : List Change) (layout : Layout) (c : Change) (after : Layout)
    → is_change c ≡ true → is_formed layout ≡ true → step make read before layout c ≡ Ok after → is_formed after ≡ true
step_formed make careful read before layout c after p formed answer =
    taken_formed read before layout c after p (step_taken make careful read before layout c after answer) formed

pub steps_formed : (make : Making) → IsCareful make → (read : Reading) (before : List Change) (layout : Layout) (changes : List Change) (after : Layout)
    → list_all is_change changes ≡ true → is_formed layout ≡ true → steps make read before (Ok layout) changes ≡ Ok after → is_formed after ≡ true
steps_formed make careful read before layout changes after all formed answer =
    steps_keep make careful read is_change (λ front present. is_formed present ≡ true)
    (λ front present c next p taken here. taken_formed read front present c next p taken here) before layout changes after all formed answer

-- A column that the first schema lacks has a fill. It was added by the changes so far; so each of them that writes it asks
-- for one.

-- what is kept for it: the primary key too, whose columns the first schema has
abbrev IsFilledFrom : Layout → List Change → Layout → Type 0
IsFilledFrom first before present = (present.primary ≡ first.primary) × AreFilled first before present.columns

pub step_filled : (make : Making) → IsCareful make → (read : Reading) (first : Layout) (before : List Change) (layout : Layout) (c : Change) (after : Layout)
    → is_formed first ≡ true → layout.primary ≡ first.primary → AreFilled first before layout.columns
    → step make read before layout c ≡ Ok after → AreFilled first (before ++ c ∷ []) after.columns
step_filled make careful read first before layout c after formed primary filled answer =
    taken_filled read first layout before c after formed primary (step_taken make careful read before layout c after answer) filled

pub steps_filled : (make : Making) → IsCareful make → (read : Reading) (first : Layout) (before : List Change) (layout : Layout) (changes : List Change) (after : Layout)
    → is_formed first ≡ true → layout.primary ≡ first.primary → AreFilled first before layout.columns
    → steps make read before (Ok layout) changes ≡ Ok after → AreFilled first (before ++ changes) after.columns
steps_filled make careful read first before layout changes after formed primary filled answer =
    (all_steps_keep make careful read (IsFilledFrom first)
    (λ front present c next taken here. (taken_primary read front present c next taken ∙ here.0, taken_filled read first present front c next formed here.0 taken here.1))
    before layout changes after (primary, filled) answer).1

-- A column of the first schema that is still there has a kind that is comparable with the one it had. One that isn't there
-- was dropped, and a name that was dropped isn't added again.

pub step_comparable : (make : Making) → IsCareful make → (read : Reading) (first : Layout) (before : List Change) (layout : Layout) (c : Change) (after : Layout)
    → AreComparable first before layout.columns → step make read before layout c ≡ Ok after → AreComparable first (before ++ c ∷ []) after.columns
step_comparable make careful read first before layout c after kept answer =
    taken_comparable read first layout before c after (step_taken make careful read before layout c after answer) kept

pub steps_comparable : (make : Making) → IsCareful make → (read : Reading) (first : Layout) (before : List Change) (layout : Layout) (changes : List Change) (after : Layout)
    → AreComparable first before layout.columns → steps make read before (Ok layout) changes ≡ Ok after → AreComparable first (before ++ changes) after.columns
steps_comparable make careful read first before layout changes after kept answer =
    all_steps_keep make careful read (λ front present. AreComparable first front present.columns)
    (λ front present c next taken here. taken_comparable read first present front c next taken here) before layout changes after kept answer

-- The laws of whole statements.

pub formed : (read : Reading) (layout : Layout) (changes : List Change) (after : Layout) → is_formed layout ≡ true → list_all is_change changes ≡ true
    → ddl_effect read layout changes ≡ Ok after → is_formed after ≡ true
unfolding ddl_effect
formed read layout changes after here all answer = steps_formed schema_of read_is_careful read [] layout changes after all here answer

pub joined_formed : (read : Reading) (layout : Layout) (changes : List Change) (after : Layout) → is_formed layout ≡ true → list_all is_change changes ≡ true
    → joined_effect read layout changes ≡ Ok after → is_formed after ≡ true
unfolding joined_effect
joined_formed read layout changes after here all answer = steps_formed joined_schema_of joined_is_careful read [] layout changes after all here answer

pub same_primary : (read : Reading) (layout : Layout) (changes : List Change) (after : Layout) → ddl_effect read layout changes ≡ Ok after → after.primary ≡ layout.primary
unfolding ddl_effect
same_primary read layout changes after answer = steps_same_primary schema_of read_is_careful read [] layout changes after answer

pub joined_same_primary : (read : Reading) (layout : Layout) (changes : List Change) (after : Layout) → joined_effect read layout changes ≡ Ok after → after.primary ≡ layout.primary
unfolding joined_effect
joined_same_primary read layout changes after answer = steps_same_primary joined_schema_of joined_is_careful read [] layout changes after answer

fill_from : (make : Making) → IsCareful make → (read : Reading) (layout : Layout) (changes : List Change) (after : Layout) (name : Text) (column : Column)
    → is_formed layout ≡ true → steps make read [] (Ok layout) changes ≡ Ok after → column_at layout.columns name ≡ None → column_at after.columns name ≡ Some column
    → is_some (fill column) ≡ true
fill_from make careful read layout changes after name column formed answer lacks at =
    (steps_filled make careful read layout [] layout changes after formed refl (filled_at_first layout) answer name column lacks at).0

pub has_fill : (read : Reading) (layout : Layout) (changes : List Change) (after : Layout) (name : Text) (column : Column) → is_formed layout ≡ true
    → ddl_effect read layout changes ≡ Ok after → column_at layout.columns name ≡ None → column_at after.columns name ≡ Some column → is_some (fill column) ≡ true
unfolding ddl_effect
has_fill read layout changes after name column formed answer lacks at =
    fill_from schema_of read_is_careful read layout changes after name column formed answer lacks at

pub joined_has_fill : (read : Reading) (layout : Layout) (changes : List Change) (after : Layout) (name : Text) (column : Column) → is_formed layout ≡ true
    → joined_effect read layout changes ≡ Ok after → column_at layout.columns name ≡ None → column_at after.columns name ≡ Some column → is_some (fill column) ≡ true
unfolding joined_effect
joined_has_fill read layout changes after name column formed answer lacks at =
    fill_from joined_schema_of joined_is_careful read layout changes after name column formed answer lacks at

comparable_from : (make : Making) → IsCareful make → (read : Reading) (layout : Layout) (changes : List Change) (after : Layout) (name : Text) (before column : Column)
    → steps make read [] (Ok layout) changes ≡ Ok after → column_at layout.columns name ≡ Some before → column_at after.columns name ≡ Some column
    → comparable before.kind column.kind ≡ true
comparable_from make careful read layout changes after name before column answer old at =
    subst (KeepsKind (was_dropped changes name) before.kind) at
    (steps_comparable make careful read layout [] layout changes after (comparable_at_first layout) answer name before old)

pub comparable_kinds : (read : Reading) (layout : Layout) (changes : List Change) (after : Layout) (name : Text) (before column : Column)
    → ddl_effect read layout changes ≡ Ok after → column_at layout.columns name ≡ Some before → column_at after.columns name ≡ Some column
    → comparable before.kind column.kind ≡ true
unfolding ddl_effect
comparable_kinds read layout changes after name before column answer old at =
    comparable_from schema_of read_is_careful read layout changes after name before column answer old at

pub joined_comparable_kinds : (read : Reading) (layout : Layout) (changes : List Change) (after : Layout) (name : Text) (before column : Column)
    → joined_effect read layout changes ≡ Ok after → column_at layout.columns name ≡ Some before → column_at after.columns name ≡ Some column
    → comparable before.kind column.kind ≡ true
unfolding joined_effect
joined_comparable_kinds read layout changes after name before column answer old at =
    comparable_from joined_schema_of joined_is_careful read layout changes after name before column answer old at

-- no changes leave the schema as it is
pub no_changes : (read : Reading) (layout : Layout) → ddl_effect read layout [] ≡ Ok layout
unfolding ddl_effect
no_changes read layout = refl

pub joined_no_changes : (read : Reading) (layout : Layout) → joined_effect read layout [] ≡ Ok layout
unfolding joined_effect
joined_no_changes read layout = refl
