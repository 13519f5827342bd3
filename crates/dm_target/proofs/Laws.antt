-- What follows for the effects of calls: which tables and texts a call leaves as they were, and that effects of calls go on from
-- those of earlier ones.
use Rattle.std.proofs.Common.{◌≡◌, Bool, true, false, cond, ◌||◌, List, [], ◌∷◌, ◌++◌, Some, Result, Ok, Err, refl, ap, ◌∙◌}
use Rattle.std.specs.Prelude.{IfOk}
use Rattle.std.specs.Ordering.{eq_by_cmp}
use Rattle.std.specs.List.{list_any}
use Rattle.std.specs.FinMap as fin
use Rattle.std.specs.FinMap.{get-insert}
use Rattle.dm_schema.specs.declared.table_name.TableName.{TableName}
use Rattle.dm_schema.specs.Names.{Text, name_cmp}
use Rattle.dm_table.specs.declared.fault.TableFault.{TableFault}
use Rattle.dm_table.specs.Contents.{TableContent}
use Rattle.dm_table.specs.Operations.{table_applied}
use Rattle.dm_table.specs.Alterations.{altered}
use Rattle.dm_target.specs.declared.call.Meta.{Meta}
use Rattle.dm_target.specs.declared.call.Call.{Call}
use Rattle.dm_target.specs.declared.call.Call.TheVariants as call
use Rattle.dm_target.specs.Contents.{Content, table_name_cmp, table_of, meta_of, with_table, with_metas, created, if_there, effect, effects, and_then}
use Rattle.dm_target.specs.Maps.{TextMap}
use Rattle.dm_target.specs.Reach.{touches, sets}
use Rattle.dm_target.proofs.Orders.{name_total, table_name_total}

pub effects-append : (first rest : List Call) (content : Content) → effects (first ++ rest) content ≡ and_then (effects first content) (effects rest)
effects-append [] rest content = refl
effects-append (x ∷ xs) rest content = by (effect x content) (effects-append xs rest) where
  by : (r : Result Content TableFault) → ((c : Content) → effects (xs ++ rest) c ≡ and_then (effects xs c) (effects rest)) → and_then r (effects (xs ++ rest)) ≡ and_then (and_then r (effects xs)) (effects rest)
  by (Err f) h = refl
  by (Ok c) h = h c

-- Tables.

other_table : (content : Content) (own other : TableName) (changed : Result TableContent TableFault) → eq_by_cmp table_name_cmp other own ≡ false →
    IfOk (with_table content own changed) (λ left. table_of left other ≡ table_of content other)
other_table content own other (Err f) h = tt
other_table content own other (Ok table) h = get-insert table_name_total content.tables own table other ∙ ap (λ b. cond b (Some table) (table_of content other)) h

-- a call leaves every table but its own
pub untouched : (c : Call) (table : TableName) (content : Content) → touches c table ≡ false → IfOk (effect c content) (λ left. table_of left table ≡ table_of content table)
untouched (call.Create own layout) table content h = other_table content own table (created (table_of content own) layout) h
untouched (call.Alter own layout) table content h = other_table content own table (if_there (table_of content own) (λ t. altered t layout)) h
untouched (call.Apply own ops) table content h = other_table content own table (if_there (table_of content own) (λ t. table_applied t ops)) h
untouched (call.Metas pairs) table content h = refl

-- Texts.

same_texts : (content : Content) (own : TableName) (changed : Result TableContent TableFault) → IfOk (with_table content own changed) (λ left. left.metas ≡ content.metas)
same_texts content own (Err f) = tt
same_texts content own (Ok table) = refl

-- a call of a table keeps the texts
pub keeps_texts : (c : Call) (table : TableName) (content : Content) → touches c table ≡ true → IfOk (effect c content) (λ left. left.metas ≡ content.metas)
keeps_texts (call.Create own layout) table content h = same_texts content own (created (table_of content own) layout)
keeps_texts (call.Alter own layout) table content h = same_texts content own (if_there (table_of content own) (λ t. altered t layout))
keeps_texts (call.Apply own ops) table content h = same_texts content own (if_there (table_of content own) (λ t. table_applied t ops))
keeps_texts (call.Metas pairs) table content h = absurd (cc)

first_not : (a b : Bool) → a || b ≡ false → a ≡ false
first_not true b h = h
first_not false b h = refl

second_not : (a b : Bool) → a || b ≡ false → b ≡ false
second_not true b h = absurd (cc)
second_not false b h = h

other_text : (pairs : List Meta) (texts : TextMap) (name : Text) → list_any (λ pair. eq_by_cmp name_cmp name pair.name) pairs ≡ false → fin.get (with_metas pairs texts) name ≡ fin.get texts name
other_text [] texts name h = refl
other_text (p ∷ ps) texts name h =
    other_text ps (fin.insert texts p.name p.text) name (second_not (eq_by_cmp name_cmp name p.name) _ h)
    ∙ get-insert name_total texts p.name p.text name ∙ ap (λ b. cond b (Some p.text) (fin.get texts name)) (first_not (eq_by_cmp name_cmp name p.name) _ h)

texts_stay : (content : Content) (own : TableName) (changed : Result TableContent TableFault) (name : Text) → IfOk (with_table content own changed) (λ left. meta_of left name ≡ meta_of content name)
texts_stay content own (Err f) name = tt
texts_stay content own (Ok table) name = refl

-- a call leaves every text that it doesn't set
pub unset : (c : Call) (name : Text) (content : Content) → sets c name ≡ false → IfOk (effect c content) (λ left. meta_of left name ≡ meta_of content name)
unset (call.Create own layout) name content h = texts_stay content own (created (table_of content own) layout) name
unset (call.Alter own layout) name content h = texts_stay content own (if_there (table_of content own) (λ t. altered t layout)) name
unset (call.Apply own ops) name content h = texts_stay content own (if_there (table_of content own) (λ t. table_applied t ops)) name
unset (call.Metas pairs) name content h = other_text pairs content.metas name h
