-- What a journal's bytes say: the content that the calls of its records lead to.
use Rattle.std.specs.Prelude.{◌≡◌, ◌⊎◌, ℕ, List, [], ◌∷◌, ◌++◌, map, length, Option, Some, None, option_and_then, Result, Ok, Err}
use Rattle.std.specs.FinMap as fin
use Rattle.dm_value.specs.declared.value.Value.{Value}
use Rattle.dm_schema.specs.declared.change.Change.{Change}
use Rattle.dm_schema.specs.declared.column.Kind.{Kind}
use Rattle.dm_schema.specs.declared.fault.EffectFault.{EffectFault}
use Rattle.dm_schema.specs.Effect.{joined_effect}
use Rattle.dm_schema.specs.Layout.{Layout}
use Rattle.dm_schema.specs.Schemas.{in_order}
use Rattle.dm_target.specs.Contents.{Content, effect, no_content, table_of}
use Rattle.dm_target.specs.declared.call.Call.{Call}
use Rattle.dm_target.specs.declared.call.Call.TheVariants as call
use Rattle.dm_stmt.specs.Known.{KnownMap}
use Rattle.dm_stmt.specs.declared.record.Record.{Record}
use Rattle.dm_stmt.specs.declared.record.Record.TheVariants as record_of
use Rattle.dm_stmt_read.specs.Reading.{IsTextOf}
use Rattle.dm_journal.specs.Framing.{HasRoom, IsTorn, framed}

-- the schemas of a content's tables, by which texts are read
abbrev pub known_of : Content → KnownMap
known_of content = fin.from_entries (map (λ e. (e.0, e.1.layout)) (fin.entries content.tables))

-- no change of a record has a default as a text
abbrev pub no_default : Kind → List ℕ → Option Value
no_default kind text = None

-- the schema after changes, where they have an effect
abbrev pub changed_by : List Change → Layout → Option Layout
changed_by changes layout = by (joined_effect no_default layout changes) where
  by : Result Layout EffectFault → Option Layout
  by (Ok after) = Some after
  by (Err fault) = None

-- The call that a record stands for. Of an alteration that is one to the schema that its changes make of the table's. Columns and
-- keys are told in byte order of their names, as a target keeps them.
abbrev pub call_of : Content → Record → Option Call
call_of content (record_of.Create table layout) = Some (call.Create table (in_order layout))
call_of content (record_of.Alter table changes) =
    option_and_then (λ layout. Some (call.Alter table (in_order layout))) (option_and_then (λ there. changed_by changes there.layout) (table_of content table))
call_of content (record_of.Apply table ops) = Some (call.Apply table ops)
call_of content (record_of.Metas pairs) = Some (call.Metas pairs)

-- What a text does: it is a record's, over the content's schemas, and the record's call has an effect.
pub record Does (content : Content) (text : List ℕ) (done : Call) (after : Content) : Type 0 where
  pub said : Record
  pub reads : IsTextOf (known_of content) text said
  pub calls : call_of content said ≡ Some done
  pub leaves : effect done content ≡ Ok after

-- What whole records do, one after another.
pub data Leads : Content → List ℕ → List Call → Content → Type 0 where
  Nowhere : (content : Content) → Leads content [] [] content
  Further : (content middle after : Content) (text rest : List ℕ) (done : Call) (calls : List Call)
      → HasRoom text → Does content text done middle → Leads middle rest calls after → Leads content (framed text ++ rest) (done ∷ calls) after

-- nothing, or what a write that broke off leaves
abbrev pub IsRest : List ℕ → Type 0
IsRest bytes = (bytes ≡ []) ⊎ IsTorn bytes

-- The bytes are whole records, so many bytes of them, which lead to the content; and perhaps a torn rest.
pub record Holds (bytes : List ℕ) (content : Content) (calls : List Call) (size : ℕ) : Type 0 where
  pub whole : List ℕ
  pub rest : List ℕ
  pub parts : bytes ≡ whole ++ rest
  pub sized : length whole ≡ size
  pub leads : Leads no_content whole calls content
  pub torn : IsRest rest

-- At this place stands something that is neither whole nor torn, or a whole record that does nothing. What is before it are
-- whole records.
pub record IsBadAt (bytes : List ℕ) (at : ℕ) : Type 0 where
  pub whole : List ℕ
  pub rest : List ℕ
  pub parts : bytes ≡ whole ++ rest
  pub sized : length whole ≡ at
  pub content : Content
  pub calls : List Call
  pub leads : Leads no_content whole calls content
  pub not_rest : IsRest rest → ⊥
  pub does_nothing : (text behind : List ℕ) (done : Call) (after : Content) → rest ≡ framed text ++ behind → HasRoom text → Does content text done after → ⊥
