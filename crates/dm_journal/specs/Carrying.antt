-- Records of a journal, carried out on a target that is kept in memory.
use Rattle.std.specs.Prelude.{◌≡◌, ⊤, ℕ, List, [], ◌∷◌, ◌++◌, length, Option, Some, None, Result, Ok, Err}
use Rattle.std.specs.Option.{option_map}
use Rattle.std.specs.FinMap as fin
use Rattle.dm_schema.specs.declared.table_name.TableName.{TableName}
use Rattle.dm_schema.specs.Layout.{Layout}
use Rattle.dm_target.specs.declared.call.Call.{Call}
use Rattle.dm_target.specs.declared.memory.MemoryTarget.{MemoryTarget}
use Rattle.dm_target.specs.declared.target.TargetError.{TargetError}
use Rattle.dm_target.specs.declared.target.TargetError.TheVariants as error
use Rattle.dm_target.specs.Contents.{Content, effect, table_of}
use Rattle.dm_target.specs.Memory.{calls_of, content_of}
use Rattle.dm_stmt.specs.Known.{KnownMap}
use Rattle.dm_stmt.specs.declared.record.Record.{Record}
use Rattle.dm_stmt.specs.declared.record.Record.TheVariants as record_of
use Rattle.dm_journal.specs.declared.fault.CarryFault.{CarryFault}
use Rattle.dm_journal.specs.declared.fault.CarryFault.TheVariants as fault
use Rattle.dm_journal.specs.Framing.{HasRoom, framed}
use Rattle.dm_journal.specs.Contents.{Does, IsRest, call_of}

-- what the answer of a target says of a record; one in memory never fails, and is never full
abbrev pub judged : Result (Unit {0}) TargetError → Result (Unit {0}) CarryFault
judged (Ok _) = Ok tt
judged (Err (error.Rejected _)) = Err fault.Bad
judged (Err error.Failed) = Err fault.Memory
judged (Err error.Full) = Err fault.Memory
judged (Err error.Memory) = Err fault.Memory

-- A record's call.

-- it takes its effect, and stands behind the calls before
pub record Performs (said : Record) (before after : MemoryTarget) : Type 0 where
  pub done : Call
  pub stands_for : call_of (content_of before) said ≡ Some done
  pub leaves : effect done (content_of before) ≡ Ok (content_of after)
  pub noted : calls_of after ≡ calls_of before ++ done ∷ []

-- the record stands for no call that has an effect
abbrev pub HasNoEffect : Record → Content → Type 0
HasNoEffect said content = (done : Call) (after : Content) → call_of content said ≡ Some done → effect done content ≡ Ok after → ⊥

abbrev pub MatchCall : Record → MemoryTarget → MemoryTarget → Result (Unit {0}) CarryFault → Type 0
MatchCall said before after (Ok _) = Performs said before after
MatchCall said before after (Err fault.Bad) = HasNoEffect said (content_of before)
MatchCall said before after (Err fault.Memory) = ⊤

-- The schemas that are known.

abbrev pub schema_of : Content → TableName → Option Layout
schema_of content table = option_map (λ there. there.layout) (table_of content table)

-- with that of a table, where there is one
abbrev pub with_schema : KnownMap → TableName → Option Layout → KnownMap
with_schema known table None = known
with_schema known table (Some layout) = fin.insert known table layout

-- the table that the record gives a schema
abbrev pub renewed : Record → Option TableName
renewed (record_of.Create table layout) = Some table
renewed (record_of.Alter table changes) = Some table
renewed (record_of.Apply table ops) = None
renewed (record_of.Metas pairs) = None

-- with that of a table that is given one
abbrev pub known_behind : Option TableName → Content → KnownMap → KnownMap
known_behind None content known = known
known_behind (Some table) content known = with_schema known table (schema_of content table)

-- A record's text.

pub record Carries (text : List ℕ) (before after : MemoryTarget) : Type 0 where
  pub done : Call
  pub does : Does (content_of before) text done (content_of after)
  pub noted : calls_of after ≡ calls_of before ++ done ∷ []

abbrev pub DoesNothing : List ℕ → Content → Type 0
DoesNothing text content = (done : Call) (after : Content) → Does content text done after → ⊥

abbrev pub MatchText : List ℕ → MemoryTarget → MemoryTarget → Result (Unit {0}) CarryFault → Type 0
MatchText text before after (Ok _) = Carries text before after
MatchText text before after (Err fault.Bad) = DoesNothing text (content_of before)
MatchText text before after (Err fault.Memory) = ⊤

-- What bytes begin with.

-- a whole record of so many bytes, which is carried out
pub record Takes (bytes : List ℕ) (size : ℕ) (before after : MemoryTarget) : Type 0 where
  pub text : List ℕ
  pub behind : List ℕ
  pub whole : bytes ≡ framed text ++ behind
  pub has_room : HasRoom text
  pub sized : length (framed text) ≡ size
  pub carried : Carries text before after

-- neither a rest nor a whole record that does something
pub record IsBad (bytes : List ℕ) (content : Content) : Type 0 where
  pub not_rest : IsRest bytes → ⊥
  pub does_nothing : (text behind : List ℕ) (done : Call) (after : Content) → bytes ≡ framed text ++ behind → HasRoom text → Does content text done after → ⊥

abbrev pub MatchFront : List ℕ → MemoryTarget → MemoryTarget → Result (Option ℕ) CarryFault → Type 0
MatchFront bytes before after (Ok None) = IsRest bytes × (after ≡ before)
MatchFront bytes before after (Ok (Some size)) = Takes bytes size before after
MatchFront bytes before after (Err fault.Bad) = IsBad bytes (content_of before)
MatchFront bytes before after (Err fault.Memory) = ⊤
