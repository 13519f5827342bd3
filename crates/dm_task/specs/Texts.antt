-- Which texts stand where in a task file.
use Rattle.std.specs.Prelude.{ℕ, ◌+◌, ◌^◌, Bool, ◌&&◌, ◌||◌, ◌==◌, nat_le, List, [], ◌∷◌, length, codes, Option, Some, None, if◌then◌else◌}
use Rattle.std.specs.List.{list_all, list_any, starts_with}
use Rattle.std.specs.Fmt.{char_count}
use Rattle.dm_schema.specs.Names.{same_name}
use Rattle.dm_route.specs.declared.event_kind.EventKind.{EventKind}
use Rattle.dm_route.specs.declared.event_kind.EventKind.TheVariants as kind
use Rattle.dm_route.specs.contracts.event_kind.EventKindPartialEq.TheImpl as kind_eq
use Rattle.dm_route.specs.Rules.{place_of}
use Rattle.dm_task.specs.Paths.{Text}
use Rattle.dm_task.specs.Reading.{is_within}

-- a small letter, a digit, `_` or `-`
abbrev pub is_plain : ℕ → Bool
is_plain b = is_within 97 122 b || is_within 48 57 b || b == 95 || b == 45

-- the form of a source's name and of a task's
abbrev pub is_source_name : Text → Bool
is_source_name text = is_within 1 32 (length text) && list_all is_plain text

-- the form of a name of a database or a table, and of a pattern of such
abbrev pub is_name : Text → Bool
is_name text = is_within 1 64 (char_count text) && list_all (nat_le 32) text

abbrev pub is_file_name : Text → Bool
is_file_name text = is_within 1 255 (length text)

-- the words for the kinds of events
abbrev pub kind_of : Text → Option EventKind
kind_of text =
    if same_name text (codes "insert") then Some kind.Insert
    else if same_name text (codes "update") then Some kind.Update
    else if same_name text (codes "delete") then Some kind.Delete
    else if same_name text (codes "create table") then Some kind.CreateTable
    else if same_name text (codes "alter table") then Some kind.AlterTable
    else if same_name text (codes "create index") then Some kind.CreateIndex
    else if same_name text (codes "drop index") then Some kind.DropIndex
    else if same_name text (codes "drop table") then Some kind.DropTable
    else if same_name text (codes "truncate table") then Some kind.Truncate
    else if same_name text (codes "rename table") then Some kind.Rename
    else None

abbrev pub same_kind : EventKind → EventKind → Bool
same_kind = (kind_eq.ghosts).eq

-- the kind's bit, if the kind is among these
abbrev pub bit_among : List EventKind → EventKind → ℕ
bit_among kinds k = if list_any (λ other. same_kind other k) kinds then 2 ^ place_of k else 0

-- the set of these kinds
abbrev pub set_of : List EventKind → ℕ
set_of kinds =
    bit_among kinds kind.Insert + bit_among kinds kind.Update + bit_among kinds kind.Delete + bit_among kinds kind.CreateTable
    + bit_among kinds kind.AlterTable + bit_among kinds kind.CreateIndex + bit_among kinds kind.DropIndex + bit_among kinds kind.DropTable
    + bit_among kinds kind.Truncate + bit_among kinds kind.Rename

-- the table of that name is the program's own
abbrev pub is_reserved : Text → Text → Bool
is_reserved db table = same_name db (codes "dm_meta") && same_name table (codes "state")

-- the byte order mark of UTF-8
abbrev pub is_marked : Text → Bool
is_marked text = starts_with (λ a b. a == b) text (0xEF ∷ 0xBB ∷ 0xBF ∷ [])
