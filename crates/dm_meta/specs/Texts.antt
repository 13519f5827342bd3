-- The records that the downstream keeps by name: their names, their texts, and what a text says.
use Rattle.std.specs.Prelude.{ℕ, ◌==◌, ◌^◌, ◌&&◌, nat_lt, nat_le, Bool, true, false, List, [], ◌∷◌, ◌++◌, length, Option, Some, None, option_and_then, Result, ok_or, codes, if◌then◌else◌}
use Rattle.std.specs.Fmt.{decimal}
use Rattle.std.specs.Str.{is_utf8, all_ascii_digits}
use Rattle.std.specs.Str.Parse.{digits_value}
use Rattle.json.specs.Json.{Json, number, string, array, object, Items, no_items, item, Members, no_members, member, document}
use Rattle.json.specs.Find.{get, as_str, as_number, as_array, as_object}
use Rattle.json.specs.Print.{print}
use Rattle.json.specs.Strict.{keys}
use Rattle.json.specs.Tree.{json_tokens}
use Rattle.dm_schema.specs.declared.table_name.TableName.{TableName}
use Rattle.dm_text.specs.Names.{table_name_text}
use Rattle.dm_meta.specs.declared.checkpoint.Checkpoint.{Checkpoint}
use Rattle.dm_meta.specs.declared.lock.Entry.{Entry}
use Rattle.dm_meta.specs.declared.lock.LockRecord.{LockRecord}
use Rattle.dm_meta.specs.declared.fault.MetaFault.{MetaFault}
use Rattle.dm_meta.specs.declared.fault.MetaFault.TheVariants.{NotMeta, Memory}

-- bytes of a text
abbrev pub Text : Type 0
Text = List ℕ

-- Names.

-- the name of a table's lock
abbrev pub lock_name : TableName → Text
lock_name table = codes "lock " ++ table_name_text table

-- the name of a shard's checkpoint
abbrev pub checkpoint_name : Text → Text
checkpoint_name shard = codes "shard " ++ shard

-- What is written.

abbrev pub whole_json : ℕ → Json
whole_json n = number (decimal n)

abbrev pub checkpoint_json : Checkpoint → Json
checkpoint_json c =
    object (member (codes "position") (whole_json c.position) (member (codes "version") (whole_json 1) (member (codes "window") (whole_json c.window) no_members)))

abbrev pub entry_json : Entry → Json
entry_json entry = array (item (string entry.shard) (item (whole_json entry.item) no_items))

abbrev pub entries_json : List Entry → Items
entries_json [] = no_items
entries_json (entry ∷ entries) = item (entry_json entry) (entries_json entries)

abbrev pub lock_json : LockRecord → Json
lock_json lock = object (member (codes "order") (array (entries_json lock.order)) (member (codes "version") (whole_json 1) no_members))

abbrev pub checkpoint_text : Checkpoint → Text
checkpoint_text c = print (json_tokens (checkpoint_json c))

abbrev pub lock_text : LockRecord → Text
lock_text lock = print (json_tokens (lock_json lock))

-- What is read.

infixl 10 ◌>>=◌
abbrev pub ◌>>=◌ : {A B : Type 0} → Option A → (A → Option B) → Option B
value >>= next = option_and_then next value

-- the number that a text of digits alone writes, below 2 ^ 64
unfoldable pub whole_of : Text → Option ℕ
whole_of text =
    if all_ascii_digits text && nat_lt 0 (length text) && nat_lt (digits_value 10 text) (2 ^ 64) then Some (digits_value 10 text) else None

abbrev pub whole : Json → Option ℕ
whole value = as_number value >>= whole_of

-- the whole number at a key
abbrev pub whole_at : Text → Json → Option ℕ
whole_at key value = get key value >>= whole

-- an object of so many members
abbrev pub has_members : ℕ → Json → Bool
has_members count value = by (as_object value) where
  by : Option Members → Bool
  by None = false
  by (Some members) = length (keys members) == count

abbrev pub has_version : Json → Bool
has_version value = by (whole_at (codes "version") value) where
  by : Option ℕ → Bool
  by None = false
  by (Some version) = version == 1

-- An object of so many members, whose version is 1. Where as many keys are asked for as it has members, and each is
-- found, no key is double, unknown or missing.
abbrev pub is_record : ℕ → Json → Bool
is_record count value = has_members count value && has_version value

-- a checkpoint whose window is 1 to 100,000
abbrev pub checkpoint_with : ℕ → ℕ → Option Checkpoint
checkpoint_with position window = if nat_le 1 window && nat_le window 100000 then Some (record { position = position; window = window }) else None

abbrev pub checkpoint_in : Json → Option Checkpoint
checkpoint_in value =
    if is_record 3 value then (whole_at (codes "position") value >>= λ position. whole_at (codes "window") value >>= λ window. checkpoint_with position window) else None

abbrev pub entry_with : Json → Json → Option Entry
entry_with first second =
    as_str first >>= λ shard.
    whole second >>= λ n.
    Some (record { shard = shard; item = n })

-- an array of exactly a string and a whole number
abbrev pub entry_of : Items → Option Entry
entry_of no_items = None
entry_of (item first no_items) = None
entry_of (item first (item second no_items)) = entry_with first second
entry_of (item first (item second (item third values))) = None

abbrev pub entry_in : Json → Option Entry
entry_in value = as_array value >>= entry_of

abbrev pub entries_in : Items → Option (List Entry)
entries_in no_items = Some []
entries_in (item value values) =
    entry_in value >>= λ entry.
    entries_in values >>= λ entries.
    Some (entry ∷ entries)

abbrev pub order_in : Json → Option LockRecord
order_in value =
    as_array value >>= λ values.
    entries_in values >>= λ entries.
    Some (record { order = entries })

abbrev pub lock_in : Json → Option LockRecord
lock_in value = if is_record 2 value then get (codes "order") value >>= order_in else None

-- the value that a text is, if it is UTF-8 and a JSON document
abbrev pub value_of : Text → Option Json
value_of text = if is_utf8 text then document text else None

abbrev pub checkpoint_of : Text → Option Checkpoint
checkpoint_of text = value_of text >>= checkpoint_in

abbrev pub lock_of : Text → Option LockRecord
lock_of text = value_of text >>= lock_in

-- What a call answers.

abbrev pub is_memory : MetaFault → Bool
is_memory NotMeta = false
is_memory Memory = true

-- what is read, or that a text isn't such a record
abbrev pub or_not_meta : {A : Type 0} → Option A → Result A MetaFault
or_not_meta read = ok_or read NotMeta
