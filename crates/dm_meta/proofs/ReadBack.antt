-- What is written is read again.
use Rattle.std.proofs.Common.{◌≡◌, ◌^◌, ◌<◌, ◌≤◌, List, [], ◌∷◌, Some, refl, arith}
use Rattle.std.specs.Prelude.{IsUtf8, All}
use Rattle.std.proofs.lemmas.Bool.{le-leb}
use Rattle.std.proofs.lemmas.List.Elements.{All-head, All-tail}
use Rattle.json.specs.Json.{document}
use Rattle.json.specs.Tree.{items_depth, HasNumbers, ItemsHaveNumbers}
use Rattle.json.proofs.Printed.Decimals.{IsNumber-decimal}
use Rattle.json.proofs.Printed.Trees.{document-print}
use Rattle.dm_meta.specs.declared.checkpoint.Checkpoint.{Checkpoint}
use Rattle.dm_meta.specs.declared.lock.Entry.{Entry}
use Rattle.dm_meta.specs.declared.lock.LockRecord.{LockRecord}
use Rattle.dm_meta.specs.Texts.{whole_json, checkpoint_json, checkpoint_text, checkpoint_in, checkpoint_of, entries_json, lock_json, lock_text, entries_in, lock_in, lock_of}
use Rattle.dm_meta.proofs.Numbers.{whole_decimal}
use Rattle.dm_meta.proofs.Documents.{value_read}

one_is_number : HasNumbers (whole_json 1)
one_is_number = IsNumber-decimal 1 (omega arith)

-- each checkpoint that can be read
pub record IsReadable (c : Checkpoint) : Type 0 where
  pub fits : c.position < 2 ^ 64
  pub least : 1 ≤ c.window
  pub most : c.window ≤ 100000

pub checkpoint_in-json : (c : Checkpoint) → IsReadable c → checkpoint_in (checkpoint_json c) ≡ Some c
checkpoint_in-json c is =
    rw (whole_decimal 1 (omega arith), whole_decimal c.position is.fits, whole_decimal c.window (omega (arith, is.most)), le-leb 1 c.window is.least, le-leb c.window 100000 is.most) refl

pub document-checkpoint_text : (c : Checkpoint) → IsReadable c → document (checkpoint_text c) ≡ Some (checkpoint_json c)
document-checkpoint_text c is =
    document-print (checkpoint_json c) (IsNumber-decimal c.position is.fits, (one_is_number, (IsNumber-decimal c.window (omega (arith, is.most)), tt))) (omega arith)

pub checkpoint_read_back : (c : Checkpoint) → IsReadable c → IsUtf8 (checkpoint_text c) → checkpoint_of (checkpoint_text c) ≡ Some c
checkpoint_read_back c is utf8 = rw (value_read (checkpoint_text c) (checkpoint_json c) utf8 (document-checkpoint_text c is)) (checkpoint_in-json c is)

abbrev pub HasPlace : Entry → Type 0
HasPlace entry = entry.item < 2 ^ 64

entries_have_numbers : (entries : List Entry) → All HasPlace entries → ItemsHaveNumbers (entries_json entries)
entries_have_numbers [] all = tt
entries_have_numbers (entry ∷ entries) all =
    ((tt, (IsNumber-decimal entry.item (All-head HasPlace entry entries all), tt)), entries_have_numbers entries (All-tail HasPlace entry entries all))

entries_nest : (entries : List Entry) → items_depth (entries_json entries) ≤ 1
entries_nest [] = omega arith
entries_nest (entry ∷ entries) = omega (arith, entries_nest entries)

entries_in-json : (entries : List Entry) → All HasPlace entries → entries_in (entries_json entries) ≡ Some entries
entries_in-json [] all = refl
entries_in-json (entry ∷ entries) all =
    rw (whole_decimal entry.item (All-head HasPlace entry entries all), entries_in-json entries (All-tail HasPlace entry entries all)) refl

pub lock_in-json : (lock : LockRecord) → All HasPlace lock.order → lock_in (lock_json lock) ≡ Some lock
lock_in-json lock all = rw (whole_decimal 1 (omega arith), entries_in-json lock.order all) refl

pub document-lock_text : (lock : LockRecord) → All HasPlace lock.order → document (lock_text lock) ≡ Some (lock_json lock)
document-lock_text lock all = document-print (lock_json lock) (entries_have_numbers lock.order all, (one_is_number, tt)) (omega (arith, entries_nest lock.order))

pub lock_read_back : (lock : LockRecord) → All HasPlace lock.order → IsUtf8 (lock_text lock) → lock_of (lock_text lock) ≡ Some lock
lock_read_back lock all utf8 = rw (value_read (lock_text lock) (lock_json lock) utf8 (document-lock_text lock all)) (lock_in-json lock all)
