-- A record has as many members as keys are asked for, and each is found: so its keys are just those.
use Rattle.std.proofs.Common.{◌≡◌, ℕ, suc, Bool, true, false, cond, ◌&&◌, ◌||◌, ◌==◌, List, [], ◌∷◌, length, Option, Some, None, option_and_then, refl, sym, ◌∙◌, ap, arith}
use Rattle.std.specs.Prelude.{codes}
use Rattle.std.specs.Str.{bytes_eq}
use Rattle.std.proofs.lemmas.Bool.{eqb-true}
use Rattle.std.proofs.lemmas.Slice.Eq.{bytes_eq-Decides}
use Rattle.json.specs.Json.{Json, object, Members, no_members, member}
use Rattle.json.specs.Find.{get_member, later_or}
use Rattle.json.specs.Strict.{keys}
use Rattle.dm_meta.specs.declared.checkpoint.Checkpoint.{Checkpoint}
use Rattle.dm_meta.specs.declared.lock.LockRecord.{LockRecord}
use Rattle.dm_meta.specs.Texts.{Text, whole, whole_at, is_record, checkpoint_in, order_in, lock_in}

-- a name is among these
abbrev pub has : Text → List Text → Bool
has name [] = false
has name (key ∷ rest) = bytes_eq key name || has name rest

-- all but the first of that name
abbrev pub without : Text → List Text → List Text
without name [] = []
without name (key ∷ rest) = cond (bytes_eq key name) rest (key ∷ without name rest)

-- what is left where each name has taken one away
abbrev pub left_of : List Text → List Text → List Text
left_of [] all = all
left_of (name ∷ names) all = left_of names (without name all)

abbrev AreApart : List Text → Type 0
AreApart [] = Unit {0}
AreApart (name ∷ names) = (has name names ≡ false) × AreApart names

abbrev AreAmong : List Text → List Text → Type 0
AreAmong [] all = Unit {0}
AreAmong (name ∷ names) all = (has name all ≡ true) × AreAmong names all

length-without : (name : Text) (all : List Text) → has name all ≡ true → suc (length (without name all)) ≡ length all
length-without name [] there = cc
length-without name (key ∷ rest) there = by (bytes_eq key name) (length-without name rest) there where
  by : (test : Bool) → (has name rest ≡ true → suc (length (without name rest)) ≡ length rest) → (test || has name rest) ≡ true → suc (length (cond test rest (key ∷ without name rest))) ≡ suc (length rest)
  by true again there = refl
  by false again there = ap suc (again there)

has-without : (name other : Text) (all : List Text) → bytes_eq other name ≡ false → has other all ≡ true → has other (without name all) ≡ true
has-without name other [] apart there = there
has-without name other (key ∷ rest) apart there = by (bytes_eq key name) (bytes_eq key other) refl refl (has-without name other rest apart) there where
  by : (named found : Bool) → bytes_eq key name ≡ named → bytes_eq key other ≡ found → (has other rest ≡ true → has other (without name rest) ≡ true) → (found || has other rest) ≡ true
      → has other (cond named rest (key ∷ without name rest)) ≡ true
  by true true named found again there =
      let same : other ≡ name = sym ((bytes_eq-Decides key other).0 found) ∙ (bytes_eq-Decides key name).0 named in
      let joined : bytes_eq other name ≡ true = (bytes_eq-Decides other name).1 same in
      cc
  by true false named found again there = there
  by false true named found again there = rw found refl
  by false false named found again there = rw found (again there)

neither : (a b : Bool) → (a || b) ≡ false → (a ≡ false) × (b ≡ false)
neither true b none = cc
neither false b none = (refl, none)

kept : (name : Text) (names all : List Text) → has name names ≡ false → AreAmong names all → AreAmong names (without name all)
kept name [] all apart among = tt
kept name (other ∷ names) all apart among =
    let none = neither (bytes_eq other name) (has name names) apart in
    (has-without name other all none.0 among.0, kept name names all none.1 among.1)

none_left : (names all : List Text) → AreApart names → AreAmong names all → length all ≡ length names → left_of names all ≡ []
none_left [] [] apart among count = refl
none_left [] (key ∷ rest) apart among count = absurd (omega arith)
none_left (name ∷ names) all apart among count =
    none_left names (without name all) apart.1 (kept name names all apart.0 among.1) (omega (arith, length-without name all among.0))

found : (name : Text) (members : Members) (value : Json) → get_member name members ≡ Some value → has name (keys members) ≡ true
found name no_members value is = cc
found name (member key first members) value is = by (get_member name members) (bytes_eq key name) refl (found name members) is where
  by : (later : Option Json) (test : Bool) → get_member name members ≡ later → ((value : Json) → get_member name members ≡ Some value → has name (keys members) ≡ true) → later_or later (cond test (Some first) None) ≡ Some value
      → (test || has name (keys members)) ≡ true
  by (Some last) true later again is = refl
  by (Some last) false later again is = again last later
  by None true later again is = refl
  by None false later again is = cc

some_first : {A B : Type 0} (read : Option A) (next : A → Option B) (y : B) → option_and_then next read ≡ Some y → (x : A) × (read ≡ Some x) × (next x ≡ Some y)
some_first None next y is = cc
some_first (Some x) next y is = (x, refl, is)

whole_found : (name : Text) (members : Members) (n : ℕ) → whole_at name (object members) ≡ Some n → has name (keys members) ≡ true
whole_found name members n is = let first = some_first (get_member name members) whole n is in found name members first.0 first.1

-- an object of so many members that has a version
parts : {A : Type 0} (count : ℕ) (members : Members) (read : Option A) (x : A) → cond (is_record count (object members)) read None ≡ Some x
    → (length (keys members) ≡ count) × (has (codes "version") (keys members) ≡ true) × (read ≡ Some x)
parts {A} count members read x is = by (length (keys members) == count) (whole_at (codes "version") (object members)) refl refl is where
  versioned : Option ℕ → Bool
  versioned None = false
  versioned (Some version) = version == 1

  by : (counted : Bool) (version : Option ℕ) → (length (keys members) == count) ≡ counted → whole_at (codes "version") (object members) ≡ version → cond (counted && versioned version) read None ≡ Some x
      → (length (keys members) ≡ count) × (has (codes "version") (keys members) ≡ true) × (read ≡ Some x)
  by false version counted versions is = cc
  by true None counted versions is = cc
  by true (Some version) counted versions is = (eqb-true _ _ counted, whole_found (codes "version") members version versions, last (version == 1) is) where
    last : (test : Bool) → cond test read None ≡ Some x → read ≡ Some x
    last true is = is
    last false is = cc

pub checkpoint_keys : (members : Members) (c : Checkpoint) → checkpoint_in (object members) ≡ Some c → left_of (codes "position" ∷ codes "version" ∷ codes "window" ∷ []) (keys members) ≡ []
checkpoint_keys members c is =
    let record_of = parts 3 members _ c is in
    let position = some_first (whole_at (codes "position") (object members)) _ c record_of.2 in
    let window = some_first (whole_at (codes "window") (object members)) _ c position.2 in
    none_left (codes "position" ∷ codes "version" ∷ codes "window" ∷ []) (keys members) (refl, (refl, (refl, tt)))
    (whole_found (codes "position") members position.0 position.1, (record_of.1, (whole_found (codes "window") members window.0 window.1, tt))) record_of.0

pub lock_keys : (members : Members) (lock : LockRecord) → lock_in (object members) ≡ Some lock → left_of (codes "order" ∷ codes "version" ∷ []) (keys members) ≡ []
lock_keys members lock is =
    let record_of = parts 2 members _ lock is in
    let order = some_first (get_member (codes "order") members) order_in lock record_of.2 in
    none_left (codes "order" ∷ codes "version" ∷ []) (keys members) (refl, (refl, tt)) (found (codes "order") members order.0 order.1, (record_of.1, tt)) record_of.0
