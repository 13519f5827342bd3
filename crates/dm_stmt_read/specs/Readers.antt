-- How the reader goes over a text: functions from what is left of it to what is read and what is left behind that, or to
-- nothing. They serve the proof alone: what is promised stands in `Reading`.
use Rattle.std.specs.Prelude.{◌≡◌, ℕ, zero, suc, pos, nat_eq, nat_lt, Bool, true, false, List, [], ◌∷◌, ◌++◌, codes, map, drop, length, slice_range, Option, Some, None, Result, Ok, Err, if◌then◌else◌}
use Rattle.std.specs.Option.{option_map}
use Rattle.std.specs.List.{starts_with}
use Rattle.dm_value.specs.declared.value.Value.{Value}
use Rattle.dm_value.specs.declared.value.Value.TheVariants as variant
use Rattle.dm_schema.specs.declared.column.Kind.{Kind}
use Rattle.dm_schema.specs.declared.column.Kind.TheVariants as kind
use Rattle.dm_schema.specs.declared.table_name.TableName.{TableName}
use Rattle.dm_lex.specs.declared.token.Token.{Token}
use Rattle.dm_lex.specs.Tokens.{lexed_of}
use Rattle.dm_lex.specs.Literals.{literal_of}
use Rattle.dm_syntax.specs.Names.{name_of}
use Rattle.dm_stmt_read.specs.declared.fault.RecordFault.{RecordFault}
use Rattle.dm_stmt_read.specs.declared.fault.RecordFault.TheVariants as fault

abbrev pub Reader : Type 0 → Type 0
Reader A = List ℕ → Option (A × List ℕ)

abbrev pub just : {A : Type 0} → A → Reader A
just x left = Some (x, left)

abbrev pub failing : {A : Type 0} → Reader A
failing left = None

-- what there is; nothing is passed over
abbrev pub given : {A : Type 0} → Option A → Reader A
given None = failing
given (Some x) = just x

abbrev pub and_then : {A B : Type 0} → Option (A × List ℕ) → (A → Reader B) → Option (B × List ℕ)
and_then None next = None
and_then (Some read) next = next read.0 read.1

infixl 10 ◌>>=◌
abbrev pub ◌>>=◌ : {A B : Type 0} → Reader A → (A → Reader B) → Reader B
(reader >>= next) left = and_then (reader left) next

-- what is read, where nothing is passed over
abbrev pub ahead : {A : Type 0} → Reader A → Reader A
ahead reader left = and_then (reader left) (λ x behind. Some (x, left))

-- What a call answered that reads so: the value, and what is left behind it. Nothing is there where it found no record,
-- and want of memory says nothing.
abbrev pub Reads : {A : Type 0} → Reader A → List ℕ → Result A RecordFault → List ℕ → Type 0
Reads reader before (Ok x) after = reader before ≡ Some (x, after)
Reads reader before (Err e) after = e ≡ fault.NotRecord → reader before ≡ None

-- Lists.

-- one value before others, if there is one
abbrev pub before : {A : Type 0} → Reader (List A) → Option A → Reader (List A)
before others None = just []
before others (Some x) = others >>= λ xs. just (x ∷ xs)

-- values as long as there is one more, and at most so many
unfoldable pub many : {A : Type 0} → Reader (Option A) → ℕ → Reader (List A)
many next zero = just []
many next (suc most) = next >>= before (many next most)

-- at most so many, behind others
abbrev pub up_to : {A : Type 0} → Reader (Option A) → ℕ → List A → Reader (List A)
up_to next most made = many next most >>= λ xs. just (made ++ xs)

-- all there are, behind others; each takes a byte at least
unfoldable pub further : {A : Type 0} → Reader (Option A) → List A → Reader (List A)
further next made left = up_to next (length left) made left

-- the same of pairs, whose parts go behind others
abbrev pub pairs_up_to : {A B : Type 0} → Reader (Option (A × B)) → ℕ → List A → List B → Reader (List A × List B)
pairs_up_to next most xs ys = many next most >>= λ ps. just (xs ++ map (λ p. p.0) ps, ys ++ map (λ p. p.1) ps)

unfoldable pub further_pairs : {A B : Type 0} → Reader (Option (A × B)) → List A → List B → Reader (List A × List B)
further_pairs next xs ys left = pairs_up_to next (length left) xs ys left

-- a value for each element, the first behind one mark and the others behind another
unfoldable pub each : {A B : Type 0} → (List ℕ → A → Reader B) → List ℕ → List ℕ → List A → Reader (List B)
each step mark other [] = just []
each step mark other (x ∷ xs) = step mark x >>= λ y. each step other other xs >>= λ ys. just (y ∷ ys)

-- another one, if a test says so
abbrev pub one_if : {A : Type 0} → Reader A → Bool → Reader (Option A)
one_if item true = item >>= λ x. just (Some x)
one_if item false = just None

-- Words.

-- whether the bytes stand there; then they are passed over
unfoldable pub accept : List ℕ → Reader Bool
accept word left = if starts_with nat_eq left word then Some (true, drop (length word) left) else Some (false, left)

-- the bytes have to stand there
abbrev pub expect : List ℕ → Reader (Unit {0})
expect word = accept word >>= λ is. if is then just tt else failing

-- Tokens.

abbrev pub first_of : List Token → Option Token
first_of [] = None
first_of (t ∷ ts) = Some t

-- the first token, behind blanks
unfoldable pub front : List ℕ → Option Token
front left = first_of (lexed_of left).tokens

-- what the first token says
abbrev pub told : {A : Type 0} → List ℕ → Option Token → (Token → Option A) → Option (A × List ℕ)
told left None says = None
told left (Some t) says = option_map (λ x. (x, drop t.to left)) (says t)

unfoldable pub name : Reader (List ℕ)
name left = told left (front left) (λ t. Some (name_of left t))

unfoldable pub literal : Kind → Bool → Reader Value
literal k minus left = told left (front left) (λ t. literal_of k minus t.kind (slice_range left t.from t.to))

-- Values.

unfoldable pub value : Kind → Reader Value
value k = accept (codes "-") >>= λ minus. literal k minus

abbrev pub whole_of : Value → Option ℕ
whole_of (variant.Int (pos n)) = if nat_lt n 65536 then Some n else None
whole_of _ = None

abbrev pub small_of : ℕ → Option ℕ
small_of n = if nat_lt n 256 then Some n else None

abbrev pub bytes_in : Value → Option (List ℕ)
bytes_in (variant.Bytes bytes) = Some bytes
bytes_in _ = None

-- a number of 16 bits, and one of 8
unfoldable pub number : Reader ℕ
number = value (kind.Unsigned 2) >>= λ v. given (whole_of v)

unfoldable pub small : Reader ℕ
small = number >>= λ n. given (small_of n)

-- what a string says, of up to 4 GiB
unfoldable pub string : Reader (List ℕ)
string = literal (kind.Blob 4) false >>= λ v. given (bytes_in v)

-- Names.

-- a name behind a comma
unfoldable pub next_name : Reader (Option (List ℕ))
next_name = accept (codes ",") >>= one_if name

-- names in brackets
unfoldable pub names : Reader (List (List ℕ))
names =
    expect (codes "(") >>= λ _.
    name >>= λ first.
    further next_name (first ∷ []) >>= λ all.
    expect (codes ")") >>= λ _.
    just all

unfoldable pub table_name : Reader TableName
table_name =
    name >>= λ db.
    expect (codes ".") >>= λ _.
    name >>= λ table.
    just (record { db = db; table = table })
