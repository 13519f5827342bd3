-- What is read of the words, by what `clap` answers.
use Rattle.std.proofs.Common.{◌≡◌, ℕ, zero, suc, ◌<◌, length, arith, true, false, ◌⊎◌, inl, inr, List, [], ◌∷◌, map, codes, Option, Some, None, unwrap_or, Err, refl, sym, ap, ◌∙◌}
use Rattle.std.specs.List.{All, slice_index_or}
use Rattle.std.specs.declared.string.String.{String}
use Rattle.std.specs.String.{string_bytes}
use Rattle.std.proofs.lemmas.Str.{IsUtf8-string_bytes}
use Rattle.std.specs.Str.{IsUtf8}
use Rattle.std.proofs.lemmas.Bool.{and_parts}
use Rattle.clap.specs.Kinds.{Kinds, IsAmong}
use Rattle.clap.specs.Walk.{Row, Text, rows_of, first_of}
use Rattle.clap.specs.Matches.{found_of}
use Rattle.clap.specs.Simple.{is_simple, matches_of, HasMatchesOf}
use Rattle.clap.specs.Faults.{fault_of}
use Rattle.clap.specs.declared.error.kind.ErrorKind.{ErrorKind}
use Rattle.clap.specs.declared.error.kind.ErrorKind.TheVariants.{OutOfMemory}
use Rattle.clap.specs.declared.parser.matches.ArgMatches.{ArgMatches}
use Rattle.clap.proofs.WalkLemmas.{first_value-rows, raw_values-rows}
use Rattle.dm_words.specs.Parts.{Part, is_among, names_of, options_of, value_of, parts_of, read_parts}
use Rattle.dm_words.specs.Commands.{app_with}
use Rattle.dm_words.specs.Reading.{Matches, HasParts, fault_by}
use Rattle.dm_words.proofs.Rules.{simple_with}
use Rattle.dm_words.proofs.Walked.{is_clean, put_each, put_all}
use Rattle.dm_words.proofs.Faults.{IsTold, parse_told}
use Rattle.dm_words.proofs.Puts.{names_in, IsPut, puts, fits_none}

-- what the rows hold
record HasRows (known : List Text) (parts : List Part) (rows : List Row) : Type 0 where
  pub names : names_in rows ≡ names_of parts
  pub values : (option : Text) → is_among option known ≡ true → first_of option rows ≡ value_of option parts

-- either there is a fault and nothing is read, or there is none and the rows hold what is read
data IsRead (known words : List Text) (kinds : Kinds) (rows : List Row) : Type 0 where
  faulty : is_clean kinds ≡ false → read_parts known words ≡ None → IsRead known words kinds rows
  read : (parts : List Part) → is_clean kinds ≡ true → read_parts known words ≡ Some parts → HasRows known parts rows → IsRead known words kinds rows

is_read : (known words : List Text) (kinds : Kinds) (rows : List Row) → is_among (codes "names") known ≡ false → IsTold kinds rows (put_each known (parts_of None words) []) → IsRead known words kinds rows
is_read known words kinds rows gone told = by (parts_of None words) refl told where
  of_parts : (parts : List Part) (o : Option (List Row)) → parts_of None words ≡ Some parts → IsPut known parts [] o → IsTold kinds rows o → IsRead known words kinds rows
  of_parts parts None e put told = faulty told (rw (e, sym (fits_none known (options_of parts)) ∙ put) refl)
  of_parts parts (Some after) e put told = read parts told.0 (rw (e, sym (fits_none known (options_of parts)) ∙ put.0) refl) (record {
    names = ap names_in told.1 ∙ put.1.names;
    values = λ option k. ap (first_of option) told.1 ∙ put.1.values option k;
  })

  by : (o : Option (List Part)) → parts_of None words ≡ o → IsTold kinds rows (put_each known o []) → IsRead known words kinds rows
  by None e told = faulty told (rw e refl)
  by (Some parts) e told = of_parts parts (put_all known parts []) e (puts known parts [] gone) told

all_read : (known words : List Text) → is_among (codes "names") known ≡ false → All IsUtf8 words → IsRead known words (fault_of (app_with known) words) (matches_of (app_with known) words)
all_read known words gone text = is_read known words (fault_of (app_with known) words) (matches_of (app_with known) words) gone (parse_told known words gone text)

simple_app : (known : List Text) → is_simple (app_with known) ≡ true
simple_app known = (and_parts _ _ (simple_with known)).0

has_parts : (known : List Text) (parts : List Part) (rows : List Row) (m : ArgMatches) → rows_of (found_of m) ≡ rows → HasRows known parts rows → HasParts known parts m
has_parts known parts rows m e has = record {
  names = ap (λ o. unwrap_or o []) (raw_values-rows (found_of m) (codes "names")) ∙ ap names_in e ∙ has.names;
  values = λ option k. first_value-rows (found_of m) option ∙ ap (first_of option) e ∙ has.values option k;
}

-- the matches, where `clap` gives some
pub matches_are : (known words : List Text) (m : ArgMatches) → is_among (codes "names") known ≡ false → All IsUtf8 words → HasMatchesOf (app_with known) words m → fault_of (app_with known) words ≡ []
    → (parts : List Part) × (read_parts known words ≡ Some parts) × HasParts known parts m
matches_are known words m gone text matches none = by (fault_of (app_with known) words) none (all_read known words gone text) where
  by : (kinds : Kinds) → kinds ≡ [] → IsRead known words kinds (matches_of (app_with known) words) → (parts : List Part) × (read_parts known words ≡ Some parts) × HasParts known parts m
  by kinds none (faulty some unread) = let clean : is_clean kinds ≡ true = ap is_clean none in cc
  by kinds none (read parts clean is has) = (parts, is, has_parts known parts (matches_of (app_with known) words) m (matches (simple_app known)).0 has)

among_some : (k : ErrorKind) (kinds : Kinds) → IsAmong k kinds → is_clean kinds ≡ false
among_some k [] h = elim h [ ]
among_some k (x ∷ kinds) h = refl

refused_by : (known words : List Text) (k : ErrorKind) → (k ≡ OutOfMemory) ⊎ (read_parts known words ≡ None) → Matches known words (Err (fault_by k))
refused_by known words OutOfMemory h = tt
refused_by known words _ (inr e) = e
refused_by known words _ (inl e) = cc

-- the fault, where it gives none
pub faults_are : (known words : List Text) (k : ErrorKind) → is_among (codes "names") known ≡ false → All IsUtf8 words → (k ≡ OutOfMemory) ⊎ IsAmong k (fault_of (app_with known) words)
    → Matches known words (Err (fault_by k))
faults_are known words k gone text (inl e) = refused_by known words k (inl e)
faults_are known words k gone text (inr h) = refused_by known words k (inr (by (fault_of (app_with known) words) h (all_read known words gone text))) where
  by : (kinds : Kinds) → IsAmong k kinds → IsRead known words kinds (matches_of (app_with known) words) → read_parts known words ≡ None
  by kinds h (faulty some unread) = unread
  by kinds h (read parts clean is has) = let some : is_clean kinds ≡ false = among_some k kinds h in cc

-- the words are text
pub all_text : {Z : Type 0} (words : List (String Z)) → All IsUtf8 (map string_bytes words)
all_text [] = λ k d lt. absurd (omega arith)
all_text (word ∷ words) = by (all_text words) where
  by : All IsUtf8 (map string_bytes words) → (k : ℕ) (d : Text) → k < length (map string_bytes (word ∷ words)) → IsUtf8 (slice_index_or (map string_bytes (word ∷ words)) k d)
  by further zero d lt = IsUtf8-string_bytes word
  by further (suc k) d lt = further k d (omega arith)
