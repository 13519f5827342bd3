-- Putting parts in order: which rows they leave, and that an option that isn't known or stands twice leaves none.
use Rattle.std.proofs.Common.{◌≡◌, Bool, true, false, cond, ◌&&◌, ◌||◌, not, List, [], ◌∷◌, ◌++◌, find, is_some, codes, Option, Some, None, unwrap_or, refl, sym, ap, ◌∙◌, append_assoc, append-nil, slice_get}
use Rattle.std.specs.Option.{option_and_then, option_map}
use Rattle.std.specs.Str.{bytes_eq}
use Rattle.std.proofs.lemmas.Slice.Eq.{bytes_eq-Decides}
use Rattle.clap.specs.Walk.{Row, Text, with_values, without, has_row, all_of, first_of}
use Rattle.clap.specs.declared.builder.value_parser.Reading.{Reading}
use Rattle.clap.specs.declared.parser.matches.ValueSource.{ValueSource}
use Rattle.clap.specs.declared.builder.value_parser.Reading.TheVariants.{AsWritten}
use Rattle.clap.specs.declared.parser.matches.ValueSource.TheVariants.{CommandLine}
use Rattle.dm_words.specs.Parts.{Part, named, given, is_among, names_of, options_of, value_of, are_options}
use Rattle.dm_words.proofs.Rules.{is_other}
use Rattle.dm_words.proofs.Walked.{put_all, use_name, use_option, no_and}

-- ---- texts

pub same_text : (a : Text) → bytes_eq a a ≡ true
same_text a = (bytes_eq-Decides a a).1 refl

equal_by : (a b : Text) → bytes_eq a b ≡ true → a ≡ b
equal_by a b e = (bytes_eq-Decides a b).0 e

turned : (a b : Text) → bytes_eq a b ≡ bytes_eq b a
turned a b = by (bytes_eq a b) (bytes_eq b a) refl refl where
  by : (s t : Bool) → bytes_eq a b ≡ s → bytes_eq b a ≡ t → s ≡ t
  by true t e f = sym (same_text a) ∙ ap (λ x. bytes_eq x a) (equal_by a b e) ∙ f
  by false true e f = let same : bytes_eq a b ≡ true = ap (λ x. bytes_eq a x) (equal_by b a f) ∙ same_text a in sym e ∙ same
  by false false e f = refl

-- ---- one row

-- the values of a row with more at their end
abbrev more_of : Option (List Text) → List Text → Option (List Text)
more_of values more = Some (unwrap_or values [] ++ more)

abbrev with_row : Text → Reading → ValueSource → List Text → List Row → List Row
with_row id how source values rows = with_values id how source values rows

at_its_row : (id : Text) (how : Reading) (source : ValueSource) (values : List Text) (rows : List Row) → all_of id (with_row id how source values rows) ≡ more_of (all_of id rows) values
at_its_row id how source values [] = rw (same_text id) refl
at_its_row id how source values (r ∷ rows) = by (bytes_eq r.id id) refl (at_its_row id how source values rows) where
  by : (b : Bool) → bytes_eq r.id id ≡ b → all_of id (with_row id how source values rows) ≡ more_of (all_of id rows) values
      → all_of id (with_row id how source values (r ∷ rows)) ≡ more_of (all_of id (r ∷ rows)) values
  by true e further = rw (e, e) refl
  by false e further = rw (e, e) further

at_another_row : (id other : Text) (how : Reading) (source : ValueSource) (values : List Text) (rows : List Row) → bytes_eq id other ≡ false → all_of other (with_row id how source values rows) ≡ all_of other rows
at_another_row id other how source values [] no_row = rw no_row refl
at_another_row id other how source values (r ∷ rows) no_row = by (bytes_eq r.id id) (bytes_eq r.id other) refl refl (at_another_row id other how source values rows no_row) where
  by : (b d : Bool) → bytes_eq r.id id ≡ b → bytes_eq r.id other ≡ d → all_of other (with_row id how source values rows) ≡ all_of other rows
      → all_of other (with_row id how source values (r ∷ rows)) ≡ all_of other (r ∷ rows)
  by true true e f further = let bad : bytes_eq id other ≡ true = ap (λ x. bytes_eq x other) (sym (equal_by r.id id e)) ∙ f in cc
  by true false e f further = rw (e, f) refl
  by false true e f further = rw (e, f) refl
  by false false e f further = rw (e, f) further

has_all : (id : Text) (rows : List Row) → has_row id rows ≡ is_some (all_of id rows)
has_all id [] = refl
has_all id (r ∷ rows) = by (bytes_eq r.id id) refl (has_all id rows) where
  by : (b : Bool) → bytes_eq r.id id ≡ b → has_row id rows ≡ is_some (all_of id rows) → has_row id (r ∷ rows) ≡ is_some (all_of id (r ∷ rows))
  by true e further = rw e refl
  by false e further = rw e further

-- the first of the values
abbrev first_in : Option (List Text) → Option Text
first_in values = option_and_then (λ vs. slice_get vs 0) values

first_all : (id : Text) (rows : List Row) → first_of id rows ≡ first_in (all_of id rows)
first_all id rows = by (find (λ r. bytes_eq r.id id) rows) where
  by : (o : Option Row) → option_and_then (λ r. slice_get r.values 0) o ≡ first_in (option_map (λ r. r.values) o)
  by None = refl
  by (Some r) = refl

no_row_to_drop : (id : Text) (rows : List Row) → has_row id rows ≡ false → without id rows ≡ rows
no_row_to_drop id [] gone = refl
no_row_to_drop id (r ∷ rows) gone = by (bytes_eq r.id id) refl gone (no_row_to_drop id rows) where
  by : (b : Bool) → bytes_eq r.id id ≡ b → (b || has_row id rows) ≡ false → (has_row id rows ≡ false → without id rows ≡ rows) → without id (r ∷ rows) ≡ r ∷ rows
  by true e gone further = cc
  by false e gone further = rw e (ap (λ rs. r ∷ rs) (further gone))

-- ---- one part

abbrev pub names_in : List Row → List Text
names_in rows = unwrap_or (all_of (codes "names") rows) []

names_with_name : (name : Text) (rows : List Row) → names_in (use_name name rows) ≡ names_in rows ++ name ∷ []
names_with_name name rows = ap (λ o. unwrap_or o []) (at_its_row (codes "names") _ _ (name ∷ []) rows)

all_with_name : (name other : Text) (rows : List Row) → bytes_eq (codes "names") other ≡ false → all_of other (use_name name rows) ≡ all_of other rows
all_with_name name other rows no_row = at_another_row (codes "names") other _ _ (name ∷ []) rows no_row

has_with_name : (name other : Text) (rows : List Row) → bytes_eq (codes "names") other ≡ false → has_row other (use_name name rows) ≡ has_row other rows
has_with_name name other rows no_row = has_all other (use_name name rows) ∙ ap is_some (all_with_name name other rows no_row) ∙ sym (has_all other rows)

first_with_name : (name other : Text) (rows : List Row) → bytes_eq (codes "names") other ≡ false → first_of other (use_name name rows) ≡ first_of other rows
first_with_name name other rows no_row = first_all other (use_name name rows) ∙ ap first_in (all_with_name name other rows no_row) ∙ sym (first_all other rows)

no_values : (id : Text) (rows : List Row) → has_row id rows ≡ false → all_of id rows ≡ None
no_values id rows gone = by (all_of id rows) (sym (has_all id rows) ∙ gone) where
  by : (o : Option (List Text)) → is_some o ≡ false → o ≡ None
  by None e = refl
  by (Some vs) e = cc

no_first : (id : Text) (rows : List Row) → has_row id rows ≡ false → first_of id rows ≡ None
no_first id rows gone = first_all id rows ∙ ap first_in (no_values id rows gone)

all_with_option : (name value : Text) (rows : List Row) → has_row name rows ≡ false → all_of name (use_option name value rows) ≡ Some (value ∷ [])
all_with_option name value rows gone =
    ap (λ rs. all_of name (with_values name AsWritten CommandLine (value ∷ []) rs)) (no_row_to_drop name rows gone) ∙ at_its_row name AsWritten CommandLine (value ∷ []) rows ∙ ap (λ o. more_of o (value ∷ [])) (no_values name rows gone)

all_beside_option : (name value other : Text) (rows : List Row) → has_row name rows ≡ false → bytes_eq name other ≡ false → all_of other (use_option name value rows) ≡ all_of other rows
all_beside_option name value other rows gone no_row =
    ap (λ rs. all_of other (with_values name AsWritten CommandLine (value ∷ []) rs)) (no_row_to_drop name rows gone) ∙ at_another_row name other AsWritten CommandLine (value ∷ []) rows no_row

has_with_option : (name value other : Text) (rows : List Row) → has_row name rows ≡ false → has_row other (use_option name value rows) ≡ (bytes_eq name other || has_row other rows)
has_with_option name value other rows gone = by (bytes_eq name other) refl where
  by : (b : Bool) → bytes_eq name other ≡ b → has_row other (use_option name value rows) ≡ (b || has_row other rows)
  by true e = ap (λ x. has_row x (use_option name value rows)) (sym (equal_by name other e)) ∙ has_all name (use_option name value rows) ∙ ap is_some (all_with_option name value rows gone)
  by false e = has_all other (use_option name value rows) ∙ ap is_some (all_beside_option name value other rows gone e) ∙ sym (has_all other rows)

-- ---- all parts

-- each is known, has no row and stands once
abbrev pub fits : List Text → List Row → List Text → Bool
fits known rows [] = true
fits known rows (option ∷ options) = is_among option known && not (has_row option rows) && not (is_among option options) && fits known rows options

fits_with_name : (known : List Text) (name : Text) (rows : List Row) (options : List Text) → is_among (codes "names") known ≡ false → fits known (use_name name rows) options ≡ fits known rows options
fits_with_name known name rows [] gone = refl
fits_with_name known name rows (option ∷ options) gone = by (is_among option known) refl (fits_with_name known name rows options gone) where
  by : (b : Bool) → is_among option known ≡ b → fits known (use_name name rows) options ≡ fits known rows options
      → (b && not (has_row option (use_name name rows)) && not (is_among option options) && fits known (use_name name rows) options)
      ≡ (b && not (has_row option rows) && not (is_among option options) && fits known rows options)
  by true e further = rw (has_with_name name option rows (is_other known option (codes "names") e gone), further) refl
  by false e further = refl

moved : (a e h b n f : Bool) → (a && not (e || h) && b && (not n && f)) ≡ (not (e || n) && (a && not h && b && f))
moved false e h b n f = sym (no_and (not (e || n)))
moved true true h b n f = refl
moved true false h b true f = no_and (not h && b)
moved true false h b false f = refl

fits_with_option : (known : List Text) (name value : Text) (rows : List Row) (options : List Text) → has_row name rows ≡ false
    → fits known (use_option name value rows) options ≡ (not (is_among name options) && fits known rows options)
fits_with_option known name value rows [] gone = refl
fits_with_option known name value rows (option ∷ options) gone =
    rw (has_with_option name value option rows gone, fits_with_option known name value rows options gone, turned option name)
    (moved (is_among option known) (bytes_eq name option) (has_row option rows) (not (is_among option options)) (is_among name options) (fits known rows options))

pub fits_none : (known options : List Text) → fits known [] options ≡ are_options known options
fits_none known [] = refl
fits_none known (option ∷ options) = by (is_among option known) (fits_none known options) where
  by : (b : Bool) → fits known [] options ≡ are_options known options → (b && not false && not (is_among option options) && fits known [] options) ≡ (b && not (is_among option options) && are_options known options)
  by true further = ap (λ f. not (is_among option options) && f) further
  by false further = refl

pub record Holds (known : List Text) (parts : List Part) (rows after : List Row) : Type 0 where
  pub names : names_in after ≡ names_in rows ++ names_of parts
  pub values : (option : Text) → is_among option known ≡ true → first_of option after ≡ cond (has_row option rows) (first_of option rows) (value_of option parts)

abbrev pub IsPut : List Text → List Part → List Row → Option (List Row) → Type 0
IsPut known parts rows None = fits known rows (options_of parts) ≡ false
IsPut known parts rows (Some after) = (fits known rows (options_of parts) ≡ true) × Holds known parts rows after

put_nothing : (known : List Text) (rows : List Row) → Holds known [] rows rows
put_nothing known rows = record {
  names = sym (append-nil (names_in rows));
  values = λ option k. by option (has_row option rows) refl;
} where
  by : (option : Text) (b : Bool) → has_row option rows ≡ b → first_of option rows ≡ cond b (first_of option rows) None
  by option true e = refl
  by option false e = no_first option rows e

put_name : (known : List Text) (name : Text) (parts : List Part) (rows : List Row) (o : Option (List Row)) → is_among (codes "names") known ≡ false
    → IsPut known parts (use_name name rows) o → IsPut known (named name ∷ parts) rows o
put_name known name parts rows None gone h = sym (fits_with_name known name rows (options_of parts) gone) ∙ h
put_name known name parts rows (Some after) gone h = (
  sym (fits_with_name known name rows (options_of parts) gone) ∙ h.0,
  record {
    names = h.1.names ∙ ap (λ names. names ++ names_of parts) (names_with_name name rows) ∙ append_assoc (names_in rows) (name ∷ []) (names_of parts);
    values = λ option k.
        let other = is_other known option (codes "names") k gone in
        h.1.values option k ∙ rw (has_with_name name option rows other, first_with_name name option rows other) refl;
  },
)

put_option : (known : List Text) (name value : Text) (parts : List Part) (rows : List Row) (o : Option (List Row)) → is_among (codes "names") known ≡ false
    → is_among name known ≡ true → has_row name rows ≡ false → IsPut known parts (use_option name value rows) o → IsPut known (given name value ∷ parts) rows o
put_option known name value parts rows None gone k new h =
    rw (k, new) (sym (fits_with_option known name value rows (options_of parts) new) ∙ h)
put_option known name value parts rows (Some after) gone k new h = (
  rw (k, new) (sym (fits_with_option known name value rows (options_of parts) new) ∙ h.0),
  record {
    names = h.1.names ∙ ap (λ o. unwrap_or o [] ++ names_of parts) (all_beside_option name value (codes "names") rows new (turned name (codes "names") ∙ is_other known name (codes "names") k gone));
    values = λ option o. h.1.values option o ∙ by option (bytes_eq name option) refl;
  },
) where
  by : (option : Text) (b : Bool) → bytes_eq name option ≡ b
      → cond (has_row option (use_option name value rows)) (first_of option (use_option name value rows)) (value_of option parts)
      ≡ cond (has_row option rows) (first_of option rows) (cond b (Some value) (value_of option parts))
  by option true e =
      let same : name ≡ option = equal_by name option e in
      let first : first_of option (use_option name value rows) ≡ Some value =
      ap (λ x. first_of x (use_option name value rows)) (sym same) ∙ first_all name (use_option name value rows) ∙ ap first_in (all_with_option name value rows new) in
      let before : has_row option rows ≡ false = ap (λ x. has_row x rows) (sym same) ∙ new in
      rw (has_with_option name value option rows new, e, first, before) refl
  by option false e =
      let first : first_of option (use_option name value rows) ≡ first_of option rows =
      first_all option (use_option name value rows) ∙ ap first_in (all_beside_option name value option rows new e) ∙ sym (first_all option rows) in
      rw (has_with_option name value option rows new, e, first) refl

put_refused : (known : List Text) (name value : Text) (parts : List Part) (rows : List Row) → (is_among name known && not (has_row name rows)) ≡ false
    → fits known rows (options_of (given name value ∷ parts)) ≡ false
put_refused known name value parts rows e = rw e refl

pub puts : (known : List Text) (parts : List Part) (rows : List Row) → is_among (codes "names") known ≡ false → IsPut known parts rows (put_all known parts rows)
puts known [] rows gone = (refl, put_nothing known rows)
puts known (named name ∷ parts) rows gone = put_name known name parts rows (put_all known parts (use_name name rows)) gone (puts known parts (use_name name rows) gone)
puts known (given name value ∷ parts) rows gone = by (is_among name known) (has_row name rows) refl refl (puts known parts (use_option name value rows) gone) where
  by : (b h : Bool) → is_among name known ≡ b → has_row name rows ≡ h → IsPut known parts (use_option name value rows) (put_all known parts (use_option name value rows))
      → IsPut known (given name value ∷ parts) rows (option_and_then (put_all known parts) (cond (b && not h) (Some (use_option name value rows)) None))
  by true false k new further = put_option known name value parts rows (put_all known parts (use_option name value rows)) gone k new further
  by true true k new further = put_refused known name value parts rows (rw (k, new) refl)
  by false h k new further = put_refused known name value parts rows (rw k refl)
