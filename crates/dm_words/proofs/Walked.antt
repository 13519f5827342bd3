-- What `clap` makes of the words, part by part: its walk takes the parts in order, each when the next one comes.
use Rattle.std.proofs.Common.{◌≡◌, ℕ, suc, ◌==◌, Bool, true, false, cond, ◌&&◌, not, List, [], ◌∷◌, map, length, codes, Option, Some, None, refl, sym, ap, subst, ◌∙◌, ◌<◌, slice_get, lit<, arith}
use Rattle.std.proofs.lemmas.Bool.{eqb-true}
use Rattle.std.proofs.lemmas.Str.{is_utf8-from_IsUtf8}
use Rattle.std.specs.Prelude.{encode_utf8_all}
use Rattle.std.specs.Char.{encode_utf8}
use lib.Utf8.{scalars}
use Rattle.std.proofs.lemmas.Slice.Eq.{bytes_eq-Decides}
use Rattle.std.specs.Option.{option_and_then}
use Rattle.std.specs.Str.{bytes_eq, chars, IsUtf8, is_utf8}
use Rattle.std.specs.List.{All, after_first}
use Rattle.clap.specs.Lexer.{long_of, short_of, name_and_value}
use Rattle.clap.specs.Kinds.{Kinds, or_else}
use Rattle.clap.specs.Walk.{Rule, Row, Held, Waiting, Walk, idle, positional, option, walked, settled, settled_rows, used, has_row, is_pending}
use Rattle.clap.specs.Faults.{turn_fault, settle_fault, use_fault, flags_fault}
use Rattle.clap.specs.declared.error.kind.ErrorKind.TheVariants as kind
use Rattle.dm_words.specs.Parts.{Text, Part, named, given, is_dashed, behind_dashes, has_value, before, option_name, option_parts, is_among, parts_of}
use Rattle.dm_words.proofs.Rules.{IsRules, names_built, option_built, shape_with}

-- ---- one part

abbrev pub use_name : Text → List Row → List Row
use_name name = used names_built (name ∷ [])

abbrev pub use_option : Text → Text → List Row → List Row
use_option name value = used (option_built name) (value ∷ [])

-- the rows with one more part; none where the part is an option that isn't known or has a row
abbrev pub put : List Text → Part → List Row → Option (List Row)
put known (named name) rows = Some (use_name name rows)
put known (given name value) rows = cond (is_among name known && not (has_row name rows)) (Some (use_option name value rows)) None

abbrev pub put_all : List Text → List Part → List Row → Option (List Row)
put_all known [] rows = Some rows
put_all known (part ∷ parts) rows = option_and_then (put_all known parts) (put known part rows)

-- the part that is met and not yet used
pub data Met : Type 0 where
  nothing : Met
  a_name : Text → Met
  an_option : Text → Text → Met

abbrev pub pending_of : Met → Option (Text × List Text)
pending_of nothing = None
pending_of (a_name name) = Some (codes "names", name ∷ [])
pending_of (an_option name value) = Some (name, value ∷ [])

abbrev pub held_with : Met → List Row → Held
held_with met rows = record { rows = rows; pending = pending_of met; skip = 0 }

abbrev pub settle : List Text → Met → List Row → Option (List Row)
settle known nothing rows = Some rows
settle known (a_name name) rows = put known (named name) rows
settle known (an_option name value) rows = put known (given name value) rows

abbrev pub IsKnown : List Text → Met → Type 0
IsKnown known nothing = Unit {0}
IsKnown known (a_name name) = Unit {0}
IsKnown known (an_option name value) = is_among name known ≡ true

-- ---- the walk, with its faults

abbrev pub is_clean : Kinds → Bool
is_clean [] = true
is_clean (k ∷ kinds) = false

abbrev pub outcome : List Rule → Walk → List Text → Option (List Row)
outcome c w [] = cond (is_clean (settle_fault c false w.held)) (Some (settled c w.held).rows) None
outcome c w (word ∷ words) = cond (is_clean (turn_fault (shape_with c) [] w word)) (outcome c (walked c [] w word) words) None

stepped : (c : List Rule) (w : Walk) (word : Text) (words : List Text) (fault : Kinds) (after : Walk) → turn_fault (shape_with c) [] w word ≡ fault → walked c [] w word ≡ after
    → outcome c w (word ∷ words) ≡ cond (is_clean fault) (outcome c after words) None
stepped c w word words fault after f a = ap (λ k. cond (is_clean k) (outcome c (walked c [] w word) words) None) f ∙ ap (λ v. cond (is_clean fault) (outcome c v words) None) a

refused : (c : List Rule) (w : Walk) (word : Text) (words : List Text) (fault : Kinds) → turn_fault (shape_with c) [] w word ≡ fault → is_clean fault ≡ false → outcome c w (word ∷ words) ≡ None
refused c w word words fault f some = ap (λ k. cond (is_clean k) (outcome c (walked c [] w word) words) None) f ∙ ap (λ b. cond b (outcome c (walked c [] w word) words) None) some

-- where nothing waits for a value
abbrev pub ready : Bool → Met → List Row → Walk
ready behind_name met rows = record { held = held_with met rows; waiting = cond behind_name positional idle; position = 1; is_trailing = false; stopped = None }

-- where an option waits
abbrev pub wanting : Text → List Row → Walk
wanting name rows = record { held = record { rows = rows; pending = Some (name, []); skip = 0 }; waiting = option name; position = 1; is_trailing = false; stopped = None }

-- behind `--`
abbrev trailing : Waiting → Option (Text × List Text) → List Row → Walk
trailing waiting pending rows = record { held = record { rows = rows; pending = pending; skip = 0 }; waiting = waiting; position = 1; is_trailing = true; stopped = None }

-- ---- settling

pub or_nothing : (kinds : Kinds) → or_else kinds [] ≡ kinds
or_nothing [] = refl
or_nothing (k ∷ kinds) = refl

pub no_and : (b : Bool) → (b && false) ≡ false
no_and true = refl
no_and false = refl

same_after : {A B : Type 0} (o : Option A) (f g : A → Option B) → ((x : A) → f x ≡ g x) → option_and_then f o ≡ option_and_then g o
same_after None f g e = refl
same_after (Some x) f g e = e x

settling : (known : List Text) (c : List Rule) (met : Met) (rows : List Row) (further : List Row → Option (List Row)) → IsRules known c → IsKnown known met
    → cond (is_clean (settle_fault c false (held_with met rows))) (further (settled_rows c (pending_of met) rows)) None ≡ option_and_then further (settle known met rows)
settling known c nothing rows further r k = refl
settling known c (a_name name) rows further r k = rw r.by_names refl
settling known c (an_option name value) rows further r k = rw (r.by_id name k, k) (by (has_row name rows)) where
  by : (b : Bool) → cond (is_clean (or_else (cond (b && true) (kind.ArgumentConflict ∷ []) []) [])) (further (use_option name value rows)) None ≡ option_and_then further (cond (not b) (Some (use_option name value rows)) None)
  by true = refl
  by false = refl

-- an option that still waits fails when it is settled
unsettled : (known : List Text) (c : List Rule) (name : Text) (rows : List Row) → IsRules known c → is_among name known ≡ true
    → is_clean (settle_fault c false (record { rows = rows; pending = Some (name, []); skip = 0 })) ≡ false
unsettled known c name rows r k = rw (r.by_id name k) refl

-- ---- what a word looks like

data Look (word : Text) : Type 0 where
  ends : bytes_eq word (codes "--") ≡ true → is_dashed word ≡ true → Look word
  long : (text : Text) → bytes_eq word (codes "--") ≡ false → is_dashed word ≡ true → behind_dashes word ≡ Some text → long_of word ≡ Some (name_and_value text) → Look word
  short : (flags : Text) → word ≡ 45 ∷ flags → 0 < length flags → bytes_eq word (codes "--") ≡ false → is_dashed word ≡ true → behind_dashes word ≡ None → long_of word ≡ None → short_of word ≡ Some flags → Look word
  plain : bytes_eq word (codes "--") ≡ false → is_dashed word ≡ false → long_of word ≡ None → short_of word ≡ None → Look word

look : (word : Text) → Look word
look [] = plain refl refl refl refl
look (x ∷ []) = by (x == 45) refl where
  by : (b : Bool) → (x == 45) ≡ b → Look (x ∷ [])
  by true e = plain (rw e refl) refl (rw e refl) (rw e refl)
  by false e = plain (rw e refl) refl (rw e refl) (rw e refl)
look (x ∷ y ∷ []) = by (x == 45) (y == 45) refl refl where
  by : (b d : Bool) → (x == 45) ≡ b → (y == 45) ≡ d → Look (x ∷ y ∷ [])
  by false d e f = plain (rw e refl) e (rw e refl) (rw e refl)
  by true true e f = ends (rw (e, f) refl) e
  by true false e f = short (y ∷ []) (ap (λ n. n ∷ y ∷ []) (eqb-true x 45 e)) (lit< tt) (rw (e, f) refl) e (rw (e, f) refl) (rw (e, f) refl) (rw (e, f) refl)
look (x ∷ y ∷ z ∷ zs) = by (x == 45) (y == 45) refl refl where
  by : (b d : Bool) → (x == 45) ≡ b → (y == 45) ≡ d → Look (x ∷ y ∷ z ∷ zs)
  by false d e f = plain (rw e refl) e (rw e refl) (rw e refl)
  by true true e f = long (z ∷ zs) (rw (e, f) refl) e (rw (e, f) refl) (rw (e, f) refl)
  by true false e f = short (y ∷ z ∷ zs) (ap (λ n. n ∷ y ∷ z ∷ zs) (eqb-true x 45 e)) (omega arith) (rw (e, f) refl) e (rw (e, f) refl) (rw (e, f) refl) (rw (e, f) refl)

-- ---- words behind which nothing waits

ends_ready : (known : List Text) (c : List Rule) (behind_name : Bool) (met : Met) (rows : List Row) (word : Text) (words : List Text) → bytes_eq word (codes "--") ≡ true
    → outcome c (ready behind_name met rows) (word ∷ words) ≡ outcome c (trailing (cond behind_name positional idle) (pending_of met) rows) words
unfolding walked
ends_ready known c true met rows word words e = stepped c (ready true met rows) word words [] (trailing positional (pending_of met) rows) (rw e refl) (rw e refl)
ends_ready known c false met rows word words e = stepped c (ready false met rows) word words [] (trailing idle (pending_of met) rows) (rw e refl) (rw e refl)

abbrev settles : List Rule → Met → List Row → Bool
settles c met rows = is_clean (settle_fault c false (held_with met rows))

plain_ready : (known : List Text) (c : List Rule) (behind_name : Bool) (met : Met) (rows : List Row) (word : Text) (words : List Text) → IsRules known c
    → bytes_eq word (codes "--") ≡ false → long_of word ≡ None → short_of word ≡ None
    → outcome c (ready behind_name met rows) (word ∷ words) ≡ cond (settles c met rows) (outcome c (ready true (a_name word) (settled_rows c (pending_of met) rows)) words) None
unfolding walked
plain_ready known c true met rows word words r e l s =
    stepped c (ready true met rows) word words (settle_fault c false (held_with met rows)) (ready true (a_name word) (settled_rows c (pending_of met) rows))
    (rw (e, l, s, r.by_index, no_and (is_pending names_built (pending_of met))) refl) (rw (e, l, s, r.by_index, no_and (is_pending names_built (pending_of met))) refl)
plain_ready known c false met rows word words r e l s =
    stepped c (ready false met rows) word words (settle_fault c false (held_with met rows)) (ready true (a_name word) (settled_rows c (pending_of met) rows))
    (rw (e, l, s, r.by_index, no_and (is_pending names_built (pending_of met))) refl) (rw (e, l, s, r.by_index, no_and (is_pending names_built (pending_of met))) refl)

either : (a b : Kinds) (further : Option (List Row)) → cond (is_clean (or_else (or_else a b) [])) further None ≡ cond (is_clean a) (cond (is_clean b) further None) None
either [] [] further = refl
either [] (k ∷ ks) further = refl
either (k ∷ ks) b further = refl

once : (b : Bool) → is_clean (or_else (cond (b && true) (kind.ArgumentConflict ∷ []) []) []) ≡ not b
once true = refl
once false = refl

-- an option that is known, with its value behind `=`
valued_ready : (known : List Text) (c : List Rule) (behind_name : Bool) (met : Met) (rows : List Row) (word name value : Text) (words : List Text) → IsRules known c
    → bytes_eq word (codes "--") ≡ false → long_of word ≡ Some (name, Some value) → is_among name known ≡ true
    → outcome c (ready behind_name met rows) (word ∷ words) ≡ cond (settles c met rows) (cond (not (has_row name (settled_rows c (pending_of met) rows)))
    (outcome c (ready false nothing (use_option name value (settled_rows c (pending_of met) rows))) words) None) None
unfolding walked
valued_ready known c true met rows word name value words r e l k =
    stepped c (ready true met rows) word words (or_else (or_else (settle_fault c false (held_with met rows)) (use_fault false (option_built name) (value ∷ []) (settled_rows c (pending_of met) rows))) [])
    (ready false nothing (use_option name value (settled_rows c (pending_of met) rows))) (rw (e, l, r.long_known name k) refl) (rw (e, l, r.long_known name k) refl)
    ∙ either (settle_fault c false (held_with met rows)) (use_fault false (option_built name) (value ∷ []) (settled_rows c (pending_of met) rows)) (outcome c (ready false nothing (use_option name value (settled_rows c (pending_of met) rows))) words) ∙ ap (λ b. cond (settles c met rows) (cond b (outcome c (ready false nothing (use_option name value (settled_rows c (pending_of met) rows))) words) None) None) (once (has_row name (settled_rows c (pending_of met) rows)))
valued_ready known c false met rows word name value words r e l k =
    stepped c (ready false met rows) word words (or_else (or_else (settle_fault c false (held_with met rows)) (use_fault false (option_built name) (value ∷ []) (settled_rows c (pending_of met) rows))) [])
    (ready false nothing (use_option name value (settled_rows c (pending_of met) rows))) (rw (e, l, r.long_known name k) refl) (rw (e, l, r.long_known name k) refl)
    ∙ either (settle_fault c false (held_with met rows)) (use_fault false (option_built name) (value ∷ []) (settled_rows c (pending_of met) rows)) (outcome c (ready false nothing (use_option name value (settled_rows c (pending_of met) rows))) words) ∙ ap (λ b. cond (settles c met rows) (cond b (outcome c (ready false nothing (use_option name value (settled_rows c (pending_of met) rows))) words) None) None) (once (has_row name (settled_rows c (pending_of met) rows)))

-- and without one
bare_ready : (known : List Text) (c : List Rule) (behind_name : Bool) (met : Met) (rows : List Row) (word name : Text) (words : List Text) → IsRules known c
    → bytes_eq word (codes "--") ≡ false → long_of word ≡ Some (name, None) → is_among name known ≡ true
    → outcome c (ready behind_name met rows) (word ∷ words) ≡ cond (settles c met rows) (outcome c (wanting name (settled_rows c (pending_of met) rows)) words) None
unfolding walked
bare_ready known c true met rows word name words r e l k =
    stepped c (ready true met rows) word words (settle_fault c false (held_with met rows)) (wanting name (settled_rows c (pending_of met) rows))
    (rw (e, l, r.long_known name k) (or_nothing (settle_fault c false (held_with met rows)))) (rw (e, l, r.long_known name k) refl)
bare_ready known c false met rows word name words r e l k =
    stepped c (ready false met rows) word words (settle_fault c false (held_with met rows)) (wanting name (settled_rows c (pending_of met) rows))
    (rw (e, l, r.long_known name k) (or_nothing (settle_fault c false (held_with met rows)))) (rw (e, l, r.long_known name k) refl)

unknown_ready : (known : List Text) (c : List Rule) (behind_name : Bool) (met : Met) (rows : List Row) (word name : Text) (value : Option Text) (words : List Text) → IsRules known c
    → bytes_eq word (codes "--") ≡ false → long_of word ≡ Some (name, value) → is_among name known ≡ false
    → outcome c (ready behind_name met rows) (word ∷ words) ≡ None
unknown_ready known c true met rows word name value words r e l k = refused c (ready true met rows) word words (kind.UnknownArgument ∷ []) (rw (e, l, r.long_unknown name k) refl) refl
unknown_ready known c false met rows word name value words r e l k = refused c (ready false met rows) word words (kind.UnknownArgument ∷ []) (rw (e, l, r.long_unknown name k) refl) refl

-- a character stands at the front of what follows a dash
has_front : (flags : Text) → 0 < length flags → IsUtf8 (45 ∷ flags) → (x : ℕ) × (slice_get (chars flags) 0 ≡ Some x)
unfolding chars is_utf8 encode_utf8
has_front [] some text = absurd (omega arith)
has_front (f ∷ flags) some text = by (chars (f ∷ flags)) (is_utf8-from_IsUtf8 (45 ∷ f ∷ flags) text) where
  by : (cs : List ℕ) → (scalars (45 ∷ cs) && bytes_eq (encode_utf8_all (45 ∷ cs)) (45 ∷ f ∷ flags)) ≡ true → (x : ℕ) × (slice_get cs 0 ≡ Some x)
  by [] h = cc
  by (x ∷ cs) h = (x, refl)

flags_refused : (known : List Text) (c : List Rule) (flags : Text) (rows : Held) → IsRules known c → 0 < length flags → IsUtf8 (45 ∷ flags) → flags_fault c false (length flags) flags 0 rows ≡ kind.UnknownArgument ∷ []
unfolding flags_fault
flags_refused known c [] held r some text = absurd (omega arith)
flags_refused known c (f ∷ flags) held r some text = let front = has_front (f ∷ flags) some text in rw (front.1, r.no_short front.0) refl

short_ready : (known : List Text) (c : List Rule) (behind_name : Bool) (met : Met) (rows : List Row) (word flags : Text) (words : List Text) → IsRules known c → IsUtf8 word
    → word ≡ 45 ∷ flags → 0 < length flags → bytes_eq word (codes "--") ≡ false → long_of word ≡ None → short_of word ≡ Some flags
    → outcome c (ready behind_name met rows) (word ∷ words) ≡ None
short_ready known c true met rows word flags words r text is some e l s =
    refused c (ready true met rows) word words (kind.UnknownArgument ∷ []) (rw (e, l, s, flags_refused known c flags (held_with met rows) r some (subst IsUtf8 is text)) refl) refl
short_ready known c false met rows word flags words r text is some e l s =
    refused c (ready false met rows) word words (kind.UnknownArgument ∷ []) (rw (e, l, s, flags_refused known c flags (held_with met rows) r some (subst IsUtf8 is text)) refl) refl

-- ---- words behind an option that waits for its value

plain_wanting : (known : List Text) (c : List Rule) (name : Text) (rows : List Row) (word : Text) (words : List Text) → IsRules known c → is_among name known ≡ true
    → bytes_eq word (codes "--") ≡ false → long_of word ≡ None → short_of word ≡ None
    → outcome c (wanting name rows) (word ∷ words) ≡ outcome c (ready false (an_option name word) rows) words
unfolding walked
plain_wanting known c name rows word words r k e l s =
    stepped c (wanting name rows) word words [] (ready false (an_option name word) rows) (rw (e, l, s) refl) (rw (e, l, s, r.by_id name k, (bytes_eq-Decides name name).1 refl) refl)

long_wanting : (known : List Text) (c : List Rule) (name other : Text) (rows : List Row) (word : Text) (value : Option Text) (words : List Text) (t : Bool) → IsRules known c → is_among name known ≡ true
    → bytes_eq word (codes "--") ≡ false → long_of word ≡ Some (other, value) → is_among other known ≡ t → outcome c (wanting name rows) (word ∷ words) ≡ None
long_wanting known c name other rows word value words false r k e l t = refused c (wanting name rows) word words (kind.UnknownArgument ∷ []) (rw (e, l, r.long_unknown other t) refl) refl
long_wanting known c name other rows word None words true r k e l t = refused c (wanting name rows) word words (kind.InvalidValue ∷ []) (rw (e, l, r.long_known other t, r.by_id name k) refl) refl
long_wanting known c name other rows word (Some value) words true r k e l t = refused c (wanting name rows) word words (kind.InvalidValue ∷ []) (rw (e, l, r.long_known other t, r.by_id name k) refl) refl

short_wanting : (known : List Text) (c : List Rule) (name : Text) (rows : List Row) (word flags : Text) (words : List Text) → IsRules known c → IsUtf8 word
    → word ≡ 45 ∷ flags → 0 < length flags → bytes_eq word (codes "--") ≡ false → long_of word ≡ None → short_of word ≡ Some flags
    → outcome c (wanting name rows) (word ∷ words) ≡ None
short_wanting known c name rows word flags words r text is some e l s =
    refused c (wanting name rows) word words (kind.UnknownArgument ∷ [])
    (rw (e, l, s, flags_refused known c flags (record { rows = rows; pending = Some (name, []); skip = 0 }) r some (subst IsUtf8 is text)) refl) refl

-- ---- words behind `--`

one_trailing : (known : List Text) (c : List Rule) (waiting : Waiting) (met : Met) (rows : List Row) (word : Text) (words : List Text) → IsRules known c
    → outcome c (trailing waiting (pending_of met) rows) (word ∷ words) ≡ cond (settles c met rows) (outcome c (trailing positional (pending_of (a_name word)) (settled_rows c (pending_of met) rows)) words) None
unfolding walked
one_trailing known c waiting met rows word words r =
    stepped c (trailing waiting (pending_of met) rows) word words (settle_fault c false (held_with met rows)) (trailing positional (pending_of (a_name word)) (settled_rows c (pending_of met) rows))
    (rw (r.by_index, no_and (is_pending names_built (pending_of met))) refl) (rw (r.by_index, no_and (is_pending names_built (pending_of met))) refl)

-- an option that waits there has no value
unsettled_trailing : (known : List Text) (c : List Rule) (name : Text) (rows : List Row) (words : List Text) → IsRules known c → is_among name known ≡ true
    → outcome c (trailing (option name) (Some (name, [])) rows) words ≡ None
unsettled_trailing known c name rows [] r k = rw (r.by_id name k) refl
unsettled_trailing known c name rows (word ∷ words) r k = refused c (trailing (option name) (Some (name, [])) rows) word words (kind.InvalidValue ∷ []) (rw (r.by_index, r.by_id name k, no_and (bytes_eq name (codes "names"))) refl) refl

ends_wanting : (known : List Text) (c : List Rule) (name : Text) (rows : List Row) (word : Text) (words : List Text) → IsRules known c → is_among name known ≡ true
    → bytes_eq word (codes "--") ≡ true → outcome c (wanting name rows) (word ∷ words) ≡ None
unfolding walked
ends_wanting known c name rows word words r k e = stepped c (wanting name rows) word words [] (trailing (option name) (Some (name, [])) rows) (rw e refl) (rw e refl) ∙ unsettled_trailing known c name rows words r k

-- ---- all words

nothing_after : {A B : Type 0} (o : Option A) → option_and_then (λ x. let none : Option B = None in none) o ≡ None
nothing_after None = refl
nothing_after (Some x) = refl

abbrev pub put_each : List Text → Option (List Part) → List Row → Option (List Row)
put_each known parts rows = option_and_then (λ ps. put_all known ps rows) parts

before_put : (known : List Text) (part : Part) (parts : Option (List Part)) (rows : List Row) → put_each known (before part parts) rows ≡ option_and_then (put_each known parts) (put known part rows)
before_put known part None rows = sym (nothing_after (put known part rows))
before_put known part (Some ps) rows = refl

all_rest : (word : Text) (words : List Text) → All IsUtf8 (word ∷ words) → All IsUtf8 words
all_rest word words h = λ k d lt. h (suc k) d (omega arith)

trails : (known : List Text) (c : List Rule) (waiting : Waiting) (met : Met) (rows : List Row) (words : List Text) → IsRules known c → IsKnown known met
    → outcome c (trailing waiting (pending_of met) rows) words ≡ option_and_then (put_all known (map named words)) (settle known met rows)
trails known c waiting met rows [] r k = settling known c met rows (λ rs. Some rs) r k
trails known c waiting met rows (word ∷ words) r k =
    one_trailing known c waiting met rows word words r ∙ settling known c met rows (λ rs. outcome c (trailing positional (pending_of (a_name word)) rs) words) r k
    ∙ same_after (settle known met rows) (λ rs. outcome c (trailing positional (pending_of (a_name word)) rs) words) (put_all known (named word ∷ map named words)) (λ rs. trails known c positional (a_name word) rs words r tt)

unknown_waits : (known : List Text) (name : Text) (words : List Text) (rows : List Row) → is_among name known ≡ false → put_each known (parts_of (Some name) words) rows ≡ None
unknown_waits known name [] rows u = refl
unknown_waits known name (word ∷ words) rows u = by (is_dashed word) where
  by : (b : Bool) → put_each known (cond b None (before (given name word) (parts_of None words))) rows ≡ None
  by true = refl
  by false = before_put known (given name word) (parts_of None words) rows ∙ rw u refl

abbrev pub FromReady : List Text → List Rule → List Text → Type 0
FromReady known c words = (behind_name : Bool) (met : Met) (rows : List Row) → IsKnown known met → outcome c (ready behind_name met rows) words ≡ option_and_then (put_each known (parts_of None words)) (settle known met rows)

abbrev pub FromWanting : List Text → List Rule → List Text → Type 0
FromWanting known c words = (name : Text) (rows : List Row) → is_among name known ≡ true → outcome c (wanting name rows) words ≡ put_each known (parts_of (Some name) words) rows

put_given : (known : List Text) (name value : Text) (parts : Option (List Part)) (rows : List Row) → is_among name known ≡ true
    → cond (not (has_row name rows)) (put_each known parts (use_option name value rows)) None ≡ put_each known (before (given name value) parts) rows
put_given known name value parts rows k = by (has_row name rows) ∙ ap (λ b. option_and_then (put_each known parts) (cond (b && not (has_row name rows)) (Some (use_option name value rows)) None)) (sym k) ∙ sym (before_put known (given name value) parts rows) where
  by : (b : Bool) → cond (not b) (put_each known parts (use_option name value rows)) None ≡ option_and_then (put_each known parts) (cond (not b) (Some (use_option name value rows)) None)
  by true = refl
  by false = refl

abbrev Ready : List Text → List Rule → Bool → Met → List Row → Text → List Text → Option (List Part) → Type 0
Ready known c behind_name met rows word words parts = outcome c (ready behind_name met rows) (word ∷ words) ≡ option_and_then (put_each known parts) (settle known met rows)

-- an option that is known or isn't, with its value behind `=` and without one
ready_valued : (known : List Text) (c : List Rule) (behind_name : Bool) (met : Met) (rows : List Row) (word name value : Text) (words : List Text) (t : Bool) → IsRules known c → IsKnown known met
    → bytes_eq word (codes "--") ≡ false → long_of word ≡ Some (name, Some value) → is_among name known ≡ t → FromReady known c words
    → Ready known c behind_name met rows word words (before (given name value) (parts_of None words))
ready_valued known c behind_name met rows word name value words true r k e l t further =
    valued_ready known c behind_name met rows word name value words r e l t
    ∙ settling known c met rows (λ rs. cond (not (has_row name rs)) (outcome c (ready false nothing (use_option name value rs)) words) None) r k
    ∙ same_after (settle known met rows) _ (put_each known (before (given name value) (parts_of None words)))
    (λ rs. ap (λ o. cond (not (has_row name rs)) o None) (further false nothing (use_option name value rs) tt) ∙ put_given known name value (parts_of None words) rs t)
ready_valued known c behind_name met rows word name value words false r k e l t further =
    unknown_ready known c behind_name met rows word name (Some value) words r e l t
    ∙ sym (same_after (settle known met rows) (put_each known (before (given name value) (parts_of None words))) (λ rs. None) (λ rs. before_put known (given name value) (parts_of None words) rs ∙ rw t refl)
    ∙ nothing_after (settle known met rows))

ready_bare : (known : List Text) (c : List Rule) (behind_name : Bool) (met : Met) (rows : List Row) (word name : Text) (words : List Text) (t : Bool) → IsRules known c → IsKnown known met
    → bytes_eq word (codes "--") ≡ false → long_of word ≡ Some (name, None) → is_among name known ≡ t → FromWanting known c words
    → Ready known c behind_name met rows word words (parts_of (Some name) words)
ready_bare known c behind_name met rows word name words true r k e l t further =
    bare_ready known c behind_name met rows word name words r e l t
    ∙ settling known c met rows (λ rs. outcome c (wanting name rs) words) r k
    ∙ same_after (settle known met rows) (λ rs. outcome c (wanting name rs) words) (put_each known (parts_of (Some name) words)) (λ rs. further name rs t)
ready_bare known c behind_name met rows word name words false r k e l t further =
    unknown_ready known c behind_name met rows word name None words r e l t
    ∙ sym (same_after (settle known met rows) (put_each known (parts_of (Some name) words)) (λ rs. None) (λ rs. unknown_waits known name words rs t) ∙ nothing_after (settle known met rows))

ready_long : (known : List Text) (c : List Rule) (behind_name : Bool) (met : Met) (rows : List Row) (word text : Text) (words : List Text) (t : Bool) → IsRules known c → IsKnown known met
    → bytes_eq word (codes "--") ≡ false → long_of word ≡ Some (name_and_value text) → has_value text ≡ t → FromReady known c words → FromWanting known c words
    → Ready known c behind_name met rows word words (option_parts text (λ waiting. parts_of waiting words))
ready_long known c behind_name met rows word text words true r k e l v further waits =
    rw v (ready_valued known c behind_name met rows word (option_name text) (after_first (λ byte. byte == 61) text) words (is_among (option_name text) known) r k e (rw v at l) refl further)
ready_long known c behind_name met rows word text words false r k e l v further waits =
    rw v (ready_bare known c behind_name met rows word (option_name text) words (is_among (option_name text) known) r k e (rw v at l) refl waits)

ready_word : (known : List Text) (c : List Rule) (behind_name : Bool) (met : Met) (rows : List Row) (word : Text) (words : List Text) → IsRules known c → IsKnown known met → IsUtf8 word
    → FromReady known c words → FromWanting known c words → Look word → Ready known c behind_name met rows word words (parts_of None (word ∷ words))
ready_word known c behind_name met rows word words r k u further waits (ends e d) =
    rw e (ends_ready known c behind_name met rows word words e ∙ trails known c (cond behind_name positional idle) met rows words r k)
ready_word known c behind_name met rows word words r k u further waits (long text e d b l) = rw (e, d, b) (ready_long known c behind_name met rows word text words (has_value text) r k e l refl further waits)
ready_word known c behind_name met rows word words r k u further waits (short flags is some e d b l s) =
    rw (e, d, b) (short_ready known c behind_name met rows word flags words r u is some e l s ∙ sym (nothing_after (settle known met rows)))
ready_word known c behind_name met rows word words r k u further waits (plain e d l s) =
    rw (e, d) (plain_ready known c behind_name met rows word words r e l s
    ∙ settling known c met rows (λ rs. outcome c (ready true (a_name word) rs) words) r k
    ∙ same_after (settle known met rows) (λ rs. outcome c (ready true (a_name word) rs) words) (put_each known (before (named word) (parts_of None words)))
    (λ rs. further true (a_name word) rs tt ∙ sym (before_put known (named word) (parts_of None words) rs)))

wanting_word : (known : List Text) (c : List Rule) (name : Text) (rows : List Row) (word : Text) (words : List Text) → IsRules known c → is_among name known ≡ true → IsUtf8 word
    → FromReady known c words → Look word → outcome c (wanting name rows) (word ∷ words) ≡ put_each known (parts_of (Some name) (word ∷ words)) rows
wanting_word known c name rows word words r k u further (ends e d) = rw d (ends_wanting known c name rows word words r k e)
wanting_word known c name rows word words r k u further (long text e d b l) =
    rw d (long_wanting known c name (option_name text) rows word _ words (is_among (option_name text) known) r k e l refl)
wanting_word known c name rows word words r k u further (short flags is some e d b l s) = rw d (short_wanting known c name rows word flags words r u is some e l s)
wanting_word known c name rows word words r k u further (plain e d l s) =
    rw d (plain_wanting known c name rows word words r k e l s ∙ further false (an_option name word) rows k ∙ sym (before_put known (given name word) (parts_of None words) rows))

pub walks : (known : List Text) (c : List Rule) (words : List Text) → IsRules known c → All IsUtf8 words → FromReady known c words × FromWanting known c words
walks known c [] r u = (
  (λ behind_name met rows k. settling known c met rows (λ rs. Some rs) r k),
  (λ name rows k. ap (λ b. cond b (Some (settled_rows c (Some (name, [])) rows)) None) (unsettled known c name rows r k)),
)
walks known c (word ∷ words) r u =
    let further = walks known c words r (all_rest word words u) in
    let text : IsUtf8 word = u 0 word (omega arith) in (
      (λ behind_name met rows k. ready_word known c behind_name met rows word words r k text further.0 further.1 (look word)),
      (λ name rows k. wanting_word known c name rows word words r k text further.0 (look word)),
    )
