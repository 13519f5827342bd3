-- Where `clap` finds no fault in the words, and which rows it answers.
use Rattle.std.proofs.Common.{◌≡◌, Bool, true, false, cond, ◌&&◌, ◌||◌, not, List, [], ◌∷◌, map, fold, drop, Option, Some, None, codes, refl, ap, ◌∙◌}
use Rattle.std.specs.List.{All, list_any}
use Rattle.std.specs.Str.{IsUtf8}
use Rattle.clap.specs.Kinds.{Kinds, or_else}
use Rattle.clap.specs.Walk.{Rule, Row, Walk, Text, walked, walk_from, settled, nothing_held, has_row, with_default, finished, rows_after}
use Rattle.clap.specs.Simple.{argument_words, built, matches_of, names_of}
use Rattle.clap.specs.Takes.{is_given}
use Rattle.clap.specs.Faults.{turn_fault, settle_fault, walk_fault, default_fault, defaults_fault, check_fault, built_fault, fault_of}
use Rattle.clap.proofs.FaultLemmas.{leaf_fault}
use Rattle.dm_words.specs.Parts.{is_among, parts_of}
use Rattle.dm_words.specs.Commands.{app_with}
use Rattle.dm_words.proofs.Rules.{names_built, option_built, rules_with, rules_are, shape_with, built_with, takes_all_words}
use Rattle.dm_words.proofs.Walked.{nothing, is_clean, outcome, or_nothing, put_each, walks}

-- the rows where there is no fault, and none where there is one
abbrev pub IsTold : Kinds → List Row → Option (List Row) → Type 0
IsTold kinds rows None = is_clean kinds ≡ false
IsTold kinds rows (Some after) = (is_clean kinds ≡ true) × (rows ≡ after)

told_at_end : (kinds : Kinds) (rows : List Row) → IsTold kinds rows (cond (is_clean kinds) (Some rows) None)
told_at_end [] rows = (refl, refl)
told_at_end (k ∷ kinds) rows = refl

told_before : (turn further end : Kinds) (rows : List Row) (o : Option (List Row)) → IsTold (or_else further end) rows o → IsTold (or_else (or_else turn further) end) rows (cond (is_clean turn) o None)
told_before [] further end rows o told = told
told_before (k ∷ kinds) further end rows o told = refl

abbrev end_of : List Rule → Walk → List Text → Walk
end_of c w words = fold (walked c []) w words

walk_told : (c : List Rule) (w : Walk) (words : List Text)
    → IsTold (or_else (walk_fault (shape_with c) [] w words) (settle_fault c false (end_of c w words).held)) (settled c (end_of c w words).held).rows (outcome c w words)
unfolding walk_fault
walk_told c w [] = told_at_end (settle_fault c false w.held) (settled c w.held).rows
walk_told c w (word ∷ words) = told_before (turn_fault (shape_with c) [] w word) (walk_fault (shape_with c) [] (walked c [] w word) words) (settle_fault c false (end_of c w (word ∷ words)).held) _ (outcome c (walked c [] w word) words)
    (walk_told c (walked c [] w word) words)

-- ---- defaults and checks, of which there are none

or_true : (b : Bool) → (b || true) ≡ true
or_true true = refl
or_true false = refl

either_way : (b : Bool) (rows : List Row) → cond b rows rows ≡ rows
either_way true rows = refl
either_way false rows = refl

without_default : (a : Rule) (rows : List Row) → a.defaults ≡ [] → (default_fault rows a ≡ []) × (with_default rows a ≡ rows)
without_default a rows e = (rw (e, or_true (has_row a.id rows)) refl, rw e (either_way (has_row a.id rows) rows))

no_default_faults : (rows : List Row) (known : List Text) → defaults_fault rows (map option_built known) ≡ []
unfolding defaults_fault
no_default_faults rows [] = refl
no_default_faults rows (option ∷ known) =
    let none = without_default (option_built option) rows refl in
    rw (none.0, none.1) (no_default_faults rows known)

no_defaults : (rows : List Row) (known : List Text) → fold with_default rows (map option_built known) ≡ rows
no_defaults rows [] = refl
no_defaults rows (option ∷ known) = ap (λ rs. fold with_default rs (map option_built known)) (without_default (option_built option) rows refl).1 ∙ no_defaults rows known

none_required : (rows : List Row) (known : List Text) → list_any (λ a. a.required && not (is_given a.id rows)) (map option_built known) ≡ false
none_required rows [] = refl
none_required rows (option ∷ known) = none_required rows known

no_checks : (rows : List Row) (known : List Text) → check_fault (shape_with (rules_with known)) rows false ≡ []
no_checks rows known = rw (none_required rows known) refl

all_default_faults : (rows : List Row) (known : List Text) → defaults_fault rows (rules_with known) ≡ []
unfolding defaults_fault
all_default_faults rows known =
    let none = without_default names_built rows refl in
    rw (none.0, none.1) (no_default_faults rows known)

all_defaults : (rows : List Row) (known : List Text) → fold with_default rows (rules_with known) ≡ rows
all_defaults rows known = ap (λ rs. fold with_default rs (map option_built known)) (without_default names_built rows refl).1 ∙ no_defaults rows known

-- ---- the parse

argument_words_are : (known : List Text) (words : List Text) → argument_words (app_with known) words ≡ words
argument_words_are known words = ap (λ b. cond b words (drop 1 words)) (takes_all_words known)

abbrev last_of : List Text → List Text → Walk
last_of known words = end_of (rules_with known) (walk_from nothing_held) words

-- without defaults and checks
level_is : (walk settle defaults checks : Kinds) → defaults ≡ [] → checks ≡ [] → or_else walk (or_else [] (or_else settle (or_else defaults checks))) ≡ or_else walk settle
level_is walk settle defaults checks d c = rw (d, c) (ap (or_else walk) (or_nothing settle))

fault_is : (known words : List Text) → fault_of (app_with known) words
    ≡ or_else (walk_fault (shape_with (rules_with known)) [] (walk_from nothing_held) words) (settle_fault (rules_with known) false (last_of known words).held)
fault_is known words =
    ap (built_fault (built (app_with known)) nothing_held) (argument_words_are known words)
    ∙ ap (λ a. built_fault a nothing_held words) (built_with known)
    ∙ leaf_fault (record { top = shape_with (rules_with known); subs = [] }) nothing_held words refl
    ∙ level_is (walk_fault (shape_with (rules_with known)) [] (walk_from nothing_held) words) (settle_fault (rules_with known) false (last_of known words).held)
    (defaults_fault (settled (rules_with known) (last_of known words).held).rows (rules_with known))
    (check_fault (shape_with (rules_with known)) (finished (rules_with known) (last_of known words).held) false)
    (all_default_faults (settled (rules_with known) (last_of known words).held).rows known) (no_checks (finished (rules_with known) (last_of known words).held) known)

rows_are : (known words : List Text) → matches_of (app_with known) words ≡ (settled (rules_with known) (last_of known words).held).rows
rows_are known words =
    ap (rows_after (built (app_with known)).top.rules (names_of (built (app_with known)))) (argument_words_are known words)
    ∙ ap (λ a. rows_after a.top.rules (names_of a) words) (built_with known)
    ∙ all_defaults (settled (rules_with known) (last_of known words).held).rows known

pub parse_told : (known words : List Text) → is_among (codes "names") known ≡ false → All IsUtf8 words
    → IsTold (fault_of (app_with known) words) (matches_of (app_with known) words) (put_each known (parts_of None words) [])
parse_told known words gone text =
    let told = walk_told (rules_with known) (walk_from nothing_held) words in
    let is = (walks known (rules_with known) words (rules_are known gone) text).0 false nothing [] tt in
    rw (fault_is known words, rows_are known words, ← is) told
