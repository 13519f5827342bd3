-- The names that an order holds are text.
use Rattle.std.proofs.Common.{◌≡◌, ℕ, zero, suc, ◌==◌, arith, Bool, true, false, cond, List, [], ◌∷◌, map, Option, Some, None, Result, Ok, Err, ok_or, codes, refl, ap, subst}
use Rattle.std.specs.Option.{option_and_then}
use Rattle.std.specs.List.{All, after_first}
use Rattle.std.specs.Str.{IsUtf8, bytes_eq}
use Rattle.std.specs.Result.{IfOk}
use Rattle.dm_list.specs.Answer.{Answers}
use Rattle.dm_words.specs.declared.order.Order.{Order}
use Rattle.dm_words.specs.declared.order.Order.TheVariants.{Load, Run, Show, Gen}
use Rattle.dm_words.specs.declared.order.WordFault.{WordFault}
use Rattle.dm_words.specs.declared.order.WordFault.TheVariants.{Usage}
use Rattle.dm_words.specs.Parts.{Text, Part, named, given, is_dashed, behind_dashes, has_value, option_name, option_parts, before, parts_of, names_of, options_of, are_options, read_parts}
use Rattle.dm_words.specs.Words.{only_name, number_in, number_of, run_order, gen_order, load_of, check_task_of, run_of, show_of, gen_of, files_of, is_memory}

abbrev pub AreTexts : List Text → Type 0
AreTexts = All IsUtf8

no_texts : AreTexts []
no_texts k d lt = absurd (omega arith)

more_texts : (text : Text) (texts : List Text) → IsUtf8 text → AreTexts texts → AreTexts (text ∷ texts)
more_texts text texts h further zero d lt = h
more_texts text texts h further (suc k) d lt = further k d (omega arith)

first_text : (text : Text) (texts : List Text) → AreTexts (text ∷ texts) → IsUtf8 text
first_text text texts all = all 0 text (omega arith)

other_texts : (text : Text) (texts : List Text) → AreTexts (text ∷ texts) → AreTexts texts
other_texts text texts all = λ k d lt. all (suc k) d (omega arith)

-- ---- parts

abbrev NameTexts : Option (List Part) → Type 0
NameTexts None = Unit {0}
NameTexts (Some parts) = AreTexts (names_of parts)

name_before : (name : Text) (o : Option (List Part)) → IsUtf8 name → NameTexts o → NameTexts (before (named name) o)
name_before name None h further = tt
name_before name (Some parts) h further = more_texts name (names_of parts) h further

option_before : (option value : Text) (o : Option (List Part)) → NameTexts o → NameTexts (before (given option value) o)
option_before option value None further = tt
option_before option value (Some parts) further = further

all_names : (words : List Text) → names_of (map named words) ≡ words
all_names [] = refl
all_names (word ∷ words) = ap (λ names. word ∷ names) (all_names words)

abbrev Further : List Text → Type 0
Further words = (waiting : Option Text) → NameTexts (parts_of waiting words)

long_texts : (text : Text) (words : List Text) (t : Bool) → Further words
    → NameTexts (cond t (before (given (option_name text) (after_first (λ byte. byte == 61) text)) (parts_of None words)) (parts_of (Some (option_name text)) words))
long_texts text words true further = option_before _ _ (parts_of None words) (further None)
long_texts text words false further = further (Some (option_name text))

dashed_texts : (words : List Text) (o : Option Text) → Further words → NameTexts (option_and_then (λ text. option_parts text (λ waiting. parts_of waiting words)) o)
dashed_texts words None further = tt
dashed_texts words (Some text) further = long_texts text words (has_value text) further

word_texts : (word : Text) (words : List Text) (ends dashed : Bool) → AreTexts (word ∷ words) → Further words
    → NameTexts (cond ends (Some (map named words)) (cond dashed (option_and_then (λ text. option_parts text (λ waiting. parts_of waiting words)) (behind_dashes word)) (before (named word) (parts_of None words))))
word_texts word words true dashed all further = rw (all_names words) (other_texts word words all)
word_texts word words false true all further = dashed_texts words (behind_dashes word) further
word_texts word words false false all further = name_before word (parts_of None words) (first_text word words all) (further None)

waiting_texts : (option word : Text) (words : List Text) (dashed : Bool) → Further words → NameTexts (cond dashed None (before (given option word) (parts_of None words)))
waiting_texts option word words true further = tt
waiting_texts option word words false further = option_before option word (parts_of None words) (further None)

part_texts : (words : List Text) → AreTexts words → Further words
part_texts [] all None = no_texts
part_texts [] all (Some option) = tt
part_texts (word ∷ words) all None = word_texts word words (bytes_eq word (codes "--")) (is_dashed word) all (part_texts words (other_texts word words all))
part_texts (word ∷ words) all (Some option) = waiting_texts option word words (is_dashed word) (part_texts words (other_texts word words all))

read_texts : (known words : List Text) → AreTexts words → NameTexts (read_parts known words)
read_texts known words all = by (parts_of None words) (part_texts words all None) where
  fit : (parts : List Part) (t : Bool) → AreTexts (names_of parts) → NameTexts (cond t (Some parts) None)
  fit parts true h = h
  fit parts false h = tt

  by : (o : Option (List Part)) → NameTexts o → NameTexts (option_and_then (λ parts. cond (are_options known (options_of parts)) (Some parts) None) o)
  by None h = tt
  by (Some parts) h = fit parts (are_options known (options_of parts)) h

-- ---- orders

abbrev pub FileTexts : Option Order → Type 0
FileTexts None = Unit {0}
FileTexts (Some order) = AreTexts (files_of order)

after_reading : (known words : List Text) (next : List Part → Option Order) → AreTexts words → ((parts : List Part) → AreTexts (names_of parts) → FileTexts (next parts))
    → FileTexts (option_and_then next (read_parts known words))
after_reading known words next all h = by (read_parts known words) (read_texts known words all) where
  by : (o : Option (List Part)) → NameTexts o → FileTexts (option_and_then next o)
  by None texts = tt
  by (Some parts) texts = h parts texts

after_only : (names : List Text) (next : Text → Option Order) → AreTexts names → ((name : Text) → IsUtf8 name → FileTexts (next name)) → FileTexts (option_and_then next (only_name names))
after_only [] next all h = tt
after_only (name ∷ []) next all h = h name (first_text name [] all)
after_only (name ∷ other ∷ names) next all h = tt

where_true : (t : Bool) (order : Order) → AreTexts (files_of order) → FileTexts (cond t (Some order) None)
where_true true order h = h
where_true false order h = tt

pub load_texts : (words : List Text) → AreTexts words → FileTexts (load_of words)
load_texts words all = after_reading [] words _ all (λ parts texts. where_true _ (Load (names_of parts)) texts)

pub check_task_texts : (words : List Text) → AreTexts words → FileTexts (check_task_of words)
check_task_texts words all = after_reading [] words _ all (λ parts texts. after_only (names_of parts) _ texts (λ file text. more_texts file [] text no_texts))

numbered_run : (file : Text) (limit workers stop_after : Option (Option ℕ)) → IsUtf8 file
    → FileTexts (option_and_then (λ l. option_and_then (λ w. option_and_then (λ s. Some (Run file l w s)) stop_after) workers) limit)
numbered_run file None workers stop_after text = tt
numbered_run file (Some l) None stop_after text = tt
numbered_run file (Some l) (Some w) None text = tt
numbered_run file (Some l) (Some w) (Some s) text = more_texts file [] text no_texts

pub run_texts : (words : List Text) → AreTexts words → FileTexts (run_of words)
run_texts words all = after_reading (codes "limit" ∷ codes "workers" ∷ codes "stop-after" ∷ []) words (λ parts. option_and_then (run_order parts) (only_name (names_of parts))) all
    (λ parts texts. after_only (names_of parts) (run_order parts) texts
    (λ file text. numbered_run file (number_of (codes "limit") 0 4294967295 parts) (number_of (codes "workers") 1 32 parts) (number_of (codes "stop-after") 1 4294967295 parts) text))

pub show_texts : (words : List Text) → AreTexts words → FileTexts (show_of words)
show_texts words all = after_reading [] words _ all (λ parts texts. where_true _ Show no_texts)

numbered_gen : (number : Option ℕ) (workers : Option (Option ℕ)) → FileTexts (option_and_then (λ n. option_and_then (λ w. Some (Gen n w)) workers) number)
numbered_gen None workers = tt
numbered_gen (Some n) None = tt
numbered_gen (Some n) (Some w) = no_texts

pub gen_texts : (words : List Text) → AreTexts words → FileTexts (gen_of words)
gen_texts words all = after_reading (codes "workers" ∷ []) words (λ parts. option_and_then (gen_order parts) (only_name (names_of parts))) all
    (λ parts texts. after_only (names_of parts) (gen_order parts) texts (λ name text. numbered_gen (number_in 0 4294967295 name) (number_of (codes "workers") 1 32 parts)))

-- what a call answers holds texts, where what was expected does
pub told_texts : (expected : Option Order) (result : Result Order WordFault) → Answers is_memory result (ok_or expected Usage) → FileTexts expected → IfOk result (λ order. All IsUtf8 (files_of order))
told_texts None (Ok order) told texts = cc
told_texts (Some other) (Ok order) told texts = let same : other ≡ order = cc in subst (λ o. AreTexts (files_of o)) same texts
told_texts expected (Err fault) told texts = tt
