-- The histories of all sources, of those of each source.
use Rattle.std.proofs.Common.{◌≡◌, ℕ, zero, suc, ◌+◌, ◌-◌, ◌<◌, ◌≤◌, ◌^◌, min, Bool, true, false, cond, ltb, List, [], ◌∷◌, map, take, length, Option, Some, None, Result, Ok, Err, refl, sym, ap, ◌∙◌, subst, arith, zero-add, length-append}
use Rattle.std.specs.Prelude.{⊤, IfOk, IsTrue, MatchBool, slice_get, slice_index_or}
use Rattle.std.specs.List.{flat_map, list_all, range_with_len}
use Rattle.std.specs.Option.{option_map_or}
use Rattle.std.specs.Cmp.Lexicographic.{pointwise, same_text}
use Rattle.std.proofs.lemmas.Bool.{and_parts}
use Rattle.std.proofs.lemmas.List.{length-map}
use Rattle.std.proofs.lemmas.List.Folds.{list_all-append}
use Rattle.dm_list.specs.Answer.{Answers}
use Rattle.dm_schema.specs.Names.{Text, same_name}
use Rattle.dm_schema.specs.declared.table_name.TableName.{TableName}
use Rattle.dm_route.specs.declared.rules.Rules.{Rules}
use Rattle.dm_task.specs.declared.task.Source.{Source}
use Rattle.dm_task.specs.declared.task.Task.{Task}
use Rattle.dm_task.specs.Shards.{targets_of}
use Rattle.dm_files.specs.declared.files.NamedFile.{NamedFile}
use Rattle.dm_files.specs.Files.{are_files, are_short, files_of, source_files}
use Rattle.dm_track.specs.declared.fault.BuildFault.{BuildFault}
use Rattle.dm_track.specs.declared.fault.BuildFault.TheVariants as fault
use Rattle.dm_track.specs.Histories.{History}
use Rattle.dm_track.specs.Changes.{all_read, are_kept, reads}
use Rattle.dm_track.specs.Builds.{Inputs, Readings, all_of, histories_from, histories_of, inputs_of, inputs_with, is_memory, items_in, limited, most_items, most_values, source_histories, values_in, within_limits}
use Rattle.dm_track.specs.Steps.{all_parts, files_before, histories_at}

abbrev Histories : Type 0
Histories = Result (List History) BuildFault

-- Answers.

pub answers_itself : (x : Histories) → Answers is_memory x x
answers_itself (Ok hs) = refl
answers_itself (Err f) = by (is_memory f) where
  by : (b : Bool) → MatchBool b ⊤ (◌≡◌ {A = Histories} (Err f) (Err f))
  by true = tt
  by false = refl

pub answers_in_turn : (a b c : Histories) → Answers is_memory a b → Answers is_memory b c → Answers is_memory a c
answers_in_turn (Ok hs) b c first second = subst (λ (x : Histories). Answers is_memory x c) (sym first) second
answers_in_turn (Err f) b c first second = by (is_memory f) refl first where
  by : (o : Bool) → is_memory f ≡ o → MatchBool o ⊤ (Err f ≡ b) → MatchBool o ⊤ (Err f ≡ c)
  by true known h = tt
  by false known h = let all : Answers is_memory (Err f) c = subst (λ (x : Histories). Answers is_memory x c) (sym h) second in rw known at all

-- a fault that is answered is told of the whole
refused : (f : BuildFault) (x : Histories) (told : Histories → Histories) → told (Err f) ≡ Err f → Answers is_memory (Err f) x → Answers is_memory (Err f) (told x)
refused f x told is h = by (is_memory f) h where
  by : (b : Bool) → MatchBool b ⊤ (Err f ≡ x) → MatchBool b ⊤ (Err f ≡ told x)
  by true h = tt
  by false h = sym is ∙ ap told h

answers_both : (p x q y : Histories) → Answers is_memory p x → Answers is_memory q y → Answers is_memory (all_of p q) (all_of x y)
answers_both (Err f) x q y first second = refused f x (λ a. all_of a y) refl first
answers_both (Ok hs) x (Ok ks) y first second = ap (λ (a : Histories). all_of a (Ok ks)) first ∙ ap (all_of x) second
answers_both (Ok hs) x (Err f) y first second =
    subst (λ (a : Histories). Answers is_memory (Err f) (all_of a y)) first (refused f y (λ a. all_of (Ok hs) a) refl second)

pub limited_answers : (a b : Histories) → Answers is_memory a b → Answers is_memory (limited a) (limited b)
limited_answers (Ok hs) b h = subst (λ (x : Histories). Answers is_memory (within_limits hs) (limited x)) h (answers_itself (within_limits hs))
limited_answers (Err f) b h = refused f b limited refl h

-- Sources.

-- the histories of the source of a number, where so many files stand before all of these
abbrev at_number : Readings → List NamedFile → List Text → Rules → ℕ → List Source → ℕ → Histories
at_number r files names rules number sources i = option_map_or (λ s. source_histories r files names rules (number + files_before i sources) s) (slice_get sources i) (Ok [])

next_number : (r : Readings) (files : List NamedFile) (names : List Text) (rules : Rules) (number : ℕ) (s : Source) (ss : List Source) (i : ℕ)
    → at_number r files names rules number (s ∷ ss) (suc i) ≡ at_number r files names rules (number + length (source_files s)) ss i
next_number r files names rules number s ss i =
    let n = length-append (source_files s) (flat_map source_files (take i ss)) in
    let e : number + files_before (suc i) (s ∷ ss) ≡ number + length (source_files s) + files_before i ss = omega (arith, n) in
    ap (λ (k : ℕ). option_map_or (λ s. source_histories r files names rules k s) (slice_get ss i) (Ok [])) e

parts_answer : (r : Readings) (files : List NamedFile) (names : List Text) (rules : Rules) (number : ℕ) (sources : List Source) (parts : List Histories) → length parts ≡ length sources
    → ((i : ℕ) (d : Histories) → i < length sources → Answers is_memory (slice_index_or parts i d) (at_number r files names rules number sources i)) → Answers is_memory (all_parts parts) (histories_from r files names rules number sources)
parts_answer r files names rules number [] [] same each = refl
parts_answer r files names rules number [] (p ∷ ps) same each = absurd (omega arith)
parts_answer r files names rules number (s ∷ ss) [] same each = absurd (omega arith)
parts_answer r files names rules number (s ∷ ss) (p ∷ ps) same each =
    let here : number + 0 ≡ number = omega arith in
    let first : Answers is_memory p (source_histories r files names rules number s) =
    subst (λ (k : ℕ). Answers is_memory p (source_histories r files names rules k s)) here (each 0 p (omega arith)) in
    answers_both p (source_histories r files names rules number s) (all_parts ps) (histories_from r files names rules (number + length (source_files s)) ss) first
    (parts_answer r files names rules (number + length (source_files s)) ss ps (omega arith)
    (λ i d below. subst (λ (x : Histories). Answers is_memory (slice_index_or ps i d) x) (next_number r files names rules number s ss i) (each (suc i) d (omega arith))))

before_within : (sources : List Source) (index : ℕ) (s : Source) → Some s ≡ slice_get sources index → files_before index sources + length (source_files s) ≤ length (flat_map source_files sources)
before_within [] index s is = absurd cc
before_within (x ∷ xs) zero s is =
    let same : s ≡ x = cc in
    let e : length (source_files s) ≡ length (source_files x) = ap (λ (y : Source). length (source_files y)) same in
    omega (arith, e, length-append (source_files x) (flat_map source_files xs))
before_within (x ∷ xs) (suc index) s is =
    let rest = before_within xs index s is in
    omega (arith, rest, length-append (source_files x) (flat_map source_files xs), length-append (source_files x) (flat_map source_files (take index xs)))

pub number_is : (sources slice : List Source) (index number : ℕ) (s : Source) → slice ≡ sources → Some s ≡ slice_get sources index → length (flat_map source_files sources) ≤ 2 ^ 32 - 1 → number ≡ min (files_before index slice) (2 ^ 64 - 1) → number ≡ files_before index sources
number_is sources slice index number s same there bound is =
    let e : files_before index slice ≡ files_before index sources = ap (files_before index) same in
    omega (arith, e, is, before_within sources index s there)

pub number_within : (sources slice : List Source) (index number : ℕ) (s : Source) → slice ≡ sources → Some s ≡ slice_get sources index → length (flat_map source_files sources) ≤ 2 ^ 32 - 1 → number ≡ min (files_before index slice) (2 ^ 64 - 1) → number + length (source_files s) ≤ 2 ^ 32 - 1
number_within sources slice index number s same there bound is =
    omega (arith, number_is sources slice index number s same there bound is, before_within sources index s there)

pub none_there : (r : Readings) (files : List NamedFile) (task : Task) (index : ℕ) (hs : List History) → hs ≡ [] → None ≡ slice_get task.sources index → Ok hs ≡ histories_at r files task index
none_there r files task index hs is none =
    let done : List History → Histories = λ l. Ok l in
    let at : Option Source → Histories = λ o. option_map_or (λ s. source_histories r files (map (λ f. f.name) files) task.rules (files_before index task.sources) s) o (Ok []) in
    ap done is ∙ ap at none

pub one_there : (r : Readings) (files : List NamedFile) (task : Task) (index number : ℕ) (s : Source) (answer : Histories) → Some s ≡ slice_get task.sources index → number ≡ files_before index task.sources
    → Answers is_memory answer (source_histories r files (map (λ f. f.name) files) task.rules number s) → Answers is_memory answer (histories_at r files task index)
one_there r files task index number s answer there is h =
    let names = map (λ f. f.name) files in
    let at : Option Source → Histories = λ o. option_map_or (λ s. source_histories r files names task.rules (files_before index task.sources) s) o (Ok []) in
    subst (λ (o : Option Source). Answers is_memory answer (at o)) there
    (subst (λ (k : ℕ). Answers is_memory answer (source_histories r files names task.rules k s)) is h)

-- The files of a task have its names.
same_names : (xs ys : List Text) → pointwise same_name xs ys ≡ true → xs ≡ ys
same_names [] [] h = refl
same_names [] (y ∷ ys) h = absurd cc
same_names (x ∷ xs) [] h = absurd cc
same_names (x ∷ xs) (y ∷ ys) h =
    let parts = and_parts (same_name x y) (pointwise same_name xs ys) h in
    let first : x ≡ y = same_text x y (sym parts.0) in
    ap (λ (t : Text). t ∷ xs) first ∙ ap (λ (ts : List Text). y ∷ ts) (same_names xs ys parts.1)

names_are : (task : Task) (files : List NamedFile) → are_files task files ≡ true → map (λ f. f.name) files ≡ files_of task
names_are task files h = same_names (map (λ f. f.name) files) (files_of task) h

pub files_count : (task : Task) (files : List NamedFile) → are_files task files ≡ true → length files ≤ 2 ^ 32 - 1 → length (files_of task) ≤ 2 ^ 32 - 1
files_count task files h bound = omega (arith, ap length (names_are task files h), length-map files (λ f. f.name))

-- what is told of each source is told of the task
pub task_answers : (r : Readings) (task : Task) (files slice : List NamedFile) (parts : List Histories) → slice ≡ files → are_files task files ≡ true → length parts ≡ length task.sources
    → ((i : ℕ) (d : Histories) → i < length task.sources → Answers is_memory (slice_index_or parts i d) (histories_at r slice task i)) → Answers is_memory (limited (all_parts parts)) (histories_of r task files)
task_answers r task files slice parts is named same each =
    let names = map (λ f. f.name) files in
    let own : Answers is_memory (all_parts parts) (histories_from r files names task.rules 0 task.sources) =
    parts_answer r files names task.rules 0 task.sources parts same
    (λ i d below.
    subst (λ (k : ℕ). Answers is_memory (slice_index_or parts i d) (option_map_or (λ s. source_histories r files names task.rules k s) (slice_get task.sources i) (Ok []))) (sym (zero-add (files_before i task.sources)))
    (subst (λ (fs : List NamedFile). Answers is_memory (slice_index_or parts i d) (histories_at r fs task i)) is (each i d below))) in
    limited_answers (all_parts parts) (histories_from r files (files_of task) task.rules 0 task.sources)
    (subst (λ (ns : List Text). Answers is_memory (all_parts parts) (histories_from r files ns task.rules 0 task.sources)) (names_are task files named) own)

-- Of the task.

pub inputs_answer : (r : Readings) (task : Task) (files : List NamedFile) (parts : List Histories) (hs : List History) (tables : List TableName) → Answers is_memory (limited (all_parts parts)) (histories_of r task files)
    → Answers is_memory (Ok hs) (limited (all_parts parts)) → tables ≡ targets_of task → Ok (record { task = task; files = files; histories = hs; tables = tables }) ≡ inputs_of r task files
inputs_answer r task files parts hs tables all own tables_are =
    let is : Ok hs ≡ histories_of r task files = answers_in_turn (Ok hs) (limited (all_parts parts)) (histories_of r task files) own all in
    let made : List TableName → Result Inputs BuildFault = λ ts. Ok (record { task = task; files = files; histories = hs; tables = ts }) in
    ap made tables_are ∙ ap (inputs_with task files) is

pub inputs_refused : (r : Readings) (task : Task) (files : List NamedFile) (parts : List Histories) (f : BuildFault) → Answers is_memory (limited (all_parts parts)) (histories_of r task files)
    → Answers is_memory (Err f) (limited (all_parts parts)) → Answers is_memory (Err f) (inputs_of r task files)
inputs_refused r task files parts f all own = by (is_memory f) told where
  told : Answers is_memory (Err f) (histories_of r task files)
  told = answers_in_turn (Err f) (limited (all_parts parts)) (histories_of r task files) own all

  by : (b : Bool) → MatchBool b ⊤ (Err f ≡ histories_of r task files) → MatchBool b ⊤ (Err f ≡ inputs_of r task files)
  by true h = tt
  by false h = ap (inputs_with task files) h

-- Each row can be read.

abbrev IfRead : List NamedFile → Histories → Type 0
IfRead files (Ok hs) = all_read files hs ≡ true
IfRead files (Err f) = ⊤

both_read : (files : List NamedFile) (p q : Histories) → IfRead files p → IfRead files q → IfRead files (all_of p q)
both_read files (Err f) q first second = tt
both_read files (Ok hs) (Err f) first second = tt
both_read files (Ok hs) (Ok ks) first second =
    rw (list_all-append (λ (h : History). list_all (reads files h) (range_with_len 1 (length h.items))) hs ks, first, second) refl

limits_read : (files : List NamedFile) (p : Histories) → IfRead files p → IfRead files (limited p)
limits_read files (Err f) h = tt
limits_read files (Ok hs) h = by (ltb most_items (items_in hs)) (ltb most_values (values_in hs)) where
  by : (more larger : Bool) → IfRead files (cond {A = Histories} more (Err fault.Items) (cond {A = Histories} larger (Err fault.Values) (Ok hs)))
  by true larger = tt
  by false true = tt
  by false false = h

as_read : (files : List NamedFile) (p : Histories) → IfOk p (λ histories. IsTrue (all_read files histories)) → IfRead files p
as_read files (Err f) h = tt
as_read files (Ok hs) h = h

parts_read : (files : List NamedFile) (parts : List Histories) → ((i : ℕ) (d : Histories) → i < length parts → IfRead files (slice_index_or parts i d)) → IfRead files (all_parts parts)
parts_read files [] each = refl
parts_read files (p ∷ ps) each = both_read files p (all_parts ps) (each 0 p (omega arith)) (parts_read files ps (λ i d below. each (suc i) d (omega arith)))

pub limits_kept : (files slice : List NamedFile) (count : ℕ) (parts : List Histories) (hs : List History) → slice ≡ files → length parts ≡ count → ((i : ℕ) (d : Histories) → i < count → IfOk (slice_index_or parts i d) (λ histories. IsTrue (all_read slice histories)))
    → Answers is_memory (Ok hs) (limited (all_parts parts)) → are_short files ≡ true → are_kept files hs ≡ true
limits_kept files slice count parts hs is same each own short =
    let all : IfRead files (Ok hs) = subst (IfRead files) (sym own) (limits_read files (all_parts parts) (parts_read files parts (λ i d below. as_read files (slice_index_or parts i d)
    (subst (λ (fs : List NamedFile). IfOk (slice_index_or parts i d) (λ histories. IsTrue (all_read fs histories))) is (each i d (omega arith)))))) in
    rw (short, all) refl
