-- What `clap` looks up among the arguments of a built command.
use Rattle.std.proofs.Common.{◌≡◌, ℕ, add-zero, ◌<◌, length, take, get_or, Bor, ◌+◌, append-nil, count_by, Bool, true, false, cond, ◌&&◌, ◌||◌, not, List, [], ◌∷◌, ◌++◌, map, fold, find, is_some, codes, Some, None, refl, sym, ap, ◌∙◌, append_assoc}
use Rattle.std.specs.List.{list_any, list_all}
use Rattle.std.specs.Str.{bytes_eq}
use Rattle.std.proofs.lemmas.List.{map-append, take_more}
use Rattle.std.proofs.lemmas.List.Sums.{fold-append}
use Rattle.std.proofs.lemmas.Slice.Eq.{bytes_eq-Decides}
use Rattle.clap.specs.Walk.{Rule, is_early_multiple, arg_by_id, arg_by_long, arg_by_short, arg_by_index}
use Rattle.clap.specs.Simple.{App, Shape, new_shape, with_rule, filled, filled_from, with_index, built, is_buildable, is_ready, is_ready_leaf}
use Rattle.clap.specs.Faults.{is_simple_and_free, is_free_app}
use Rattle.dm_words.specs.Parts.{Text, is_among}
use Rattle.dm_words.specs.Commands.{names_rule, option_rule, bare_app, app_with}

abbrev pub names_built : Rule
names_built = with_index 1 (filled names_rule)

abbrev pub option_built : Text → Rule
option_built option = filled (option_rule option)

abbrev pub rules_with : List Text → List Rule
rules_with known = names_built ∷ map option_built known

abbrev pub shape_with : List Rule → Shape
shape_with rules = record (new_shape (codes "dm")) { rules = rules; no_binary_name = true; disable_help_flag = true; disable_help_subcommand = true; is_built = true }

both : (a b : Bool) → a ≡ true → b ≡ true → (a && b) ≡ true
both true true p q = refl
both true false p q = q
both false b p q = p

added : (a : App) (rules : List Rule) → fold with_rule a rules ≡ record a { top = record a.top { rules = a.top.rules ++ rules } }
added a [] = ap (λ rules. let app : App = record a { top = record a.top { rules = rules } } in app) (sym (append-nil a.top.rules))
added a (r ∷ rules) = added (with_rule a r) rules ∙ ap (λ rules. let app : App = record a { top = record a.top { rules = rules } } in app) (append_assoc a.top.rules (r ∷ []) rules)

abbrev app_from : List Rule → App
app_from rules = record bare_app { top = record bare_app.top { rules = rules } }

app_is : (known : List Text) → app_with known ≡ app_from (names_rule ∷ map option_rule known)
app_is known = added (with_rule bare_app names_rule) (map option_rule known)

filled_options : (i : ℕ) (known : List Text) → filled_from i (map option_rule known) ≡ map option_built known
filled_options i [] = refl
filled_options i (option ∷ known) = ap (λ rules. option_built option ∷ rules) (filled_options i known)

built_from : (known : List Text) → built (app_from (names_rule ∷ map option_rule known)) ≡ record { top = shape_with (rules_with known); subs = [] }
built_from known = ap (λ rules. let app : App = record { top = shape_with (names_built ∷ rules); subs = [] } in app) (filled_options 2 known)

pub built_with : (known : List Text) → built (app_with known) ≡ record { top = shape_with (rules_with known); subs = [] }
built_with known = ap built (app_is known) ∙ built_from known

pub takes_all_words : (known : List Text) → (app_with known).top.no_binary_name ≡ true
takes_all_words known = ap (λ (a : App). a.top.no_binary_name) (app_is known)

all_simple : (known : List Text) → list_all (λ a. a.is_simple) (map option_rule known) ≡ true
all_simple [] = refl
all_simple (option ∷ known) = all_simple known

built_simple : (known : List Text) → list_all (λ a. a.is_simple) (map option_built known) ≡ true
built_simple [] = refl
built_simple (option ∷ known) = built_simple known

built_free : (known : List Text) → list_all (λ a. a.is_free) (map option_built known) ≡ true
built_free [] = refl
built_free (option ∷ known) = built_free known

none_placed : (n : ℕ) (known : List Text) → fold (λ count a. count + cond (is_some a.index) 1 0) n (map option_built known) ≡ n
none_placed n [] = refl
none_placed n (option ∷ known) = none_placed (n + 0) known ∙ add-zero n

none_early : (n : ℕ) (known : List Text) → list_any (is_early_multiple n) (map option_built known) ≡ false
none_early n [] = refl
none_early n (option ∷ known) = none_early n known

in_order : (n : ℕ) (known : List Text) → n ≡ 1 → not (list_any (is_early_multiple n) (rules_with known)) ≡ true
in_order n known e = ap (λ k. not (list_any (is_early_multiple k) (rules_with known))) e ∙ ap not (none_early 1 known)

one_placed : (known : List Text) → count_by (λ a. is_some a.index) (rules_with known) ≡ 1
one_placed known = none_placed 1 known

buildable : (known : List Text) → is_buildable (app_from (names_rule ∷ map option_rule known)) ≡ true
buildable known = rw (all_simple known) refl

ready : (known : List Text) → is_ready (shape_with (rules_with known)) ≡ true
ready known = both _ _ (built_simple known) (in_order _ known (one_placed known))

pub simple_with : (known : List Text) → is_simple_and_free (app_with known) ≡ true
simple_with known = both _ _ (both _ _ (ap is_buildable (app_is known) ∙ buildable known)
    (ap (λ (a : App). is_ready a.top && list_all is_ready_leaf a.subs) (built_with known) ∙ both _ _ (ready known) refl))
    (ap is_free_app (built_with known) ∙ both _ _ (built_free known) refl)

pub record IsRules (known : List Text) (c : List Rule) : Type 0 where
  pub long_known : (name : Text) → is_among name known ≡ true → arg_by_long c name ≡ Some (option_built name)
  pub long_unknown : (name : Text) → is_among name known ≡ false → arg_by_long c name ≡ None
  pub by_names : arg_by_id c (codes "names") ≡ Some names_built
  pub by_id : (name : Text) → is_among name known ≡ true → arg_by_id c name ≡ Some (option_built name)
  pub by_index : arg_by_index c 1 ≡ Some names_built
  pub no_short : (x : ℕ) → arg_by_short c x ≡ None

same_option : (option name : Text) → bytes_eq option name ≡ true → Some (option_built option) ≡ Some (option_built name)
same_option option name same = ap (λ o. Some (option_built o)) ((bytes_eq-Decides option name).0 same)

long_with : (known : List Text) (name : Text) (t : Bool) → is_among name known ≡ t → arg_by_long (rules_with known) name ≡ cond t (Some (option_built name)) None
long_with [] name t e = rw (← e) refl
long_with (option ∷ known) name t e = by (bytes_eq option name) refl e (long_with known name t) where
  by : (b : Bool) → bytes_eq option name ≡ b → (b || is_among name known) ≡ t → (is_among name known ≡ t → arg_by_long (rules_with known) name ≡ cond t (Some (option_built name)) None)
      → cond (b || false) (Some (option_built option)) (arg_by_long (rules_with known) name) ≡ cond t (Some (option_built name)) None
  by true same e further = rw (← e) (same_option option name same)
  by false other e further = further e

id_with : (known : List Text) (name : Text) → is_among name known ≡ true → find (λ a. bytes_eq a.id name) (map option_built known) ≡ Some (option_built name)
id_with [] name e = cc
id_with (option ∷ known) name e = by (bytes_eq option name) refl e (id_with known name) where
  by : (b : Bool) → bytes_eq option name ≡ b → (b || is_among name known) ≡ true → (is_among name known ≡ true → find (λ a. bytes_eq a.id name) (map option_built known) ≡ Some (option_built name))
      → cond b (Some (option_built option)) (find (λ a. bytes_eq a.id name) (map option_built known)) ≡ Some (option_built name)
  by true same e further = same_option option name same
  by false other e further = further e

-- an option that is among others from which a name is missing isn't that name
pub is_other : (known : List Text) (name missing : Text) → is_among name known ≡ true → is_among missing known ≡ false → bytes_eq missing name ≡ false
is_other known name missing there gone = by (bytes_eq missing name) refl where
  by : (b : Bool) → bytes_eq missing name ≡ b → b ≡ false
  by false e = refl
  by true e =
      let same : missing ≡ name = (bytes_eq-Decides missing name).0 e in
      let found : is_among missing known ≡ true = ap (λ n. is_among n known) same ∙ there in
      sym found ∙ gone

no_short_with : (known : List Text) (x : ℕ) → arg_by_short (map option_built known) x ≡ None
no_short_with [] x = refl
no_short_with (option ∷ known) x = no_short_with known x

pub rules_are : (known : List Text) → is_among (codes "names") known ≡ false → IsRules known (rules_with known)
rules_are known gone = record {
  long_known = λ name e. long_with known name true e;
  long_unknown = λ name e. long_with known name false e;
  by_names = refl;
  by_id = λ name e. rw (is_other known name (codes "names") e gone) (id_with known name e);
  by_index = refl;
  no_short = no_short_with known;
}

-- what adding one more option makes of the command
pub one_more : (options : List Text) (option : Text) → app_with (options ++ option ∷ []) ≡ with_rule (app_with options) (option_rule option)
one_more options option = ap (fold with_rule (with_rule bare_app names_rule)) (map-append option_rule options (option ∷ [])) ∙ fold-append with_rule (with_rule bare_app names_rule) (map option_rule options) (option_rule option ∷ [])

pub more_options : (options : List (Bor Text)) (i : ℕ) (option : Bor Text) (app after : App) (rule : Rule) → i < length options → option ≡ get_or options i option
    → app ≡ app_with (map (λ o. o.now) (take i options)) → rule ≡ option_rule option.now → after ≡ with_rule app rule → after ≡ app_with (map (λ o. o.now) (take (i + 1) options))
more_options options i option app after rule within is so_far made more =
    let same : map (λ (o : Bor Text). o.now) (take (i + 1) options) ≡ map (λ (o : Bor Text). o.now) (take i options) ++ option.now ∷ [] =
    ap (map (λ (o : Bor Text). o.now)) (take_more options i option within ∙ ap (λ o. take i options ++ o ∷ []) (sym is)) ∙ map-append (λ (o : Bor Text). o.now) (take i options) (option ∷ []) in
    more ∙ ap (λ a. with_rule a rule) so_far ∙ ap (with_rule (app_with (map (λ (o : Bor Text). o.now) (take i options)))) made
    ∙ sym (ap app_with same ∙ one_more (map (λ (o : Bor Text). o.now) (take i options)) option.now)
