-- Names at the front, one list after another.
use Rattle.std.proofs.Common.{◌≡◌, ◌==◌, ℕ, suc, ◌+◌, ◌<◌, Bool, true, false, cond, ◌&&◌, List, [], ◌∷◌, ◌++◌, map, drop, length, get_or, Option, Some, None, refl, sym, ap, ◌∙◌, arith}
use Rattle.std.specs.Prelude.{option_and_then}
use Rattle.std.specs.Option.{option_map_or}
use Rattle.std.specs.List.{flat_map}
use Rattle.std.specs.Cmp.Lexicographic.{pointwise}
use Rattle.std.proofs.Math.Seq.{drop-cons}
use Rattle.std.proofs.lemmas.Bool.{eqb-true}
use Rattle.dm_schema.specs.Names.{Text, same_name}
use Rattle.dm_files.specs.declared.files.NamedFile.{NamedFile}
use Rattle.dm_files.specs.Fronts.{files_behind}

behind_append : (xs ys : List Text) (files : List NamedFile) → files_behind (xs ++ ys) files ≡ option_and_then (files_behind ys) (files_behind xs files)
behind_append [] ys files = refl
behind_append (x ∷ xs) ys [] = refl
behind_append (x ∷ xs) ys (f ∷ fs) = by (same_name f.name x) (behind_append xs ys fs) where
  by : (b : Bool) → files_behind (xs ++ ys) fs ≡ option_and_then (files_behind ys) (files_behind xs fs) → cond b (files_behind (xs ++ ys) fs) None ≡ option_and_then (files_behind ys) (cond b (files_behind xs fs) None)
  by true more = more
  by false more = refl

-- the next of several lists
pub next_front : {X : Type 0} (f : X → List Text) (xs : List X) (i : ℕ) (x : X) (left : List NamedFile) (total o : Option (List NamedFile)) → i < length xs → x ≡ get_or xs i x → o ≡ files_behind (f x) left
    → files_behind (flat_map f (drop i xs)) left ≡ total → option_and_then (files_behind (flat_map f (drop (i + 1) xs))) o ≡ total
next_front {X} f xs i x left total o within here e so_far =
    let next : suc i ≡ i + 1 = omega arith in
    let first : drop i xs ≡ x ∷ drop (i + 1) xs = drop-cons xs i x within ∙ ap (λ (y : X). y ∷ drop (suc i) xs) (sym here) ∙ ap (λ (n : ℕ). x ∷ drop n xs) next in
    ap (option_and_then (files_behind (flat_map f (drop (i + 1) xs)))) e
    ∙ sym (behind_append (f x) (flat_map f (drop (i + 1) xs)) left)
    ∙ ap (λ (ys : List X). files_behind (flat_map f ys) left) (sym first) ∙ so_far

pub both_fronts : (xs ys : List Text) (files : List NamedFile) (o answer : Option (List NamedFile)) → o ≡ files_behind xs files → answer ≡ option_and_then (files_behind ys) o → answer ≡ files_behind (xs ++ ys) files
both_fronts xs ys files o answer e f = f ∙ ap (option_and_then (files_behind ys)) e ∙ sym (behind_append xs ys files)

-- whether no file is left
abbrev pub none_left : Option (List NamedFile) → Bool
none_left left = option_map_or (λ files. length files == 0) left false

not_none : (n : ℕ) → false ≡ (suc n == 0)
not_none n = by (suc n == 0) refl where
  by : (b : Bool) → (suc n == 0) ≡ b → false ≡ b
  by true e = absurd (omega (arith, eqb-true (suc n) 0 e))
  by false e = refl

pub all_named : (names : List Text) (files : List NamedFile) → pointwise same_name (map (λ f. f.name) files) names ≡ none_left (files_behind names files)
all_named [] [] = refl
all_named [] (f ∷ fs) = not_none (length fs)
all_named (n ∷ ns) [] = refl
all_named (n ∷ ns) (f ∷ fs) = by (same_name f.name n) (all_named ns fs) where
  by : (b : Bool) → pointwise same_name (map (λ f. f.name) fs) ns ≡ none_left (files_behind ns fs) → (b && pointwise same_name (map (λ f. f.name) fs) ns) ≡ none_left (cond b (files_behind ns fs) None)
  by true more = more
  by false more = refl

-- whether they are the files of a task is whether none is left behind its names
pub answered : (names : List Text) (files left : List NamedFile) (empty : Bool) → Some left ≡ files_behind names files → empty ≡ (length left == 0) → empty ≡ pointwise same_name (map (λ f. f.name) files) names
answered names files left empty e f = f ∙ ap none_left e ∙ sym (all_named names files)

pub refuted : (names : List Text) (files : List NamedFile) → None ≡ files_behind names files → false ≡ pointwise same_name (map (λ f. f.name) files) names
refuted names files e = ap none_left e ∙ sym (all_named names files)
