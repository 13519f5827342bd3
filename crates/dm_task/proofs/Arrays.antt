-- The elements of an array, one after another.
use Rattle.std.proofs.Common.{◌≡◌, ℕ, suc, ◌+◌, ◌<◌, List, [], ◌∷◌, ◌++◌, map, length, drop, get_or, Ok, Vec, Global, refl, sym, ap, ◌∙◌, add-one, drop-cons}
use Rattle.toml.specs.Data.{Data}
use Rattle.toml.specs.View.{view, items_view, array_view}
use Rattle.toml.specs.declared.value.Value.{Value}
use Rattle.dm_task.specs.Paths.{Path, element}
use Rattle.dm_task.specs.Reading.{ReadsElement, Read, data_of, elements}

pub data_of-view : (values : List Value) → data_of (items_view values) ≡ map view values
data_of-view [] = refl
data_of-view (value ∷ values) = ap (λ rest. view value ∷ rest) (data_of-view values)

pub array_seen : (values : Vec Value Global) → data_of (array_view values) ≡ map view values.items
array_seen values = data_of-view values.items

-- one more element
pub elements_step : {A : Type 0} (read : ReadsElement A) (path : Path) (made more : List A) (x : A) (values : List Value) (i : ℕ) (value : Value) (all : Read (List A))
    → i < length values → value ≡ get_or values i value → Ok x ≡ read made (element path (length made)) (view value) → more ≡ made ++ x ∷ []
    → elements read path made (map view (drop i values)) ≡ all → elements read path more (map view (drop (i + 1) values)) ≡ all
elements_step read path made more x values i value all within here is_read more_is known =
    let behind : drop i values ≡ value ∷ drop (i + 1) values = rw add-one (drop-cons values i value within ∙ ap (λ v. v ∷ drop (suc i) values) (sym here)) in
    rw more_is (rw (behind, ← is_read) at known)

-- what was read behind the elements so far
pub read_behind : {A : Type 0} (read : ReadsElement A) (path : Path) (made earlier : List A) (n : ℕ) (x : A) (value : Data) → earlier ≡ made → n ≡ length made
    → Ok x ≡ read earlier (element path n) value → Ok x ≡ read made (element path (length made)) value
read_behind read path made earlier n x value same counted known = rw (← counted, ← same) known
