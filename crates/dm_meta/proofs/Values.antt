-- Values that were read, seen as JSON.
use Rattle.std.proofs.Common.{◌≡◌, ◌≢◌, ℕ, zero, suc, ◌<◌, List, [], ◌∷◌, length, get_or, Some, None, refl, ap, arith}
use Rattle.std.specs.Borrow.{Bor}
use Rattle.json.specs.Json.{Json, null, boolean, number, string, array, object, Items}
use Rattle.json.specs.Find.{as_array}
use Rattle.json.specs.Strict.{keys}
use Rattle.json.specs.Tree.{HasNumbers, ItemsHaveNumbers}
use Rattle.json.specs.Value.{value_view, items_view, members_view}
use Rattle.json.specs.declared.value.Value.{Value}
use Rattle.dm_meta.specs.Texts.{entry_of}

pub length-keys : {A : Type 0} → (members : List (Bor (List ℕ) × Value A)) → length (keys (members_view members)) ≡ length members
length-keys [] = refl
length-keys (m ∷ ms) = ap suc (length-keys ms)

pub HasNumbers-as_array : (value : Json) (values : Items) → HasNumbers value → Some values ≡ as_array value → ItemsHaveNumbers values
HasNumbers-as_array null values are e = cc
HasNumbers-as_array (boolean b) values are e = cc
HasNumbers-as_array (number text) values are e = cc
HasNumbers-as_array (string text) values are e = cc
HasNumbers-as_array (array others) values are e = let same : values ≡ others = cc in rw same are
HasNumbers-as_array (object _) values are e = cc

-- each number of an element is a number of JSON
pub numbers_at : {A : Type 0} → (values : List (Value A)) (place : ℕ) (other : Value A) → place < length values → ItemsHaveNumbers (items_view values) → HasNumbers (value_view (get_or values place other))
numbers_at [] place other within are = absurd (omega arith)
numbers_at (v ∷ vs) zero other within are = are.0
numbers_at (v ∷ vs) (suc place) other within are = numbers_at vs place other (omega arith) are.1

pub entry_of-others : {A : Type 0} → (values : List (Value A)) → length values ≢ 2 → entry_of (items_view values) ≡ None
entry_of-others [] other = refl
entry_of-others (v ∷ []) other = refl
entry_of-others (v ∷ w ∷ []) other = absurd (other refl)
entry_of-others (v ∷ w ∷ x ∷ vs) other = refl
