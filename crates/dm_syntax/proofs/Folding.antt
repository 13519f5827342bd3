-- Names of columns and keys are folded: a schema can be made of them.
use Rattle.std.proofs.Common.{◌≡◌, ◌+◌, ◌≤◌, ◌<◌, ℕ, Bool, true, false, ◌&&◌, ◌⊎◌, inl, inr, List, [], ◌∷◌, map, Option, Some, None, refl, arith, leb, cond}
use Rattle.std.specs.Option.{option_map_or}
use Rattle.std.specs.List.{list_all, list_any}
use Rattle.std.proofs.lemmas.Bool.{leb-true}
use Rattle.std.proofs.lemmas.Bool.Decides.{leb_tells}
use Rattle.dm_schema.specs.Kinds.{is_between, is_folded}
use Rattle.dm_lex.specs.Literals.{lower}
use Rattle.dm_syntax.specs.declared.piece.Piece.{Piece}
use Rattle.dm_syntax.specs.Pieces.{first_with}
use Rattle.dm_syntax.specs.Names.{name_of, folded_name, folded_with}

and_false : (a : Bool) → (a && false) ≡ false
and_false true = refl
and_false false = refl

low_of_both : (a b : Bool) → (a && b) ≡ true → a ≡ true
low_of_both true b e = refl
low_of_both false b e = e

above : (b : ℕ) → 65 ≤ b → leb (b + 32) 90 ≡ false
above b le = by (leb_tells (b + 32) 90) where
  by : ((leb (b + 32) 90 ≡ true) × (b + 32 ≤ 90)) ⊎ ((leb (b + 32) 90 ≡ false) × (90 < b + 32)) → leb (b + 32) 90 ≡ false
  by (inl l) = absurd (omega (arith, le, l.1))
  by (inr r) = r.0

no_capital : (b : ℕ) → is_between 65 90 (lower b) ≡ false
no_capital b = by (is_between 65 90 b) refl where
  by : (t : Bool) → is_between 65 90 b ≡ t → is_between 65 90 (cond t (b + 32) b) ≡ false
  by true e = let low : 65 ≤ b = leb-true _ _ (low_of_both _ _ e) in rw (above b low) (and_false (leb 65 (b + 32)))
  by false e = e

none_capital : (bs : List ℕ) → list_any (is_between 65 90) (map lower bs) ≡ false
none_capital [] = refl
none_capital (b ∷ bs) = rw (no_capital b) (none_capital bs)

pub lower_folded : (bs : List ℕ) → is_folded (map lower bs) ≡ true
lower_folded bs = rw (none_capital bs) refl

pub with_folded : (text : List ℕ) (its_role : ℕ) (pieces : List Piece) → is_folded (folded_with text its_role pieces) ≡ true
with_folded text its_role pieces = by (first_with its_role pieces) where
  by : (o : Option Piece) → is_folded (option_map_or (folded_name text) o []) ≡ true
  by (Some p) = lower_folded (name_of text p.token)
  by None = refl

pub names_folded : (text : List ℕ) (pieces : List Piece) → list_all is_folded (map (folded_name text) pieces) ≡ true
names_folded text [] = refl
names_folded text (p ∷ ps) = rw (lower_folded (name_of text p.token)) (names_folded text ps)
