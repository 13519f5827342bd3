-- What a dump consists of, up to its first fault.
use Rattle.std.specs.Prelude.{◌≡◌, ℕ, Bool, true, false, not, ◌&&◌, nat_lt, List, [], ◌∷◌, Option, Some, None, if◌then◌else◌}
use Rattle.std.specs.Option.{option_map, option_map_or, option_or}
use Rattle.std.specs.List.{list_any}
use Rattle.dm_syntax.specs.declared.piece.Piece.{Piece}
use Rattle.dm_dump.specs.declared.fault.Fault.{Fault}
use Rattle.dm_dump.specs.declared.fault.DumpCause.{DumpCause}
use Rattle.dm_dump.specs.declared.fault.DumpCause.TheVariants as cause
use Rattle.dm_dump.specs.declared.outline.Span.{Span}
use Rattle.dm_dump.specs.declared.outline.Outline.{Outline}
use Rattle.dm_dump.specs.declared.role.TheConstants as role
use Rattle.dm_dump.specs.Reading.{Contents, HasContents}
use Rattle.dm_dump.specs.Units.{units, begins_with, place_of, next_place, is_create}

-- the fault of the least place
abbrev pub least : Option Fault → Option Fault → Option Fault
least None other = other
least (Some f) None = Some f
least (Some f) (Some g) = if nat_lt g.at f.at then Some g else Some f

-- where a unit begins that passes
abbrev pub place_if : Bool → List Piece → Option ℕ
place_if passes u = if passes then Some (place_of 0 u) else None

abbrev pub create_place : List (List Piece) → Option ℕ
create_place [] = None
create_place (u ∷ us) = option_or (place_if (is_create u) u) (create_place us)

-- where the second CREATE TABLE begins
abbrev pub second_place : List (List Piece) → Option ℕ
second_place [] = None
second_place (u ∷ us) = if is_create u then create_place us else second_place us

abbrev pub insert_place : List (List Piece) → Option ℕ
insert_place [] = None
insert_place (u ∷ us) = option_or (place_if (begins_with role.INSERT u) u) (insert_place us)

-- a `;` stands behind the first INSERT
abbrev pub insert_ends : List (List Piece) → Bool
insert_ends [] = false
insert_ends (u ∷ us) = if begins_with role.INSERT u then list_any (begins_with role.END) us else insert_ends us

abbrev pub is_lex : DumpCause → Bool
is_lex cause.Lex = true
is_lex cause.Statement = false
is_lex cause.SecondCreate = false
is_lex cause.Table = false
is_lex cause.Columns = false
is_lex cause.Count = false
is_lex cause.Unfit = false
is_lex cause.NoCreate = false
is_lex cause.Create = false

-- reading ends with a lexical fault
abbrev pub is_torn : Option Fault → Bool
is_torn ending = option_map_or (λ f. is_lex f.cause) ending false

-- a place, unless a lexical fault stands in the statement that begins there, which then has no `;`
abbrev pub unless_torn : Bool → Option Fault → Option ℕ → Option ℕ
unless_torn ends ending place = if is_torn ending && not ends then None else place

-- where the first INSERT begins, unless a lexical fault stands in it
abbrev pub whole_insert : Contents → Option ℕ
whole_insert all = unless_torn (insert_ends (units all.pieces)) all.ending (insert_place (units all.pieces))

-- from its first token up to the next unit, which begins at its `;`
abbrev pub span_if : List ℕ → Bool → List Piece → List (List Piece) → Option Span
span_if text passes u us = if passes then Some (record { from = place_of 0 u; to = next_place text us }) else None

-- the first CREATE TABLE
abbrev pub create_span : List ℕ → List (List Piece) → Option Span
create_span text [] = None
create_span text (u ∷ us) = option_or (span_if text (is_create u) u us) (create_span text us)

abbrev pub second_create : Option ℕ → Option Fault
second_create place = option_map (λ at. record { at = at; cause = cause.SecondCreate }) place

abbrev pub outline_of : List ℕ → Contents → Outline
outline_of text all = record {
  create = create_span text (units all.pieces);
  first_insert = whole_insert all;
  fault = least (second_create (second_place (units all.pieces))) all.ending;
}

abbrev pub HasOutline : List ℕ → Outline → Type 0
HasOutline text outline = (all : Contents) × HasContents text all × (outline ≡ outline_of text all)
