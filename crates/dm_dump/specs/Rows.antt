-- The rows of a dump's INSERTs.
use Rattle.std.specs.Prelude.{◌≡◌, ℕ, Bool, true, false, not, ◌==◌, ◌&&◌, ◌||◌, List, [], ◌∷◌, ◌++◌, fold, length, Option, Some, None, Result, Ok, Err, is_some, if◌then◌else◌}
use Rattle.std.specs.Option.{option_map, option_map_or}
use Rattle.std.specs.List.{list_all}
use Rattle.dm_schema.specs.declared.column.Column.{Column}
use Rattle.dm_schema.specs.Layout.{Layout}
use Rattle.dm_schema.specs.Names.{Text, same_name, column_names}
use Rattle.dm_syntax.specs.declared.piece.Piece.{Piece}
use Rattle.dm_syntax.specs.Pieces.{has_role, first_with}
use Rattle.dm_syntax.specs.Names.{name_of, all_folded_with}
use Rattle.dm_dump.specs.declared.fault.Fault.{Fault}
use Rattle.dm_dump.specs.declared.fault.DumpCause.TheVariants as cause
use Rattle.dm_dump.specs.declared.fault.DumpFault.{DumpFault}
use Rattle.dm_dump.specs.declared.fault.DumpFault.TheVariants as fault
use Rattle.dm_dump.specs.declared.inserts.InsertOrder.{InsertOrder}
use Rattle.dm_dump.specs.declared.inserts.Inserts.{Inserts}
use Rattle.dm_dump.specs.declared.role.TheConstants as role
use Rattle.dm_dump.specs.Reading.{Contents, HasContents}
use Rattle.dm_dump.specs.Units.{units}
use Rattle.dm_dump.specs.Outlines.{least, second_place, second_create}
use Rattle.dm_dump.specs.Literals.{literals_at, first_unfit}
use Rattle.dm_dump.specs.Orders.{is_order, columns_by, stand_so, row_in_force}

-- The head of an INSERT.

abbrev pub later_name : Option Piece → Piece → Option Piece
later_name last p = if p.role == role.NAME then Some p else last

-- the last part of the table's name
abbrev pub last_name : List Piece → Option Piece
last_name unit = fold later_name None unit

abbrev pub is_table : List ℕ → List ℕ → Option Piece → Bool
is_table text table last = option_map_or (λ p. same_name (name_of text p.token) table) last false

abbrev pub place_of_piece : Option Piece → ℕ
place_of_piece piece = option_map_or (λ p. p.token.from) piece 0

-- the table's name is whole where something stands behind it
abbrev pub has_whole_name : List Piece → Bool
has_whole_name unit = has_role role.NAMES_OPEN unit || has_role role.VALUES unit

abbrev pub names_other : List ℕ → List ℕ → List Piece → Bool
names_other text table unit = if has_whole_name unit then not (is_table text table (last_name unit)) else false

-- a whole list of names hasn't every column once
abbrev pub lacks_column : List ℕ → List Column → List Piece → Bool
lacks_column text columns unit = if has_role role.NAMES_CLOSE unit then not (is_order columns (all_folded_with text role.COLUMN unit)) else false

-- the table's name is another, or else a list of names is none
abbrev pub head_fault : List ℕ → List ℕ → List Column → List Piece → Option Fault
head_fault text table columns unit =
    if names_other text table unit then Some (record { at = place_of_piece (last_name unit); cause = cause.Table })
    else if lacks_column text columns unit then Some (record { at = place_of_piece (first_with role.NAMES_OPEN unit); cause = cause.Columns })
    else None

-- the names of a whole list, or of the schema's columns
abbrev pub order_in : List ℕ → List Column → List Piece → List Text
order_in text columns unit = if has_role role.NAMES_CLOSE unit then all_folded_with text role.COLUMN unit else column_names columns

-- Rows.

abbrev pub unfit : Option ℕ → Option Fault
unfit place = option_map (λ at. record { at = at; cause = cause.Unfit }) place

-- a whole row hasn't as many literals as columns, or else a literal has no value that its column can have
abbrev pub row_fault : List ℕ → ℕ → Bool → List Column → Option Fault
row_fault text at closed columns =
    if closed && not (length (literals_at text at) == length columns) then Some (record { at = at; cause = cause.Count })
    else unfit (first_unfit text columns (literals_at text at))

-- What was gathered: the columns in the order of the literals, whether no row has that order so far, the rows' places,
-- the orders, and the first fault. Behind a fault nothing is added.
pub record Gathered : Type 0 where
  pub columns : List Column
  pub is_new : Bool
  pub places : List ℕ
  pub orders : List InsertOrder
  pub fault : Option Fault

abbrev pub nothing : Gathered
nothing = record { columns = []; is_new = true; places = []; orders = []; fault = None }

abbrev pub with_fault : Gathered → Fault → Gathered
with_fault g f = record { columns = g.columns; is_new = g.is_new; places = g.places; orders = g.orders; fault = Some f }

-- the literals stand in this order from here on
abbrev pub with_order : List Column → Gathered → List Text → Gathered
with_order columns g order =
    if stand_so g.columns order then g
    else record { columns = columns_by columns order; is_new = true; places = g.places; orders = g.orders; fault = g.fault }

abbrev pub with_head : List ℕ → List ℕ → List Column → Gathered → List Piece → Gathered
with_head text table columns g unit = by (head_fault text table columns unit) where
  by : Option Fault → Gathered
  by (Some f) = with_fault g f
  by None = with_order columns g (order_in text columns unit)

-- a new order, with the place of its first row
abbrev pub orders_with : List InsertOrder → Bool → ℕ → List Column → List InsertOrder
orders_with orders is_new at columns = if is_new then orders ++ record { first = at; order = column_names columns } ∷ [] else orders

abbrev pub with_place : Gathered → ℕ → Gathered
with_place g at = record {
  columns = g.columns;
  is_new = false;
  places = g.places ++ at ∷ [];
  orders = orders_with g.orders g.is_new at g.columns;
  fault = g.fault;
}

abbrev pub with_row : List ℕ → Gathered → ℕ → Bool → Gathered
with_row text g at closed = by (row_fault text at closed g.columns) where
  by : Option Fault → Gathered
  by (Some f) = with_fault g f
  by None = if closed then with_place g at else g

-- a unit: the head of an INSERT, a row, or what says nothing of rows
abbrev pub with_unit : List ℕ → List ℕ → List Column → Gathered → List Piece → Gathered
with_unit text table columns g [] = g
with_unit text table columns g (p ∷ ps) =
    if is_some g.fault then g
    else if p.role == role.INSERT then with_head text table columns g (p ∷ ps)
    else if p.role == role.ROW_OPEN then with_row text g p.token.from (has_role role.ROW_CLOSE (p ∷ ps))
    else g

abbrev pub gathered : List ℕ → List ℕ → List Column → List (List Piece) → Gathered
gathered text table columns us = fold (with_unit text table columns) nothing us

-- What reading answers.

abbrev pub refused : Fault → DumpFault
refused f = fault.At f.at f.cause

-- the value, unless there is a fault
abbrev pub unless : {A : Type 0} → Option Fault → A → Result A DumpFault
unless None value = Ok value
unless (Some f) value = Err (refused f)

abbrev pub inserts_of : Gathered → Inserts
inserts_of g = record { places = g.places; orders = g.orders }

-- the rows that were gathered, unless there is a fault among them or behind them
abbrev pub unless_inserts : Gathered → Option Fault → Result Inserts DumpFault
unless_inserts g ending = unless (least g.fault ending) (inserts_of g)

-- the rows, or the fault of the least place
abbrev pub rows_of : List ℕ → List ℕ → Layout → Contents → Result Inserts DumpFault
rows_of text table layout all =
    unless_inserts (gathered text table layout.columns (units all.pieces)) (least (second_create (second_place (units all.pieces))) all.ending)

abbrev pub HasRows : List ℕ → List ℕ → Layout → Result Inserts DumpFault → Type 0
HasRows text table layout answer = (all : Contents) × HasContents text all × (answer ≡ rows_of text table layout all)

-- at each place stands a row, in the order of literals in force there
abbrev pub are_readable : List ℕ → Layout → Inserts → Bool
are_readable text layout inserts = list_all (λ at. is_some (row_in_force text inserts.orders layout at)) inserts.places
