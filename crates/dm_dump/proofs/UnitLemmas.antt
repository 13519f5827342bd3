-- Gathering the pieces of a unit.
use Rattle.std.proofs.Common.{◌≡◌, suc, true, false, List, [], ◌∷◌, ◌++◌, refl, sym, ap, ◌∙◌, arith, append_assoc, append-nil}
use Rattle.std.specs.List.{before_first, position_or_len}
use Rattle.dm_syntax.specs.declared.piece.Piece.{Piece}
use Rattle.dm_syntax.specs.Pieces.{parts}
use Rattle.dm_dump.specs.declared.source.Ahead.{Ahead}
use Rattle.dm_dump.specs.declared.source.Ahead.TheVariants as ahead
use Rattle.dm_dump.specs.Reading.{Contents}
use Rattle.dm_dump.specs.Streams.{ahead_of}
use Rattle.dm_dump.specs.Units.{begins_unit, units}

-- the units, of whose first some pieces were taken
abbrev pub units_from : List Piece → List Piece → List (List Piece)
units_from taken ps = (taken ++ before_first begins_unit ps) ∷ parts begins_unit ps

before_other : (p : Piece) (ps : List Piece) → begins_unit p ≡ false → before_first begins_unit (p ∷ ps) ≡ p ∷ before_first begins_unit ps
before_other p ps e = let more : position_or_len begins_unit (p ∷ ps) ≡ suc (position_or_len begins_unit ps) = rw e (omega arith) in rw more refl

before_beginning : (p : Piece) (ps : List Piece) → begins_unit p ≡ true → before_first begins_unit (p ∷ ps) ≡ []
before_beginning p ps e = let none : position_or_len begins_unit (p ∷ ps) ≡ 0 = rw e refl in rw none refl

pub one_more : (taken more : List Piece) (p : Piece) (left rest : List Piece) (total : List (List Piece)) → begins_unit p ≡ false → left ≡ p ∷ rest → more ≡ taken ++ p ∷ [] → units_from taken left ≡ total → units_from more rest ≡ total
one_more taken more p left rest total e l m so_far =
    rw m (ap (λ (u : List Piece). u ∷ parts begins_unit rest) (append_assoc taken (p ∷ []) (before_first begins_unit rest) ∙ ap (λ (ps : List Piece). taken ++ ps) (sym (before_other p rest e)))
    ∙ ap (λ (us : List (List Piece)). (taken ++ before_first begins_unit (p ∷ rest)) ∷ us) (sym (other_parts p rest e)) ∙ ap (units_from taken) (sym l) ∙ so_far)
  where
    other_parts : (p : Piece) (ps : List Piece) → begins_unit p ≡ false → parts begins_unit (p ∷ ps) ≡ parts begins_unit ps
    other_parts p ps e = rw e refl

pub unit_ends : (taken : List Piece) (p : Piece) (left rest : List Piece) (total : List (List Piece)) → begins_unit p ≡ true → left ≡ p ∷ rest → units_from taken left ≡ total → total ≡ taken ∷ units left
unit_ends taken p left rest total e l so_far =
    sym so_far ∙ ap (units_from taken) l ∙ beginning p rest e ∙ ap (λ (ps : List Piece). taken ∷ units ps) (sym l)
  where
    beginning : (p : Piece) (ps : List Piece) → begins_unit p ≡ true → units_from taken (p ∷ ps) ≡ taken ∷ units (p ∷ ps)
    beginning p ps e = ap (λ (front : List Piece). (taken ++ front) ∷ parts begins_unit (p ∷ ps)) (before_beginning p ps e) ∙ ap (λ (u : List Piece). u ∷ parts begins_unit (p ∷ ps)) (append-nil taken) ∙ ap (λ (us : List (List Piece)). taken ∷ us) (rw e refl)

pub units_end : (taken left : List Piece) (total : List (List Piece)) → left ≡ [] → units_from taken left ≡ total → total ≡ taken ∷ units left
units_end taken left total e so_far = sym so_far ∙ ap (units_from taken) e ∙ ap (λ (u : List Piece). u ∷ []) (append-nil taken) ∙ ap (λ (ps : List Piece). taken ∷ units ps) (sym e)

-- What is ahead moves on.

pub pieces_move : (here next : Ahead) (p : Piece) (old new : Contents) → here ≡ ahead.Piece p → old ≡ ahead_of next new → (ahead_of here old).pieces ≡ p ∷ (ahead_of next new).pieces
pieces_move here next p old new e h = ap (λ (a : Ahead). (ahead_of a old).pieces) e ∙ ap (λ (all : Contents). p ∷ all.pieces) h

pub ending_moves : (here next : Ahead) (p : Piece) (old new : Contents) → here ≡ ahead.Piece p → old ≡ ahead_of next new → (ahead_of next new).ending ≡ (ahead_of here old).ending
ending_moves here next p old new e h = ap (λ (all : Contents). all.ending) (sym h) ∙ ap (λ (a : Ahead). (ahead_of a old).ending) (sym e)
