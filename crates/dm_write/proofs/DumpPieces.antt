-- The pieces of a written dump that are kept: where statements and rows begin.
use Rattle.std.proofs.Common.{◌≡◌, ◌+◌, ℕ, suc, List, [], ◌∷◌, ◌++◌, map, length, refl, ap, ◌∙◌, arith, append_assoc}
use Rattle.std.specs.Prelude.{codes}
use Rattle.std.specs.List.{flat_map, filter}
use Rattle.std.proofs.lemmas.List.{length-append, map-append}
use Rattle.dm_value.specs.declared.value.Value.{Value}
use Rattle.dm_schema.specs.declared.column.Column.{Column}
use Rattle.dm_text.specs.Names.{quoted}
use Rattle.dm_lex.specs.declared.token.Token.{Token}
use Rattle.dm_lex.specs.declared.token.TokenKind.TheVariants as token
use Rattle.dm_grammar.specs.Sentence.{roles_of}
use Rattle.dm_syntax.specs.declared.piece.Piece as kept
use Rattle.dm_syntax.specs.Pieces.{pieces_of}
use Rattle.dm_dump.specs.declared.role.TheConstants as role
use Rattle.dm_dump.specs.Terminals.{terminal_of}
use Rattle.dm_dump.specs.Reading.{kinds_of, counts}
use Rattle.dm_reread.specs.Parts.{Part, Blank, Piece, text_of, tokens_from, word, mark, name_part, behind_comma, comma_parts, all_value_parts, tuple_parts}
use Rattle.dm_write.proofs.Placed.{token_at}
use Rattle.dm_write.proofs.DumpSentence.{filled, row_letters, more_rows, end_letter, insert_letters}

abbrev pub KeptPiece : Type 0
KeptPiece = kept.Piece

abbrev pub piece : List ℕ → Token → ℕ → KeptPiece
piece text t its_role = record { token = t; kind = terminal_of text t; role = its_role }

-- the pieces of tokens with these roles that are kept
abbrev pub kept_of : List ℕ → List Token → List ℕ → List KeptPiece
kept_of text tokens roles = filter counts (pieces_of tokens (kinds_of text tokens) roles)

-- parts that aren't kept are passed over
pub passed_over : (text : List ℕ) (at : ℕ) (parts rest : List Part) (roles : List ℕ)
    → kept_of text (tokens_from at (parts ++ rest)) (roles_of (filled parts) ++ roles) ≡ kept_of text (tokens_from (at + length (text_of parts)) rest) roles
passed_over text at [] rest roles = let same : at ≡ at + 0 = omega arith in ap (λ n. kept_of text (tokens_from n rest) roles) same
passed_over text at (Blank b ∷ parts) rest roles =
    let same : at + 1 + length (text_of parts) ≡ at + suc (length (text_of parts)) = omega arith in
    passed_over text (at + 1) parts rest roles ∙ ap (λ n. kept_of text (tokens_from n rest) roles) same
passed_over text at (Piece kind bytes ∷ parts) rest roles =
    let long = length-append bytes (text_of parts) in
    let same : at + length bytes + length (text_of parts) ≡ at + length (bytes ++ text_of parts) = omega (arith, long) in
    passed_over text (at + length bytes) parts rest roles ∙ ap (λ n. kept_of text (tokens_from n rest) roles) same

-- Rows.

abbrev pub values_of_row : List Column → List Value → List Part
values_of_row cs row = comma_parts (all_value_parts cs row)

-- where the bracket stands that closes the row whose bracket stands at the place
abbrev pub closed_at : ℕ → List Column → List Value → ℕ
closed_at at cs row = at + 1 + length (text_of (values_of_row cs row))

abbrev pub open_piece : List ℕ → ℕ → KeptPiece
open_piece text at = piece text (token_at at token.Mark (40 ∷ [])) role.ROW_OPEN

abbrev pub close_piece : List ℕ → ℕ → KeptPiece
close_piece text at = piece text (token_at at token.Mark (41 ∷ [])) role.ROW_CLOSE

-- rows behind commas, and what stands behind them
abbrev pub further_parts : List Column → List (List Value) → List Part
further_parts cs rows = flat_map behind_comma (map (tuple_parts cs) rows)

-- the places of the brackets of rows that stand behind commas, of which the first stands at the place
abbrev pub further_places : ℕ → List Column → List (List Value) → List ℕ
further_places at cs [] = []
further_places at cs (row ∷ rows) = (at + 1) ∷ further_places (closed_at (at + 1) cs row + 1) cs rows

-- where the line goes on behind them
abbrev pub behind_further : ℕ → List Column → List (List Value) → ℕ
behind_further at cs [] = at
behind_further at cs (row ∷ rows) = behind_further (closed_at (at + 1) cs row + 1) cs rows

abbrev pub row_pieces : List ℕ → ℕ → List Column → List Value → List KeptPiece
row_pieces text at cs row = open_piece text at ∷ close_piece text (closed_at at cs row) ∷ []

abbrev pub further_pieces : List ℕ → ℕ → List Column → List (List Value) → List KeptPiece
further_pieces text at cs [] = []
further_pieces text at cs (row ∷ rows) = row_pieces text (at + 1) cs row ++ further_pieces text (closed_at (at + 1) cs row + 1) cs rows

-- the `;` and the line's end
abbrev pub line_end : List Part
line_end = mark 59 ∷ Blank 10 ∷ []

row_kept : (text : List ℕ) (at : ℕ) (cs : List Column) (row : List Value) (rest : List Part) (roles : List ℕ)
    → kept_of text (tokens_from at (tuple_parts cs row ++ rest)) (roles_of (row_letters cs row) ++ roles) ≡ row_pieces text at cs row ++ kept_of text (tokens_from (closed_at at cs row + 1) rest) roles
row_kept text at cs row rest roles =
    let values : List Part = values_of_row cs row in
    let parts : (values ++ mark 41 ∷ []) ++ rest ≡ values ++ mark 41 ∷ rest = append_assoc values (mark 41 ∷ []) rest in
    let letters : roles_of (row_letters cs row) ++ roles ≡ role.ROW_OPEN ∷ (roles_of (filled values) ++ role.ROW_CLOSE ∷ roles) =
    ap (λ z. role.ROW_OPEN ∷ (z ++ roles)) (map-append (λ letter. letter.1) (filled values) _) ∙ ap (λ z. role.ROW_OPEN ∷ z) (append_assoc (roles_of (filled values)) (role.ROW_CLOSE ∷ []) roles) in
    (λ i. kept_of text (tokens_from at (mark 40 ∷ parts i)) (letters i))
    ∙ ap (λ z. open_piece text at ∷ z) (passed_over text (at + 1) values (mark 41 ∷ rest) (role.ROW_CLOSE ∷ roles))

further_kept : (text : List ℕ) (at : ℕ) (cs : List Column) (rows : List (List Value)) (rest : List Part) (roles : List ℕ)
    → kept_of text (tokens_from at (further_parts cs rows ++ rest)) (roles_of (more_rows cs rows) ++ roles) ≡ further_pieces text at cs rows ++ kept_of text (tokens_from (behind_further at cs rows) rest) roles
further_kept text at cs [] rest roles = refl
further_kept text at cs (row ∷ rows) rest roles =
    let parts : (tuple_parts cs row ++ further_parts cs rows) ++ rest ≡ tuple_parts cs row ++ (further_parts cs rows ++ rest) = append_assoc (tuple_parts cs row) (further_parts cs rows) rest in
    let letters : roles_of (row_letters cs row ++ more_rows cs rows) ++ roles ≡ roles_of (row_letters cs row) ++ (roles_of (more_rows cs rows) ++ roles) =
    ap (λ z. z ++ roles) (map-append (λ letter. letter.1) (row_letters cs row) (more_rows cs rows)) ∙ append_assoc (roles_of (row_letters cs row)) (roles_of (more_rows cs rows)) roles in
    (λ i. kept_of text (tokens_from (at + 1) (parts i)) (letters i))
    ∙ row_kept text (at + 1) cs row (further_parts cs rows ++ rest) (roles_of (more_rows cs rows) ++ roles)
    ∙ ap (λ z. row_pieces text (at + 1) cs row ++ z) (further_kept text (closed_at (at + 1) cs row + 1) cs rows rest roles)

-- The line that inserts rows.

-- INSERT INTO name VALUES (value,value),(value,value);
abbrev pub insert_parts : List ℕ → List Column → List Value → List (List Value) → List Part
insert_parts table cs row rows =
    word (codes "INSERT") ∷ Blank 32 ∷ word (codes "INTO") ∷ Blank 32 ∷ name_part table ∷ Blank 32 ∷ word (codes "VALUES") ∷ Blank 32 ∷ (tuple_parts cs row ++ further_parts cs rows) ++ line_end

abbrev pub name_at : ℕ → ℕ
name_at at = at + 6 + 1 + 4 + 1

abbrev pub values_at : ℕ → List ℕ → ℕ
values_at at table = name_at at + length (quoted table) + 1

abbrev pub rows_at : ℕ → List ℕ → ℕ
rows_at at table = values_at at table + 6 + 1

abbrev pub head_pieces : List ℕ → ℕ → List ℕ → List KeptPiece
head_pieces text at table =
    piece text (token_at at token.Word (codes "INSERT")) role.INSERT ∷ piece text (token_at (name_at at) token.Quoted (quoted table)) role.NAME
    ∷ piece text (token_at (values_at at table) token.Word (codes "VALUES")) role.VALUES ∷ []

abbrev pub end_piece : List ℕ → ℕ → KeptPiece
end_piece text at = piece text (token_at at token.Mark (59 ∷ [])) role.END

-- where the line's `;` stands, whose rows begin at the place
abbrev pub line_end_at : ℕ → List Column → List Value → List (List Value) → ℕ
line_end_at at cs row rows = behind_further (closed_at at cs row + 1) cs rows

abbrev pub all_rows : List ℕ → ℕ → List Column → List Value → List (List Value) → List KeptPiece
all_rows text at cs row rows = row_pieces text at cs row ++ (further_pieces text (closed_at at cs row + 1) cs rows ++ end_piece text (line_end_at at cs row rows) ∷ [])

abbrev pub insert_pieces : List ℕ → ℕ → List ℕ → List Column → List Value → List (List Value) → List KeptPiece
insert_pieces text at table cs row rows = head_pieces text at table ++ all_rows text (rows_at at table) cs row rows

rows_kept : (text : List ℕ) (at : ℕ) (cs : List Column) (row : List Value) (rows : List (List Value))
    → kept_of text (tokens_from at ((tuple_parts cs row ++ further_parts cs rows) ++ line_end)) (roles_of ((row_letters cs row ++ more_rows cs rows) ++ end_letter ∷ [])) ≡ all_rows text at cs row rows
rows_kept text at cs row rows =
    let parts : (tuple_parts cs row ++ further_parts cs rows) ++ line_end ≡ tuple_parts cs row ++ (further_parts cs rows ++ line_end) = append_assoc (tuple_parts cs row) (further_parts cs rows) line_end in
    let letters : roles_of ((row_letters cs row ++ more_rows cs rows) ++ end_letter ∷ []) ≡ roles_of (row_letters cs row) ++ (roles_of (more_rows cs rows) ++ role.END ∷ []) =
    map-append (λ letter. letter.1) (row_letters cs row ++ more_rows cs rows) (end_letter ∷ [])
    ∙ ap (λ z. z ++ role.END ∷ []) (map-append (λ letter. letter.1) (row_letters cs row) (more_rows cs rows)) ∙ append_assoc (roles_of (row_letters cs row)) (roles_of (more_rows cs rows)) (role.END ∷ []) in
    (λ i. kept_of text (tokens_from at (parts i)) (letters i))
    ∙ row_kept text at cs row (further_parts cs rows ++ line_end) (roles_of (more_rows cs rows) ++ role.END ∷ [])
    ∙ ap (λ z. row_pieces text at cs row ++ z) (further_kept text (closed_at at cs row + 1) cs rows line_end (role.END ∷ []))

pub insert_kept : (text : List ℕ) (at : ℕ) (table : List ℕ) (cs : List Column) (row : List Value) (rows : List (List Value))
    → kept_of text (tokens_from at (insert_parts table cs row rows)) (roles_of (insert_letters cs row rows ++ end_letter ∷ [])) ≡ insert_pieces text at table cs row rows
insert_kept text at table cs row rows = ap (λ z. head_pieces text at table ++ z) (rows_kept text (rows_at at table) cs row rows)
