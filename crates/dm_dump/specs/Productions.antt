-- The grammar of dumps: statements, each ended by `;`, which the last may lack. A token stands for its terminal or a class
-- of them, with the role that it has there.
use Rattle.std.specs.Prelude.{ℕ, List, [], ◌∷◌}
use Rattle.dm_grammar.specs.Grammar.{Grammar, Empty, Word, Seq, Or, Many}
use Rattle.dm_grammar.specs.Meaning.{list}
use Rattle.dm_dump.specs.declared.terminal.TheConstants as terminal
use Rattle.dm_dump.specs.declared.class.TheConstants as class
use Rattle.dm_dump.specs.declared.role.TheConstants as role

-- one behind another
abbrev pub all_of : List Grammar → Grammar
all_of [] = Empty
all_of (g ∷ []) = g
all_of (g ∷ h ∷ gs) = Seq g (all_of (h ∷ gs))

abbrev pub one_of : List Grammar → Grammar
one_of [] = Empty
one_of (g ∷ []) = g
one_of (g ∷ h ∷ gs) = Or g (one_of (h ∷ gs))

abbrev pub optional : Grammar → Grammar
optional g = Or Empty g

-- a token that isn't kept
abbrev pub plain : ℕ → Grammar
plain its_class = Word its_class role.FILLER

-- one or more, with a comma between two of them
abbrev pub separated : Grammar → Grammar
separated item = list item terminal.COMMA role.FILLER

-- "-" NUMBER | NUMBER | INTRODUCER STRING | STRING | HEXADECIMAL | TRUTH
abbrev pub literal : Grammar
literal =
    one_of (Seq (plain terminal.MINUS) (plain terminal.NUMBER) ∷ plain terminal.NUMBER ∷ Seq (plain terminal.INTRODUCER) (plain terminal.STRING)
    ∷ plain terminal.STRING ∷ plain terminal.HEXADECIMAL ∷ plain terminal.TRUTH ∷ [])

-- "(" [literal, ..] ")"
abbrev pub row : Grammar
row = all_of (Word terminal.OPENING role.ROW_OPEN ∷ optional (separated literal) ∷ Word terminal.CLOSING role.ROW_CLOSE ∷ [])

-- "(" [name, ..] ")"
abbrev pub names : Grammar
names = all_of (Word terminal.OPENING role.NAMES_OPEN ∷ optional (separated (Word class.NAME role.COLUMN)) ∷ Word terminal.CLOSING role.NAMES_CLOSE ∷ [])

-- name ["." name]
abbrev pub table_name : Grammar
table_name = Seq (Word class.NAME role.NAME) (optional (Seq (plain terminal.POINT) (Word class.NAME role.NAME)))

-- INSERT INTO table_name [names] VALUES row, ..
abbrev pub insert : Grammar
insert =
    all_of (Word terminal.INSERT role.INSERT ∷ plain terminal.INTO ∷ table_name ∷ optional names ∷ Word terminal.VALUES role.VALUES ∷ separated row ∷ [])

-- any tokens but `;`
abbrev pub anything : Grammar
anything = Many (plain class.ANY)

-- SET .., DROP .., LOCK .., UNLOCK ..
abbrev pub passed : Grammar
passed = Seq (Word terminal.PASSED role.PASSED) anything

-- CREATE TABLE ..
abbrev pub create : Grammar
create = all_of (Word terminal.CREATE role.CREATE ∷ Word terminal.TABLE role.TABLE ∷ anything ∷ [])

-- a statement, or nothing
abbrev pub statement : Grammar
statement = optional (one_of (passed ∷ create ∷ insert ∷ []))

-- [statement] {";" [statement]}
abbrev pub dump_grammar : Grammar
dump_grammar = Seq statement (Many (Seq (Word terminal.SEMICOLON role.END) statement))
