-- A written dump is a sentence of the grammar of dumps.
use Rattle.std.proofs.Common.{◌≡◌, ◌==◌, ℕ, Bool, true, not, List, [], ◌∷◌, ◌++◌, map, refl, sym, ap, ◌∙◌, subst, append-nil}
use Rattle.std.specs.Prelude.{⊤}
use Rattle.std.specs.List.{flat_map, list_all}
use Rattle.std.proofs.lemmas.Bool.{and_parts}
use Rattle.std.proofs.lemmas.List.{map-append}
use Rattle.dm_value.specs.declared.value.Value.{Value}
use Rattle.dm_schema.specs.declared.column.Kind.{Kind}
use Rattle.dm_schema.specs.declared.column.Column.{Column}
use Rattle.dm_lex.specs.declared.token.TokenKind.{TokenKind}
use Rattle.dm_lex.specs.declared.token.TokenKind.TheVariants as token
use Rattle.dm_grammar.specs.Grammar.{Grammar, Letter}
use Rattle.dm_grammar.specs.Grammar as grammar
use Rattle.dm_dump.specs.declared.terminal.TheConstants as terminal
use Rattle.dm_dump.specs.declared.class.TheConstants as class
use Rattle.dm_dump.specs.declared.role.TheConstants as role
use Rattle.dm_dump.specs.Terminals.{in_class}
use Rattle.dm_dump.specs.Productions as rule
use Rattle.dm_reread.specs.Parts.{Part, Spelling, spelled, behind_comma, comma_parts, value_parts, all_value_parts}
use Rattle.dm_reread.specs.Read.{IsRead, Null, Literal, Minus, is_literal}
use Rattle.dm_reread.proofs.Laws.{spelled_of_both}
use Rattle.dm_write.proofs.Speaking.{Speaks, nothing, word as a_word, both, before, one, other, passing, no_more, more, single, listed}
use Rattle.dm_write.proofs.DumpTokens.{terminal_seen}
use Rattle.dm_write.proofs.RowValues.{AreRead}

-- a token that isn't kept
abbrev pub fill : Spelling → Letter
fill s = (terminal_seen s, role.FILLER)

abbrev pub fills : List Spelling → List Letter
fills spellings = map fill spellings

-- the letters of parts that aren't kept
abbrev pub filled : List Part → List Letter
filled parts = fills (spelled parts)

pub filled_both : (front back : List Part) → filled (front ++ back) ≡ filled front ++ filled back
filled_both front back = ap fills (spelled_of_both front back) ∙ map-append fill (spelled front) (spelled back)

-- Rows.

says_literal : (kind : ℕ) → kind ≡ terminal.NUMBER → Speaks in_class rule.literal ((kind, role.FILLER) ∷ [])
says_literal kind e = rw e (other _ (one _ (a_word terminal.NUMBER role.FILLER terminal.NUMBER refl refl)))

says_token : (kind : TokenKind) (bytes : List ℕ) → is_literal kind ≡ true → Speaks in_class rule.literal (fill (record { kind = kind; bytes = bytes }) ∷ [])
says_token token.Word bytes h = absurd cc
says_token token.Quoted bytes h = absurd cc
says_token token.Text bytes h = other _ (other _ (other _ (one _ (a_word terminal.STRING role.FILLER terminal.STRING refl refl))))
says_token token.Hex bytes h = other _ (other _ (other _ (other _ (one _ (a_word terminal.HEXADECIMAL role.FILLER terminal.HEXADECIMAL refl refl)))))
says_token token.Number bytes h = other _ (one _ (a_word terminal.NUMBER role.FILLER terminal.NUMBER refl refl))
says_token token.Mark bytes h = absurd cc

abbrev SaysParts : List Part → Type 0
SaysParts parts = Speaks in_class rule.literal (filled parts)

pub says_value : (k : Kind) (v : Value) (parts : List Part) → IsRead k v parts → SaysParts parts
says_value k v parts (Null is e h) = subst SaysParts (sym e) (other _ (other _ (other _ (other _ (other _ (a_word terminal.TRUTH role.FILLER terminal.TRUTH refl refl))))))
says_value k v parts (Literal kind bytes is e h) = subst SaysParts (sym e) (says_token kind bytes is)
says_value k v parts (Minus digits e h) = subst SaysParts (sym e) (one _ (before terminal.MINUS role.FILLER terminal.MINUS _ refl refl (a_word terminal.NUMBER role.FILLER terminal.NUMBER refl refl)))

abbrev AllSay : List (List Part) → Type 0
AllSay [] = ⊤
AllSay (item ∷ items) = SaysParts item × AllSay items

all_say : (cs : List Column) (vs : List Value) → AreRead cs vs → AllSay (all_value_parts cs vs)
all_say [] [] read = tt
all_say [] (v ∷ vs) read = absurd read
all_say (c ∷ cs) [] read = absurd read
all_say (c ∷ cs) (v ∷ vs) read = (says_value c.kind v (value_parts c.kind v) read.0, all_say cs vs read.2)

says_items : (item : List Part) (items : List (List Part)) → SaysParts item → AllSay items → Speaks in_class (rule.separated rule.literal) (filled (item ++ flat_map behind_comma items))
says_items item [] p rest = subst (λ (ps : List Part). Speaks in_class (rule.separated rule.literal) (filled ps)) (sym (append-nil item)) (single terminal.COMMA role.FILLER _ p)
says_items item (next ∷ items) p rest =
    subst (λ (ls : List Letter). Speaks in_class (rule.separated rule.literal) ls) (sym (filled_both item (flat_map behind_comma (next ∷ items))))
    (listed terminal.COMMA role.FILLER terminal.COMMA _ _ refl refl p (says_items next items rest.0 rest.1))

says_all : (items : List (List Part)) → AllSay items → Speaks in_class (rule.optional (rule.separated rule.literal)) (filled (comma_parts items))
says_all [] all = one _ nothing
says_all (item ∷ items) all = other _ (says_items item items all.0 all.1)

abbrev pub row_letters : List Column → List Value → List Letter
row_letters cs vs = (terminal.OPENING, role.ROW_OPEN) ∷ filled (comma_parts (all_value_parts cs vs)) ++ (terminal.CLOSING, role.ROW_CLOSE) ∷ []

says_row : (cs : List Column) (vs : List Value) → AreRead cs vs → Speaks in_class rule.row (row_letters cs vs)
says_row cs vs read =
    before terminal.OPENING role.ROW_OPEN terminal.OPENING _ refl refl
    (both _ _ (says_all (all_value_parts cs vs) (all_say cs vs read)) (a_word terminal.CLOSING role.ROW_CLOSE terminal.CLOSING refl refl))

abbrev pub RowsAreRead : List Column → List (List Value) → Type 0
RowsAreRead cs [] = ⊤
RowsAreRead cs (row ∷ rows) = AreRead cs row × RowsAreRead cs rows

abbrev pub more_rows : List Column → List (List Value) → List Letter
more_rows cs rows = flat_map (λ row. (terminal.COMMA, role.FILLER) ∷ row_letters cs row) rows

says_rows : (cs : List Column) (row : List Value) (rows : List (List Value)) → AreRead cs row → RowsAreRead cs rows → Speaks in_class (rule.separated rule.row) (row_letters cs row ++ more_rows cs rows)
says_rows cs row [] read rest = subst (λ (ls : List Letter). Speaks in_class (rule.separated rule.row) ls) (sym (append-nil (row_letters cs row))) (single terminal.COMMA role.FILLER _ (says_row cs row read))
says_rows cs row (next ∷ rows) read rest = listed terminal.COMMA role.FILLER terminal.COMMA _ _ refl refl (says_row cs row read) (says_rows cs next rows rest.0 rest.1)

abbrev pub insert_letters : List Column → List Value → List (List Value) → List Letter
insert_letters cs row rows = (terminal.INSERT, role.INSERT) ∷ (terminal.INTO, role.FILLER) ∷ (terminal.QUOTED, role.NAME) ∷ (terminal.VALUES, role.VALUES) ∷ (row_letters cs row ++ more_rows cs rows)

says_insert : (cs : List Column) (row : List Value) (rows : List (List Value)) → AreRead cs row → RowsAreRead cs rows → Speaks in_class rule.insert (insert_letters cs row rows)
says_insert cs row rows read rest =
    before terminal.INSERT role.INSERT terminal.INSERT _ refl refl (before terminal.INTO role.FILLER terminal.INTO _ refl refl
    (both ((terminal.QUOTED, role.NAME) ∷ []) _ (before class.NAME role.NAME terminal.QUOTED [] refl refl (one _ nothing))
    (passing _ (before terminal.VALUES role.VALUES terminal.VALUES _ refl refl (says_rows cs row rows read rest)))))

-- The CREATE TABLE.

-- no `;`
abbrev pub is_inner : Spelling → Bool
is_inner s = not (terminal_seen s == terminal.SEMICOLON)

says_anything : (spellings : List Spelling) → list_all is_inner spellings ≡ true → Speaks in_class rule.anything (fills spellings)
says_anything [] inner = no_more
says_anything (s ∷ ss) inner =
    let parts = and_parts (is_inner s) (list_all is_inner ss) inner in
    more (fill s ∷ []) (fills ss) (a_word class.ANY role.FILLER (terminal_seen s) parts.0 refl) (says_anything ss parts.1)

abbrev pub create_letters : List Spelling → List Letter
create_letters spellings = (terminal.CREATE, role.CREATE) ∷ (terminal.TABLE, role.TABLE) ∷ fills spellings

says_create : (spellings : List Spelling) → list_all is_inner spellings ≡ true → Speaks in_class rule.create (create_letters spellings)
says_create spellings inner = before terminal.CREATE role.CREATE terminal.CREATE _ refl refl (before terminal.TABLE role.TABLE terminal.TABLE _ refl refl (says_anything spellings inner))

-- The dump.

abbrev pub end_letter : Letter
end_letter = (terminal.SEMICOLON, role.END)

-- what stands behind the CREATE's `;`
abbrev pub rows_letters : List Column → List (List Value) → List Letter
rows_letters cs [] = []
rows_letters cs (row ∷ rows) = insert_letters cs row rows ++ end_letter ∷ []

abbrev pub dump_letters : List Spelling → List Column → List (List Value) → List Letter
dump_letters spellings cs rows = create_letters spellings ++ end_letter ∷ rows_letters cs rows

abbrev more_statements : Grammar
more_statements = grammar.Many (grammar.Seq (grammar.Word terminal.SEMICOLON role.END) rule.statement)

no_statement : Speaks in_class (grammar.Seq (grammar.Word terminal.SEMICOLON role.END) rule.statement) (end_letter ∷ [])
no_statement = before terminal.SEMICOLON role.END terminal.SEMICOLON [] refl refl (one [] nothing)

says_rest : (cs : List Column) (rows : List (List Value)) → RowsAreRead cs rows → Speaks in_class more_statements (end_letter ∷ rows_letters cs rows)
says_rest cs [] read = more (end_letter ∷ []) [] no_statement no_more
says_rest cs (row ∷ rows) read =
    more (end_letter ∷ insert_letters cs row rows) (end_letter ∷ [])
    (before terminal.SEMICOLON role.END terminal.SEMICOLON _ refl refl (other _ (other _ (other _ (says_insert cs row rows read.0 read.1)))))
    (more (end_letter ∷ []) [] no_statement no_more)

pub says_dump : (spellings : List Spelling) (cs : List Column) (rows : List (List Value)) → list_all is_inner spellings ≡ true → RowsAreRead cs rows → Speaks in_class rule.dump_grammar (dump_letters spellings cs rows)
says_dump spellings cs rows inner read = both (create_letters spellings) _ (other _ (other _ (one _ (says_create spellings inner)))) (says_rest cs rows read)

-- the rows line alone
pub says_rows_line : (cs : List Column) (row : List Value) (rows : List (List Value)) → AreRead cs row → RowsAreRead cs rows → Speaks in_class rule.dump_grammar (insert_letters cs row rows ++ end_letter ∷ [])
says_rows_line cs row rows read rest =
    both (insert_letters cs row rows) (end_letter ∷ []) (other _ (other _ (other _ (says_insert cs row rows read rest)))) (more (end_letter ∷ []) [] no_statement no_more)
