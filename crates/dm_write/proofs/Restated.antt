-- A written CREATE TABLE is read as the CREATE TABLE of its table and schema.
use Rattle.std.proofs.Common.{◌≡◌, ◌==◌, ◌<◌, ℕ, Bool, true, false, cond, leb, List, [], ◌∷◌, ◌++◌, map, length, All, Option, None, Result, Ok, refl, ap, ◌∙◌, subst}
use Rattle.std.specs.Option.{option_map, option_map_or}
use Rattle.std.specs.List.{list_any, list_all, filter, find}
use Rattle.dm_schema.specs.Layout.{Layout}
use Rattle.dm_schema.specs.Kinds.{is_folded, is_key}
use Rattle.dm_schema.specs.Schemas.{is_formed}
use Rattle.dm_lex.specs.declared.token.Token.{Token}
use Rattle.dm_lex.specs.declared.token.LexFault.{LexFault}
use Rattle.dm_lex.specs.Tokens.{tokens_of}
use Rattle.dm_grammar.specs.Grammar.{Letter}
use Rattle.dm_grammar.specs.Sentence as sentence
use Rattle.dm_grammar.specs.Sentence.{IsReading}
use Rattle.dm_grammar.specs.declared.reader.Fault.{Fault}
use Rattle.dm_syntax.specs.declared.fault.DdlFault.{DdlFault}
use Rattle.dm_syntax.specs.declared.parsing.Extent.TheVariants as extent
use Rattle.dm_syntax.specs.declared.piece.Piece.{Piece}
use Rattle.dm_syntax.specs.declared.role.TheConstants as role
use Rattle.dm_syntax.specs.Classes.{in_class}
use Rattle.dm_syntax.specs.Productions.{create_table_statement, statement_grammar}
use Rattle.dm_syntax.specs.Parsing.{kinds_of, placed, Says, SaysLexed}
use Rattle.dm_syntax.specs.Pieces.{terminal_of, pieces_of, has_role, begins, parts}
use Rattle.dm_syntax.specs.Names.{name_with}
use Rattle.dm_syntax.proofs.Ready.{create_table_statement_ready}
use Rattle.dm_syntax.proofs.Terminals.{kinds_small}
use Rattle.dm_ddl.specs.declared.names.Named.{Named}
use Rattle.dm_ddl.specs.declared.statements.Statement.{Statement}
use Rattle.dm_ddl.specs.declared.statements.Statement.TheVariants as statement
use Rattle.dm_ddl.specs.Names.{table_in, is_table_part, first_of, first_table}
use Rattle.dm_ddl.specs.Bounds.{items_of, item_roles, first_excess}
use Rattle.dm_ddl.specs.Creating.{schema_in}
use Rattle.dm_ddl.specs.Statements.{create_of, alters, alter_of, statement_of, unless_excess, statement_unless}
use Rattle.dm_reread.specs.Parts.{spelling_of, spelled}
use Rattle.dm_reread.proofs.Laws.{name_is_read}
use Rattle.dm_grammar.proofs.Uniqueness.{one_reading}
use Rattle.dm_write.proofs.Splitting.{parts_map, part_last, all_both}
use Rattle.dm_write.proofs.Speaking.{sentence as a_sentence}
use Rattle.dm_write.proofs.StatementTokens.{terminal_seen, seen_as}
use Rattle.dm_write.proofs.Signs as sign
use Rattle.dm_write.proofs.Signs.{Sign, letters_of, spellings}
use Rattle.dm_write.proofs.StatementParts.{statement_parts, statement_as}
use Rattle.dm_write.proofs.CreateSentence.{ColumnsAreRead, says_create}
use Rattle.dm_write.proofs.Seen.{Seen, seen, all_seen, shown, roles, seen_pieces, has, has_seen, name_seen, name_with_seen}
use Rattle.dm_write.proofs.Meaning.{starts, each_seen, items_seen, schema_seen, schema_of_seen, has_excess, no_first_excess}
use Rattle.dm_write.proofs.ColumnItems.{all_shown, only, lacks, starts_none}
use Rattle.dm_write.proofs.CreateSchema.{closing, items, each_shown, ColumnsAreWritten, KeysAreWritten, items_said, items_make}
use Rattle.dm_write.proofs.CreateItems.{is_body, body_roles, items_split}

-- what holds of a schema that is written and read again
pub record IsWrittenLayout (layout : Layout) : Type 0 where
  pub columns : ColumnsAreWritten layout.columns
  pub read : ColumnsAreRead layout.columns
  pub primary : list_all is_folded layout.primary ≡ true
  pub some : (length layout.primary == 0) ≡ false
  pub keys : KeysAreWritten layout.uniques
  pub are_keys : list_all is_key layout.uniques ≡ true
  pub formed : is_formed layout ≡ true
  pub few : leb (length layout.columns) 256 ≡ true

abbrev opening : Sign
opening = sign.mark 40 role.DEFINITION

abbrev body : Layout → List Sign
body layout = sign.definition_signs layout.columns layout.primary layout.uniques ++ closing

body_is_body : (layout : Layout) → only is_body (body layout) ≡ true
body_is_body layout = all_both (λ s. is_body s.role) (sign.definition_signs layout.columns layout.primary layout.uniques) closing (body_roles layout.columns layout.primary layout.uniques) refl

body_lacks : (layout : Layout) (its_role : ℕ) → is_body its_role ≡ false → has its_role (all_shown (body layout)) ≡ false
body_lacks layout its_role q = lacks is_body its_role (body layout) (body_is_body layout) q

-- The table.

abbrev pub plain_table : List ℕ → Named
plain_table table = record { db = None; table = table }

-- the table's name and what stands behind it
abbrev named : List ℕ → Layout → List Seen
named table layout = all_shown (sign.name table role.NAME_PART ∷ opening ∷ body layout)

no_tables : (xss : List (List Seen)) (x : List Seen) → [] ≡ x ∷ xss → ⊥
no_tables xss x e = absurd cc

one_table : (text table : List ℕ) (layout : Layout) (part : List Piece) → all_seen text part ≡ named table layout → first_of (map (table_in text) (filter is_table_part (part ∷ []))) ≡ plain_table table
one_table text table layout part e =
    let exists : has_role role.EXISTS part ≡ false = has_seen text role.EXISTS part ∙ ap (has role.EXISTS) e ∙ body_lacks layout role.EXISTS refl in
    let second : has_role role.NAME_SECOND part ≡ false = has_seen text role.NAME_SECOND part ∙ ap (has role.NAME_SECOND) e ∙ body_lacks layout role.NAME_SECOND refl in
    let name : name_with text role.NAME_PART part ≡ table =
    name_with_seen text role.NAME_PART part ∙ ap (λ xs. option_map_or (λ s. name_seen s.spelling) (find (λ s. s.role == role.NAME_PART) xs) []) e ∙ name_is_read table in
    rw (exists, second, name) refl

table_of_parts : (text table : List ℕ) (layout : Layout) (pss : List (List Piece)) → each_seen text pss ≡ named table layout ∷ [] → first_of (map (table_in text) (filter is_table_part pss)) ≡ plain_table table
table_of_parts text table layout [] e = absurd cc
table_of_parts text table layout (part ∷ []) e = let same : all_seen text part ≡ named table layout = cc in one_table text table layout part same
table_of_parts text table layout (part ∷ next ∷ pss) e = absurd cc

named_split : (table : List ℕ) (layout : Layout) → parts (starts (role.NAME_PART ∷ [])) (all_shown (sign.create_signs table layout)) ≡ named table layout ∷ []
named_split table layout =
    part_last (starts (role.NAME_PART ∷ [])) (shown (sign.name table role.NAME_PART)) (all_shown (opening ∷ body layout)) refl
    (starts_none is_body (role.NAME_PART ∷ []) (opening ∷ body layout) (body_is_body layout) refl)

table_is_read : (text table : List ℕ) (layout : Layout) (ps : List Piece) → all_seen text ps ≡ all_shown (sign.create_signs table layout) → first_table text ps ≡ plain_table table
table_is_read text table layout ps e =
    table_of_parts text table layout (parts (begins (role.NAME_PART ∷ [])) ps)
    (parts_map (seen text) (starts (role.NAME_PART ∷ [])) ps ∙ ap (parts (starts (role.NAME_PART ∷ []))) e ∙ named_split table layout)

-- The statement.

abbrev pub the_create : List ℕ → Layout → Result Statement DdlFault
the_create table layout = Ok (statement.Create (plain_table table) layout false)

items_are : (text table : List ℕ) (layout : Layout) (ps : List Piece) → all_seen text ps ≡ all_shown (sign.create_signs table layout) → each_seen text (items_of ps) ≡ each_shown (items opening layout.columns layout.primary layout.uniques)
items_are text table layout ps e = items_seen text ps ∙ ap (parts (starts item_roles)) e ∙ items_split opening layout.columns layout.primary layout.uniques

pieces_say : (text table : List ℕ) (layout : Layout) (ps : List Piece) → IsWrittenLayout layout → all_seen text ps ≡ all_shown (sign.create_signs table layout) → statement_unless text ps None ≡ the_create table layout
pieces_say text table layout ps w e =
    let all = items_are text table layout ps e in
    let said = items_said layout.primary opening layout.columns layout.primary layout.uniques w.columns w.primary w.keys in
    let small : first_excess text (items_of ps) ≡ None = no_first_excess text (items_of ps) (ap (list_any has_excess) all ∙ said.small) in
    let schema : schema_in text (items_of ps) ≡ Ok layout =
    schema_seen text (items_of ps) ∙ ap schema_of_seen all ∙ items_make opening layout w.columns w.primary w.keys w.formed w.few in
    let creates : has_role role.CREATE_TABLE ps ≡ true = has_seen text role.CREATE_TABLE ps ∙ ap (has role.CREATE_TABLE) e in
    let exists : has_role role.EXISTS ps ≡ false = has_seen text role.EXISTS ps ∙ ap (has role.EXISTS) e ∙ body_lacks layout role.EXISTS refl in
    (λ i. unless_excess (small i) (statement_of text ps))
    ∙ (λ i. cond (creates i) (create_of text ps (schema_in text (items_of ps))) (if_not (alters ps) text ps))
    ∙ ap (create_of text ps) schema
    ∙ (λ i. let made : Result Statement DdlFault = Ok (statement.Create (table_is_read text table layout ps e i) layout (exists i)) in made)
  where
    if_not : Bool → List ℕ → List Piece → Result Statement DdlFault
    if_not b text ps = cond b (alter_of text ps) (Ok statement.Other)

-- Its tokens.

kinds_as : (text : List ℕ) (tokens : List Token) (signs : List Sign) → map (spelling_of text) tokens ≡ spellings signs → kinds_of text tokens ≡ sentence.kinds_of (letters_of signs)
kinds_as text [] [] e = refl
kinds_as text [] (s ∷ ss) e = absurd cc
kinds_as text (t ∷ ts) [] e = absurd cc
kinds_as text (t ∷ ts) (s ∷ ss) e =
    let head : spelling_of text t ≡ s.spelling = cc in
    let tail : map (spelling_of text) ts ≡ spellings ss = cc in
    let here : terminal_of text t ≡ terminal_seen s.spelling = seen_as text t ∙ ap terminal_seen head in
    λ i. here i ∷ kinds_as text ts ss tail i

roles_as : (signs : List Sign) → sentence.roles_of (letters_of signs) ≡ roles signs
roles_as [] = refl
roles_as (s ∷ ss) = ap (λ z. s.role ∷ z) (roles_as ss)

abbrev kinds_in : List ℕ → Layout → List ℕ
kinds_in table layout = sentence.kinds_of (letters_of (sign.create_signs table layout))

-- a reading of these kinds has these roles
only_reading : (table : List ℕ) (layout : Layout) (kinds found : List ℕ) (first : Option Fault) → IsWrittenLayout layout → kinds ≡ kinds_in table layout → All (λ kind. kind < 128) kinds → IsReading in_class (statement_grammar kinds) kinds found first
    → (found ≡ roles (sign.create_signs table layout)) × (first ≡ None)
only_reading table layout kinds found first w same small reading =
    let letters : List Letter = letters_of (sign.create_signs table layout) in
    let there = subst (λ ks. IsReading in_class (statement_grammar ks) ks found first) same reading in
    let spoken = a_sentence in_class create_table_statement letters (says_create table layout w.read w.some w.are_keys) in
    let read = one_reading in_class create_table_statement (kinds_in table layout) found (sentence.roles_of letters) first None (subst (All (λ kind. kind < 128)) same small) create_table_statement_ready there spoken in
    (read.0 ∙ roles_as (sign.create_signs table layout), read.1)

tokens_say : (text table : List ℕ) (layout : Layout) (tokens : List Token) (said : Result Statement DdlFault) → IsWrittenLayout layout → map (spelling_of text) tokens ≡ spellings (sign.create_signs table layout)
    → SaysLexed extent.Whole (statement_unless text) text (Ok tokens) said → said ≡ the_create table layout
tokens_say text table layout tokens said w spell (pieces, fault, (found, first, reading, made, at), answer) =
    let one = only_reading table layout (kinds_of text tokens) found first w (kinds_as text tokens (sign.create_signs table layout) spell) (kinds_small text tokens) reading in
    let same : pieces ≡ pieces_of tokens (kinds_of text tokens) (roles (sign.create_signs table layout)) = made ∙ ap (pieces_of tokens (kinds_of text tokens)) one.0 in
    let none : fault ≡ None = at ∙ ap (option_map (placed text tokens)) one.1 in
    answer ∙ (λ i. statement_unless text (same i) (none i))
    ∙ pieces_say text table layout (pieces_of tokens (kinds_of text tokens) (roles (sign.create_signs table layout))) w (seen_pieces text tokens (sign.create_signs table layout) spell)

-- whatever the text of these tokens is said to say, it says the CREATE TABLE
pub says_the_create : (text table : List ℕ) (layout : Layout) (tokens : List Token) (said : Result Statement DdlFault) → IsWrittenLayout layout → tokens_of text ≡ Ok tokens → map (spelling_of text) tokens ≡ spelled (statement_parts table layout)
    → Says extent.Whole (statement_unless text) text said → said ≡ the_create table layout
says_the_create text table layout tokens said w lexed spell says =
    tokens_say text table layout tokens said w (spell ∙ statement_as table layout) (subst (λ (r : Result (List Token) LexFault). SaysLexed extent.Whole (statement_unless text) text r said) lexed says)
