-- Reading token by token: what one step leaves of a dump's contents.
use Rattle.std.proofs.Common.{◌≡◌, ◌==◌, ℕ, Bool, true, false, cond, List, [], ◌∷◌, filter, Option, Some, None, refl, sym, ap, ◌∙◌, subst, unwrap_or}
use Rattle.std.specs.Option.{option_map}
use Rattle.dm_grammar.specs.Grammar.{Grammar, unsupported}
use Rattle.dm_grammar.specs.Determinism.{is_nullable}
use Rattle.dm_grammar.specs.Reading.{Outcome, later, with_role, read_from, read_behind, Takes, ReadsAs}
use Rattle.dm_grammar.specs.declared.reader.Fault.{Fault}
use Rattle.dm_grammar.specs.declared.reader.Fault.TheVariants.{Syntax, Unsupported}
use Rattle.dm_grammar.proofs.Prepend.{read_end}
use Rattle.dm_grammar.proofs.Exact.{ready_reads}
use Rattle.dm_lex.specs.declared.token.Token.{Token}
use Rattle.dm_lex.specs.declared.token.LexFault.{LexFault}
use Rattle.dm_lex.specs.Tokens.{Lexed, with_token, lexed_of}
use Rattle.dm_syntax.specs.declared.piece.Piece.{Piece}
use Rattle.dm_syntax.specs.Pieces.{pieces_of}
use Rattle.dm_dump.specs.declared.fault.Fault as dump
use Rattle.dm_dump.specs.declared.terminal.TheConstants as terminal
use Rattle.dm_dump.specs.Terminals.{terminal_of, in_class}
use Rattle.dm_dump.specs.Productions.{dump_grammar}
use Rattle.dm_dump.specs.Reading.{kinds_of, number_of, counts, ending, Contents, contents, HasContents}
use Rattle.dm_dump.specs.Streams.{contents_from, all_contents, begun_behind, with_first, with_piece, ended, stopped_at, ended_with}
use Rattle.dm_dump.proofs.Ready.{dump_ready}
use Rattle.dm_dump.proofs.Small.{kinds_small}

-- what the reader gives is what the text has
pub has_all_contents : (text : List ℕ) → HasContents text (all_contents text)
has_all_contents text =
    let outcome = read_from in_class (kinds_of text (lexed_of text).tokens) dump_grammar in
    (outcome.0, outcome.1, ready_reads in_class dump_grammar (kinds_of text (lexed_of text).tokens) (kinds_small text (lexed_of text).tokens) dump_ready, refl)

pub begins_as : (text : List ℕ) (all : Lexed) (g : Grammar) → ReadsAs g dump_grammar → contents_from text None all g ≡ contents_from text None all dump_grammar
begins_as text all g same = ap (λ (o : Outcome). contents text None all o.0 o.1) (same in_class (kinds_of text all.tokens))

-- A token is taken.

ending_behind : (text : List ℕ) (begun : Option ℕ) (t : Token) (rest : Lexed) (first : Option Fault)
    → ending text begun (with_token t rest) (option_map number_of (later first)) ≡ ending text (begun_behind text begun t) rest (option_map number_of first)
ending_behind text begun t rest None = refl
ending_behind text begun t rest (Some (Syntax n)) = refl
ending_behind text begun t rest (Some (Unsupported n)) = refl

chosen_piece : (b : Bool) (its : Piece) (pieces : List Piece) (one other : Option dump.Fault) → one ≡ other
    → (let made : Contents = record { pieces = cond b (its ∷ pieces) pieces; ending = one } in made)
    ≡ (let rest : Contents = record { pieces = pieces; ending = other } in cond b (with_first its rest) rest)
chosen_piece true its pieces one other e = ap (λ (o : Option dump.Fault). let made : Contents = record { pieces = its ∷ pieces; ending = o } in made) e
chosen_piece false its pieces one other e = ap (λ (o : Option dump.Fault). let made : Contents = record { pieces = pieces; ending = o } in made) e

first_piece : (text : List ℕ) (begun : Option ℕ) (t : Token) (rest : Lexed) (role : ℕ) (roles : List ℕ) (first : Option Fault) (p : Piece) → p ≡ record { token = t; kind = terminal_of text t; role = role }
    → contents text begun (with_token t rest) (role ∷ roles) (later first) ≡ with_piece p (contents text (begun_behind text begun t) rest roles first)
first_piece text begun t rest role roles first p e =
    let its : Piece = record { token = t; kind = terminal_of text t; role = role } in
    rw e (chosen_piece (counts its) its (filter counts (pieces_of rest.tokens (kinds_of text rest.tokens) roles))
    (ending text begun (with_token t rest) (option_map number_of (later first))) (ending text (begun_behind text begun t) rest (option_map number_of first)) (ending_behind text begun t rest first))

known_role : (role : ℕ) (rest : Outcome) (b : Bool) → (role == unsupported) ≡ b → read_behind (Some role) rest ≡ cond b ([], Some (Unsupported 0)) (with_role role rest)
known_role role rest b e = rw e refl

taken_as : (text : List ℕ) (t : Token) (kind : ℕ) (taken : Option ℕ) (g h : Grammar) → kind ≡ terminal_of text t → Takes in_class kind taken g h → Takes in_class (terminal_of text t) taken g h
taken_as text t kind taken g h e takes = subst (λ (k : ℕ). Takes in_class k taken g h) e takes

pub piece_taken : (text : List ℕ) (begun behind : Option ℕ) (t : Token) (rest : Lexed) (g h : Grammar) (taken : Option ℕ) (kind role : ℕ) → kind ≡ terminal_of text t → Takes in_class kind taken g h → taken ≡ Some role
    → (role == unsupported) ≡ false → behind ≡ cond (kind == terminal.SEMICOLON) None (Some (unwrap_or begun t.from))
    → contents_from text begun (with_token t rest) g ≡ with_piece (record { token = t; kind = kind; role = role }) (contents_from text behind rest h)
piece_taken text begun behind t rest g h taken kind role seen takes some known e =
    let left = read_from in_class (kinds_of text rest.tokens) h in
    let same : behind ≡ begun_behind text begun t = e ∙ ap (λ (k : ℕ). let o : Option ℕ = cond (k == terminal.SEMICOLON) None (Some (unwrap_or begun t.from)) in o) seen in
    ap (λ (o : Outcome). contents text begun (with_token t rest) o.0 o.1) (taken_as text t kind taken g h seen takes (kinds_of text rest.tokens) ∙ ap (λ (o : Option ℕ). read_behind o left) some ∙ known_role role left false known)
    ∙ first_piece text begun t rest role left.0 left.1 (record { token = t; kind = kind; role = role }) (ap (λ (k : ℕ). let p : Piece = record { token = t; kind = k; role = role } in p) seen)
    ∙ ap (λ (b : Option ℕ). with_piece (record { token = t; kind = kind; role = role }) (contents text b rest left.0 left.1)) (sym same)

-- Reading stops.

pub token_refused : (text : List ℕ) (begun : Option ℕ) (t : Token) (rest : Lexed) (g h : Grammar) (taken : Option ℕ) (kind : ℕ) (fault : dump.Fault) → kind ≡ terminal_of text t → Takes in_class kind taken g h → taken ≡ None
    → fault ≡ stopped_at text begun t rest → contents_from text begun (with_token t rest) g ≡ ended (Some fault)
token_refused text begun t rest g h taken kind fault seen takes none e =
    let behind = read_from in_class (kinds_of text rest.tokens) h in
    ap (λ (o : Outcome). contents text begun (with_token t rest) o.0 o.1) (taken_as text t kind taken g h seen takes (kinds_of text rest.tokens) ∙ ap (λ (o : Option ℕ). read_behind o behind) none)
    ∙ ap (λ (f : dump.Fault). ended (Some f)) (sym e)

pub token_unsupported : (text : List ℕ) (begun : Option ℕ) (t : Token) (rest : Lexed) (g h : Grammar) (taken : Option ℕ) (kind role : ℕ) (fault : dump.Fault) → kind ≡ terminal_of text t → Takes in_class kind taken g h
    → taken ≡ Some role → (role == unsupported) ≡ true → fault ≡ stopped_at text begun t rest → contents_from text begun (with_token t rest) g ≡ ended (Some fault)
token_unsupported text begun t rest g h taken kind role fault seen takes some known e =
    let behind = read_from in_class (kinds_of text rest.tokens) h in
    ap (λ (o : Outcome). contents text begun (with_token t rest) o.0 o.1) (taken_as text t kind taken g h seen takes (kinds_of text rest.tokens) ∙ ap (λ (o : Option ℕ). read_behind o behind) some ∙ known_role role behind true known)
    ∙ ap (λ (f : dump.Fault). ended (Some f)) (sym e)

at_end : (text : List ℕ) (begun : Option ℕ) (fault : Option LexFault) (b : Bool)
    → (let o : Outcome = cond b ([], None) ([], Some (Syntax 0)) in contents text begun (record { tokens = []; fault = fault }) o.0 o.1) ≡ ended (ended_with text begun b fault)
at_end text begun None true = refl
at_end text begun None false = refl
at_end text begun (Some e) true = refl
at_end text begun (Some e) false = refl

pub tokens_ended : (text : List ℕ) (begun : Option ℕ) (all : Lexed) (g : Grammar) (fault : Option LexFault) → all ≡ record { tokens = []; fault = fault }
    → contents_from text begun all g ≡ ended (ended_with text begun (is_nullable g) fault)
tokens_ended text begun all g fault e =
    ap (λ (l : Lexed). contents_from text begun l g) e
    ∙ ap (λ (o : Outcome). contents text begun (record { tokens = []; fault = fault }) o.0 o.1) (read_end in_class g) ∙ at_end text begun fault (is_nullable g)
