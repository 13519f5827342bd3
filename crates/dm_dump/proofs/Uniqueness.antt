-- A text has one reading as a dump.
use Rattle.std.proofs.Common.{◌≡◌, ℕ, List, Option, Result, Ok, Err, refl, sym, ap, ◌∙◌, None}
use Rattle.dm_grammar.specs.Reading.{Outcome}
use Rattle.dm_grammar.proofs.Uniqueness.{ready_reading}
use Rattle.dm_lex.specs.Tokens.{lexed_of}
use Rattle.dm_schema.specs.Layout.{Layout}
use Rattle.dm_dump.specs.declared.fault.DumpFault.{DumpFault}
use Rattle.dm_dump.specs.declared.inserts.Inserts.{Inserts}
use Rattle.dm_dump.specs.declared.outline.Outline.{Outline}
use Rattle.dm_dump.specs.Terminals.{in_class}
use Rattle.dm_dump.specs.Productions.{dump_grammar}
use Rattle.dm_dump.specs.Reading.{kinds_of, Contents, contents, HasContents}
use Rattle.dm_dump.specs.Streams.{all_contents}
use Rattle.dm_dump.specs.Outlines.{outline_of, HasOutline}
use Rattle.dm_dump.specs.Rows.{rows_of, HasRows}
use Rattle.dm_dump.proofs.Ready.{dump_ready}
use Rattle.dm_dump.proofs.Small.{kinds_small}

-- what a text has is what reading gives
pub has_only_contents : (text : List ℕ) (all : Contents) → HasContents text all → all ≡ all_contents text
has_only_contents text all (roles, first, reading, e) =
    let tokens = (lexed_of text).tokens in
    e
    ∙ ap (λ (o : Outcome). contents text None (lexed_of text) o.0 o.1) (sym (ready_reading in_class dump_grammar (kinds_of text tokens) roles first (kinds_small text tokens) dump_ready reading))

pub has_one_contents : (text : List ℕ) (a b : Contents) → HasContents text a → HasContents text b → a ≡ b
has_one_contents text a b has other = has_only_contents text a has ∙ sym (has_only_contents text b other)

pub has_one_outline : (text : List ℕ) (a b : Outline) → HasOutline text a → HasOutline text b → a ≡ b
has_one_outline text a b (one, has, e) (two, other, f) = e ∙ ap (outline_of text) (has_one_contents text one two has other) ∙ sym f

pub has_one_rows : (text table : List ℕ) (layout : Layout) (a b : Result Inserts DumpFault) → HasRows text table layout a → HasRows text table layout b → a ≡ b
has_one_rows text table layout a b (one, has, e) (two, other, f) = e ∙ ap (rows_of text table layout) (has_one_contents text one two has other) ∙ sym f
