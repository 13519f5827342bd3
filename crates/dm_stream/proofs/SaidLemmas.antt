-- What an event says, by its kind.
use Rattle.std.proofs.Common.{◌≡◌, ◌==◌, ℕ, Bool, true, false, List, Result, Err, refl, sym, ap, ◌∙◌}
use Rattle.std.specs.Prelude.{IfOk, ⊤}
use Rattle.std.specs.declared.alloc.AllocError.{AllocError}
use Rattle.std.proofs.lemmas.Bool.{false≢true, eqb-true}
use Rattle.std.proofs.lemmas.Result.{IfOk-weaker}
use Rattle.dm_binlog.specs.declared.event.Event.{Event}
use Rattle.dm_binlog.specs.declared.event.TheConstants.{QUERY, TABLE_MAP}
use Rattle.dm_binlog.specs.Bodies.{query_of, rows_head_of}
use Rattle.dm_syntax.specs.declared.fault.DdlFault.{DdlFault}
use Rattle.dm_syntax.specs.Parsing.{OrMemory, is_memory}
use Rattle.dm_stream.specs.declared.event.Said as program_said
use Rattle.dm_stream.specs.Sayings.{Heads, body_of, is_rows, query_said, rows_said, said_of}
use Rattle.dm_stream.specs.Views.{seen_said}

said_query : (heads : Heads) (file : List ℕ) (before : List Event) (e : Event) → e.kind ≡ QUERY → said_of heads file before e ≡ query_said heads (query_of (body_of file e))
said_query heads file before e kind = rw kind refl

not_at : (kind n : ℕ) → is_rows n ≡ false → is_rows kind ≡ true → (kind == n) ≡ false
not_at kind n other rows = by (kind == n) refl where
  by : (b : Bool) → (kind == n) ≡ b → (kind == n) ≡ false
  by true e = absurd (false≢true (sym other ∙ ap is_rows (sym (eqb-true kind n e)) ∙ rows))
  by false e = e

said_rows : (heads : Heads) (file : List ℕ) (before : List Event) (e : Event) → is_rows e.kind ≡ true → said_of heads file before e ≡ rows_said file before (rows_head_of e.kind (body_of file e))
said_rows heads file before e rows = rw (not_at e.kind QUERY refl rows, not_at e.kind TABLE_MAP refl rows, rows) refl

pub query_says : (heads : Heads) (file body : List ℕ) (before : List Event) (e : Event) (r : Result program_said.Said AllocError) → e.kind ≡ QUERY → body ≡ body_of file e
    → IfOk r (λ said. seen_said said ≡ query_said heads (query_of body)) → IfOk r (λ said. seen_said said ≡ said_of heads file before e)
query_says heads file body before e r kind here says =
    IfOk-weaker r _ _ (λ said h. h ∙ ap (λ (b : List ℕ). query_said heads (query_of b)) here ∙ sym (said_query heads file before e kind)) says

pub rows_say : (heads : Heads) (file : List ℕ) (before : List Event) (e : Event) (r : Result program_said.Said AllocError) → is_rows e.kind ≡ true
    → IfOk r (λ said. seen_said said ≡ rows_said file before (rows_head_of e.kind (body_of file e))) → IfOk r (λ said. seen_said said ≡ said_of heads file before e)
rows_say heads file before e r rows says = IfOk-weaker r _ _ (λ said h. h ∙ sym (said_rows heads file before e rows)) says

pub not_memory : {A : Type 0} (Holds : Result A DdlFault → Type 0) (fault : DdlFault) (memory : Bool) → memory ≡ is_memory fault → memory ≡ false → OrMemory Holds (Err fault) → Holds (Err fault)
not_memory {A} Holds fault memory tells none h = by (is_memory fault) (sym tells ∙ none) h where
  by : (b : Bool) → b ≡ false → (elim b as (λ x. Type 0) [ false ↦ Holds (Err fault) | true ↦ ⊤ ]) → Holds (Err fault)
  by false e h = h
  by true e h = absurd cc
