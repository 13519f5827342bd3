-- What the answer of a target in memory says of the record whose call it was.
use Rattle.std.proofs.Common.{◌≡◌, false, List, Option, Some, None, Result, Ok, Err, sym, ap, ◌∙◌}
use Rattle.std.proofs.lemmas.Option.{same_Some}
use Rattle.std.specs.Prelude.{option_and_then}
use Rattle.std.specs.Option.{option_map}
use Rattle.dm_schema.specs.declared.change.Change.{Change}
use Rattle.dm_schema.specs.declared.table_name.TableName.{TableName}
use Rattle.dm_schema.specs.Layout.{Layout}
use Rattle.dm_schema.specs.Schemas.{in_order}
use Rattle.dm_table.specs.Contents.{TableContent}
use Rattle.dm_table.specs.declared.fault.TableFault.{TableFault}
use Rattle.dm_target.specs.Contents.{Content, effect, table_of}
use Rattle.dm_target.specs.declared.call.Call.{Call}
use Rattle.dm_target.specs.declared.call.Call.TheVariants as call
use Rattle.dm_target.specs.declared.memory.MemoryTarget.{MemoryTarget}
use Rattle.dm_target.specs.declared.target.TargetError.{TargetError}
use Rattle.dm_target.specs.declared.target.TargetError.TheVariants as error
use Rattle.dm_target.specs.Memory.{calls_of, content_of}
use Rattle.dm_target.specs.Writing.{Grows, Writes}
use Rattle.dm_stmt.specs.declared.record.Record.{Record}
use Rattle.dm_stmt.specs.declared.record.Record.TheVariants as record_of
use Rattle.dm_journal.specs.Contents.{call_of, changed_by}
use Rattle.dm_journal.specs.Carrying.{MatchCall, judged}
use Rattle.dm_journal.proofs.KnownSchemas.{layout_of}

ok_not_err : {a : Content} {f : TableFault} → ◌≡◌ {A = Result Content TableFault} (Ok a) (Err f) → ⊥
ok_not_err e = cc

-- a call that is made, or refused, is what its record stands for
pub performed : (said : Record) (before after : MemoryTarget) (done : Call) (answer : Result (Unit {0}) TargetError) → call_of (content_of before) said ≡ Some done
    → Writes done (λ c. false) (Some (content_of before)) (Some (content_of after)) answer → Grows done (Some (calls_of before)) (Some (calls_of after)) answer → MatchCall said before after (judged answer)
performed said before after done (Ok t) stands writes grows = record {
  done = done;
  stands_for = stands;
  leaves = writes.0.1 ∙ ap Ok (sym (same_Some _ _ writes.0.2));
  noted = same_Some _ _ grows;
}
performed said before after done (Err (error.Rejected f)) stands writes grows =
    λ other left stands_too leaves.
    let is : done ≡ other = same_Some _ _ (sym stands ∙ stands_too) in
    ok_not_err (sym leaves ∙ ap (λ c. effect c (content_of before)) (sym is) ∙ writes.0)
performed said before after done (Err error.Failed) stands writes grows = tt
performed said before after done (Err error.Full) stands writes grows = tt
performed said before after done (Err error.Memory) stands writes grows = tt

-- an alteration's record stands for one to the schema that its changes make
pub altering_stands : (content : Content) (table : TableName) (changes : List Change) (there after : Layout) → Some there ≡ option_map layout_of (table_of content table) → changed_by changes there ≡ Some after
    → call_of content (record_of.Alter table changes) ≡ Some (call.Alter table (in_order after))
altering_stands content table changes there after is makes = by (table_of content table) is where
  by : (o : Option TableContent) → Some there ≡ option_map layout_of o
      → option_and_then (λ layout. Some (call.Alter table (in_order layout))) (option_and_then (λ t. changed_by changes t.layout) o) ≡ Some (call.Alter table (in_order after))
  by None e = absurd cc
  by (Some t) e = ap (option_and_then (λ layout. Some (call.Alter table (in_order layout)))) (ap (changed_by changes) (sym (same_Some _ _ e)) ∙ makes)
