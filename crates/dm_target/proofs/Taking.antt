-- What a call of a target in memory leaves that takes its effect.
use Rattle.std.proofs.Common.{◌≡◌, false, Option, Some, Result, Ok, Err, refl, sym, ap, ◌∙◌}
use Rattle.std.proofs.lemmas.Bool.{false≢true}
use Rattle.dm_schema.specs.declared.table_name.TableName.{TableName}
use Rattle.dm_table.specs.declared.fault.TableFault.{TableFault}
use Rattle.dm_table.specs.Contents.{TableContent}
use Rattle.dm_target.specs.declared.call.Call.{Call}
use Rattle.dm_target.specs.declared.target.TargetError.{TargetError}
use Rattle.dm_target.specs.declared.target.TargetError.TheVariants as error
use Rattle.dm_target.specs.Contents.{Content, effect, with_table}
use Rattle.dm_target.specs.Writing.{IsTried, NotFailed, Takes, Writes}
use Rattle.dm_target.specs.Maps.{TableMap, TextMap, tables_with}

abbrev pub content_of : TableMap → TextMap → Content
content_of tables texts = record { tables = tables; metas = texts }

with_texts : TextMap → Result TableMap TableFault → Result Content TableFault
with_texts texts (Err f) = Err f
with_texts texts (Ok tables) = Ok (content_of tables texts)

changed_content : (tables : TableMap) (texts : TextMap) (name : TableName) (changed : Result TableContent TableFault) → with_table (content_of tables texts) name changed ≡ with_texts texts (tables_with tables name changed)
unfolding with_texts
changed_content tables texts name (Err f) = refl
changed_content tables texts name (Ok table) = refl

pub takes_change : (call : Call) (tables now : TableMap) (texts : TextMap) (name : TableName) (changed : Result TableContent TableFault) → effect call (content_of tables texts) ≡ with_table (content_of tables texts) name changed →
    tables_with tables name changed ≡ Ok now → Takes call (content_of tables texts) (Some (content_of now texts))
unfolding with_texts
takes_change call tables now texts name changed same h = (content_of now texts, same ∙ changed_content tables texts name changed ∙ ap (with_texts texts) h, refl)

pub takes_texts : (call : Call) (tables : TableMap) (texts after now : TextMap) → effect call (content_of tables texts) ≡ Ok (content_of tables after) → now ≡ after → Takes call (content_of tables texts) (Some (content_of tables now))
takes_texts call tables texts after now same h = (content_of tables after, same, ap (λ (m : TextMap). Some (content_of tables m)) h)

-- what a target that holds the same answers
pub tried_alike : (call : Call) (before trial : Content) (after : Option Content) (answer : Result (Unit {0}) TargetError) → trial ≡ before → Writes call (λ c. false) (Some trial) after answer → NotFailed answer → IsTried call before answer
tried_alike call before trial after (Ok t) same writes sound = (writes.0.0, ap (effect call) (sym same) ∙ writes.0.1)
tried_alike call before trial after (Err (error.Rejected f)) same writes sound = ap (effect call) (sym same) ∙ writes.0
tried_alike call before trial after (Err error.Failed) same writes sound = sound
tried_alike call before trial after (Err error.Full) same writes sound = false≢true writes.1
tried_alike call before trial after (Err error.Memory) same writes sound = tt
