-- A walk keeps the schema that a history begins with.
use Rattle.std.proofs.Common.{◌≡◌, Bool, true, false, cond, not, ◌&&◌, ◌==◌, List, [], ◌∷◌, fold, length, Option, Some, None, is_some, Result, Ok, Err, refl, ◌∙◌}
use Rattle.dm_schema.specs.Layout.{Layout}
use Rattle.dm_schema.specs.Effect.{ddl_effect}
use Rattle.dm_schema.specs.Names.{Text, same_name}
use Rattle.dm_schema.specs.declared.fault.EffectFault.{EffectFault}
use Rattle.dm_binlog.specs.declared.event.Event.{Event}
use Rattle.dm_binlog.specs.declared.bodies.TableMap.{TableMap}
use Rattle.dm_binlog.specs.declared.bodies.RowsHead.{RowsHead}
use Rattle.dm_decode.specs.declared.fault.RowFault.{RowFault}
use Rattle.dm_syntax.specs.declared.fault.DdlFault.{DdlFault}
use Rattle.dm_ddl.specs.Defaults.{default_value_of}
use Rattle.dm_ddl.specs.declared.heads.Head.{Head}
use Rattle.dm_ddl.specs.declared.heads.Head.TheVariants as heads
use Rattle.dm_ddl.specs.declared.statements.Statement.{Statement}
use Rattle.dm_ddl.specs.declared.statements.Statement.TheVariants as statement
use Rattle.dm_route.specs.declared.event_kind.EventKind.{EventKind}
use Rattle.dm_route.specs.declared.rules.Rules.{Rules}
use Rattle.dm_route.specs.Rules.{ignores}
use Rattle.dm_stream.specs.declared.cause.BadCause.TheVariants as cause
use Rattle.dm_stream.specs.declared.event.LogFault.{LogFault}
use Rattle.dm_stream.specs.Sayings.{Said, Nothing, Ends, Rows, Statement as Stated}
use Rattle.dm_stream.specs.Logs.{Logged, Log}
use Rattle.dm_walk.specs.declared.track.Track.{Track}
use Rattle.dm_walk.specs.Steps.{images_of}
use Rattle.dm_walk.specs.Walks.{Images, Statements, altered, ended, layout_of, rows_kind, statement_kind, walked, with_ddl, with_effect, with_end, with_event, with_fault, with_images, with_rows, with_said}

images_first : (e : Logged) (map_event : Event) (images : Images) (t : Track) → (with_images e map_event images t).first ≡ t.first
images_first e map_event images t = by images.fault where
  by : (fault : Option RowFault) → (with_images e map_event (record { places = images.places; fault = fault }) t).first ≡ t.first
  by None = refl
  by (Some f) = refl

rows_first : (e : Logged) (map_event : Event) (table : TableMap) (head : RowsHead) (t : Track) → (with_rows e map_event table head t).first ≡ t.first
rows_first e map_event table head t = by (not head.full) (not (head.count == length table.columns)) where
  by : (partial other : Bool) → (cond {A = Track} partial (ended cause.Partial e t) (cond {A = Track} other (ended cause.Count e t) (with_images e map_event (images_of e table head t) t))).first ≡ t.first
  by true other = refl
  by false true = refl
  by false false = images_first e map_event (images_of e table head t) t

effect_first : (e : Logged) (o : Result Layout EffectFault) (t : Track) → (with_effect e o t).first ≡ t.first
effect_first e (Err f) t = refl
effect_first e (Ok after) t = refl

altered_first : (e : Logged) (answer : Result Statement DdlFault) (t : Track) → (altered e answer t).first ≡ t.first
altered_first e (Err f) t = refl
altered_first e (Ok (statement.Alter table changes)) t = effect_first e (ddl_effect default_value_of (layout_of t) changes) t
altered_first e (Ok (statement.Create table schema only_new)) t = refl
altered_first e (Ok statement.Other) t = refl

ddl_first : (statements : Statements) (e : Logged) (head : Head) (text : Text) (t : Track) → (with_ddl statements e head text t).first ≡ t.first
ddl_first statements e (heads.Create table true) text t = refl
ddl_first statements e (heads.Create table false) text t = refl
ddl_first statements e (heads.Alter table) text t = altered_first e (statements text) t
ddl_first statements e (heads.CreateIndex table) text t = altered_first e (statements text) t
ddl_first statements e (heads.DropIndex table) text t = altered_first e (statements text) t
ddl_first statements e (heads.DropTable tables) text t = refl
ddl_first statements e (heads.Truncate table) text t = refl
ddl_first statements e (heads.Rename tables) text t = refl
ddl_first statements e heads.RowStatement text t = refl
ddl_first statements e heads.NotTable text t = refl

said_first : (statements : Statements) (rules : Rules) (e : Logged) (said : Said) (t : Track) → (with_said statements rules e said t).first ≡ t.first
said_first statements rules e Nothing t = refl
said_first statements rules e (Ends cause) t = refl
said_first statements rules e (Rows map_event table head) t =
    by (not (same_name table.db t.own.db && same_name table.table t.own.table)) (ignores rules t.own.db t.own.table (rows_kind e.event.kind)) where
      by : (other ignored : Bool) → (cond {A = Track} other t (cond {A = Track} ignored t (with_rows e map_event table head t))).first ≡ t.first
      by true ignored = refl
      by false true = refl
      by false false = rows_first e map_event table head t
said_first statements rules e (Stated head db text) t = by (statement_kind t.own db head) refl where
  ignored : (kind : EventKind) (b : Bool) → (cond {A = Track} b t (with_ddl statements e head text t)).first ≡ t.first
  ignored kind true = refl
  ignored kind false = ddl_first statements e head text t

  by : (o : Option EventKind) → statement_kind t.own db head ≡ o → (with_said statements rules e (Stated head db text) t).first ≡ t.first
  by None found = rw found refl
  by (Some kind) found = rw found (ignored kind (ignores rules t.own.db t.own.table kind))

event_first : (statements : Statements) (rules : Rules) (e : Logged) (t : Track) → (with_event statements rules t e).first ≡ t.first
event_first statements rules e t = by (is_some t.fault) where
  by : (b : Bool) → (cond {A = Track} b t (with_said statements rules e e.said t)).first ≡ t.first
  by true = refl
  by false = said_first statements rules e e.said t

events_first : (statements : Statements) (rules : Rules) (events : List Logged) (t : Track) → (fold (with_event statements rules) t events).first ≡ t.first
events_first statements rules [] t = refl
events_first statements rules (e ∷ es) t = events_first statements rules es (with_event statements rules t e) ∙ event_first statements rules e t

end_first : (o : Option LogFault) (t : Track) → (with_end o t).first ≡ t.first
end_first o t = by (is_some t.fault) where
  by : (b : Bool) → (cond {A = Track} b t (with_fault o t)).first ≡ t.first
  by true = refl
  by false = refl

pub walked_first : (statements : Statements) (rules : Rules) (log : Log) (t : Track) → (walked statements rules log t).first ≡ t.first
walked_first statements rules log t = end_first log.fault (fold (with_event statements rules) t log.events) ∙ events_first statements rules log.events t
