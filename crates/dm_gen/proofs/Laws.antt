-- That what is generated is lawful: each statement takes the schema to the next one, and the task and its files go together.
use Rattle.std.proofs.Common.{◌≡◌, ℕ, true, false, List, [], ◌∷◌, Ok, map, refl, sym, subst}
use Rattle.std.specs.Prelude.{IsTrue}
use Rattle.dm_schema.specs.declared.change.Change.TheVariants as change
use Rattle.dm_schema.specs.declared.change.Spot.TheVariants as spot
use Rattle.dm_schema.specs.Effect.{Reading, ddl_effect}
use Rattle.dm_task.specs.declared.task.Task.{Task}
use Rattle.dm_task.specs.Shards.{shards_of, targets_of}
use Rattle.dm_task.specs.TaskFile.{counted}
use Rattle.dm_files.specs.declared.files.NamedFile.{NamedFile}
use Rattle.dm_files.specs.Files.{are_files, are_short}
use Rattle.dm_gen.specs.Naming.{own_name, source_name, target_name}
use Rattle.dm_gen.specs.Schemas.{d_column, schema_after, v_column, w_key}
use Rattle.dm_gen.specs.Tasks.{all_sources, task}
use Rattle.dm_gen.specs.Generated.{files}
use Rattle.dm_gen.proofs.Shorts.{files_short}

-- What the statements change. No default is read for it.

pub adds_d : (read : Reading) → ddl_effect read (schema_after 0) (change.Add d_column spot.Last ∷ []) ≡ Ok (schema_after 1)
unfolding ddl_effect
adds_d read = refl

pub widens_v : (read : Reading) → ddl_effect read (schema_after 1) (change.Modify (v_column 2) spot.Keep false ∷ []) ≡ Ok (schema_after 2)
unfolding ddl_effect
widens_v read = refl

pub adds_w : (read : Reading) → ddl_effect read (schema_after 2) (change.AddUnique w_key true ∷ []) ≡ Ok (schema_after 3)
unfolding ddl_effect
adds_w read = refl

-- The task.

-- each source has one shard, and all go to one table
pub task_shards : shards_of task ≡ map (λ source. record { source = source_name source; name = own_name source; target = target_name }) all_sources
task_shards = refl

pub task_targets : targets_of task ≡ target_name ∷ []
task_targets = refl

-- so it has shards and targets enough, and not too many
pub task_counted : counted task ≡ Ok task
task_counted = refl

-- the files are those that the task names, in its order
pub task_files : (number : ℕ) → are_files task (files number) ≡ true
task_files number = refl

-- both of what the code makes

pub made_named : (number : ℕ) (own : Task) (made : List NamedFile) → own ≡ task → made ≡ files number → IsTrue (are_files own made)
made_named number own made same is = rw (same, is) (task_files number)

pub made_short : (number : ℕ) (made : List NamedFile) → made ≡ files number → IsTrue (are_short made)
made_short number made is = subst (λ (fs : List NamedFile). IsTrue (are_short fs)) (sym is) (files_short number)
