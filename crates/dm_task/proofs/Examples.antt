-- The reading of a small file whole, and of one that is cut short.
use Rattle.std.proofs.Common.{◌≡◌, [], ◌∷◌, Ok, codes, refl}
use Rattle.std.specs.Str.{is_utf8, chars}
use Rattle.std.specs.Fmt.{char_count, digits}
use Rattle.toml.proofs.OnLiterals.{toml_on_literals}
use Rattle.dm_task.specs.declared.fault.TaskCause.TheVariants as cause
use Rattle.dm_task.specs.Reading.{refused}
use Rattle.dm_task.specs.TaskFile.{task_of}

pub small_task : task_of (codes "name='t'\n[[source]]\nname='s'\n[[source.table]]\ndb='d'\ntable='t'\ncreate='c'\n")
    ≡ Ok (record {
      name = codes "t";
      window = 1000;
      batch = 100;
      lanes = 4;
      workers = 4;
      sources = (record {
        name = codes "s";
        binlogs = [];
        start = 4;
        tables = (record { db = codes "d"; table = codes "t"; create = codes "c"; rows = [] }) ∷ [];
      }) ∷ [];
      rules = record { allow = []; routes = []; filters = [] };
    })
unfolding toml_on_literals is_utf8 chars char_count digits
small_task = refl

pub small_task_cut : task_of (codes "name='t'\n[[source]]\nname='s'\n[[source.table]]\ndb='d'\ntable='t'\n") ≡ refused (codes "source[0].table[0].create") cause.Absent
unfolding toml_on_literals is_utf8 chars char_count digits
small_task_cut = refl
