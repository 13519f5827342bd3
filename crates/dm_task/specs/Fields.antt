-- What the values of single keys say.
use Rattle.std.specs.Prelude.{ℕ, ℤ, pos, negsuc, Bool, List, Option, Some, None, Ok, if◌then◌else◌}
use Rattle.toml.specs.Data.{as_integer, as_str}
use Rattle.dm_route.specs.declared.sign.Sign.{Sign}
use Rattle.dm_route.specs.declared.event_kind.EventKind.{EventKind}
use Rattle.dm_route.specs.Patterns.{signs_of}
use Rattle.dm_task.specs.declared.fault.TaskCause.TheVariants as cause
use Rattle.dm_task.specs.Paths.{Text, Path}
use Rattle.dm_task.specs.Reading.{Read, Reads, ReadsElement, refused, ◌>>=◌, is_within}
use Rattle.dm_task.specs.Texts.{is_source_name, is_name, is_file_name, kind_of}

-- the number, if it lies between these
abbrev pub number_within : ℕ → ℕ → ℤ → Option ℕ
number_within least greatest (pos n) = if is_within least greatest n then Some n else None
number_within least greatest (negsuc n) = None

abbrev pub in_range : {A : Type 0} → Path → Option A → Read A
in_range path None = refused path cause.Range
in_range path (Some x) = Ok x

-- a whole number between these
abbrev pub whole : ℕ → ℕ → Reads ℕ
whole least greatest path value = by (as_integer value) where
  by : Option ℤ → Read ℕ
  by None = refused path cause.Kind
  by (Some number) = in_range path (number_within least greatest number)

-- a text that passes a test
abbrev pub text_with : (Text → Bool) → Reads Text
text_with test path value = by (as_str value) where
  by : Option Text → Read Text
  by None = refused path cause.Kind
  by (Some text) = if test text then Ok text else refused path cause.Range

abbrev pub source_name : Reads Text
source_name = text_with is_source_name

abbrev pub name : Reads Text
name = text_with is_name

abbrev pub pattern : Reads (List Sign)
pattern path value = name path value >>= λ text. Ok (signs_of text)

abbrev pub file_name : ReadsElement Text
file_name earlier = text_with is_file_name

abbrev pub kind : ReadsElement EventKind
kind earlier path value = by (as_str value) where
  by : Option Text → Read EventKind
  by None = refused path cause.Kind
  by (Some text) = in_range path (kind_of text)
