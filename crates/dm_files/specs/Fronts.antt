-- Names that the files at the front have.
use Rattle.std.specs.Prelude.{List, [], ◌∷◌, Option, Some, None, if◌then◌else◌}
use Rattle.dm_schema.specs.Names.{Text, same_name}
use Rattle.dm_files.specs.declared.files.NamedFile.{NamedFile}

-- the files behind those at the front that have these names, if they do
abbrev pub files_behind : List Text → List NamedFile → Option (List NamedFile)
files_behind [] files = Some files
files_behind (name ∷ names) [] = None
files_behind (name ∷ names) (file ∷ files) = if same_name file.name name then files_behind names files else None
