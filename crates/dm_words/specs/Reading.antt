-- What is read of the words behind a command.
use Rattle.std.specs.Prelude.{◌≡◌, ⊤, true, List, [], codes, Some, None, unwrap_or, option_map, Result, Ok, Err}
use Rattle.clap.specs.declared.parser.matches.ArgMatches.{ArgMatches}
use Rattle.clap.specs.Matches.{found_of, matched_of, raw_values, first_value}
use Rattle.dm_words.specs.declared.order.WordFault.{WordFault}
use Rattle.dm_words.specs.declared.order.WordFault.TheVariants.{Usage, Memory}
use Rattle.clap.specs.declared.error.kind.ErrorKind.{ErrorKind}
use Rattle.clap.specs.declared.error.kind.ErrorKind.TheVariants.{OutOfMemory}
use Rattle.dm_words.specs.Parts.{Text, Part, names_of, value_of, is_among, read_parts}

-- the names that were matched
abbrev pub matched_names : ArgMatches → List Text
matched_names m = unwrap_or (option_map raw_values (matched_of (found_of m) (codes "names"))) []

-- the matches have the names, and of each option that the command has the value
pub record HasParts (known : List Text) (parts : List Part) (m : ArgMatches) : Type 0 where
  pub names : matched_names m ≡ names_of parts
  pub values : (option : Text) → is_among option known ≡ true → first_value (found_of m) option ≡ value_of option parts

-- the matches are those of the words, and where the words are wrong there are none
abbrev pub Matches : List Text → List Text → Result ArgMatches WordFault → Type 0
Matches known words (Ok m) = (parts : List Part) × (read_parts known words ≡ Some parts) × HasParts known parts m
Matches known words (Err Usage) = read_parts known words ≡ None
Matches known words (Err Memory) = ⊤

abbrev pub fault_by : ErrorKind → WordFault
fault_by OutOfMemory = Memory
fault_by _ = Usage
