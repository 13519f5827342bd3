-- The command that `clap` is given: it takes any names, and once each of the options.
use Rattle.std.specs.Prelude.{true, List, map, fold, codes, Some}
use Rattle.clap.specs.declared.builder.action.ArgAction.TheVariants.{Set, Append}
use Rattle.clap.specs.Walk.{Rule}
use Rattle.clap.specs.Simple.{App, new_app, new_rule, on_top, with_rule}
use Rattle.dm_words.specs.Parts.{Text}

abbrev pub names_rule : Rule
names_rule = record (new_rule (codes "names")) { action = Some Append }

abbrev pub option_rule : Text → Rule
option_rule option = record (new_rule option) { long = Some option; action = Some Set }

abbrev pub bare_app : App
bare_app = on_top (λ s. record s { no_binary_name = true; disable_help_flag = true }) (new_app (codes "dm"))

-- the command with these options
abbrev pub app_with : List Text → App
app_with options = fold with_rule (with_rule bare_app names_rule) (map option_rule options)
