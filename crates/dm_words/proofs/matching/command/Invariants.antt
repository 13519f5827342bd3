use Rattle.std.proofs.Common.{◌≡◌, take, map}
use Rattle.clap.specs.Words.{app_of}
use Rattle.dm_words.specs.Commands.{app_with}
use Rattle.dm_words.proofs.matching.command.Given as goal

abbrev pub invariant-loop-name : goal.invariant-loop-name
invariant-loop-name l = app_of l.command ≡ app_with (map (λ option. option.now) (take l.name-index l.options))
