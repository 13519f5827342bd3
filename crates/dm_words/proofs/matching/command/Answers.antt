use Rattle.std.proofs.Common.{rules, ◌≡◌}
use Rattle.clap.specs.Words.{rule_of}
use Rattle.dm_words.specs.Commands.{option_rule}
use Rattle.dm_words.proofs.Rules.{more_options}
use Rattle.dm_words.proofs.matching.command.Goals as goal

pub loop-name-preserved : goal.loop-name-preserved
loop-name-preserved c =
    let rule_is : rule_of c.action-option.result ≡ option_rule c.new-in-loop-name.result.id.now = search rules in
    more_options c.args.options.now c.loop-name.name-index c.new-in-loop-name.result.id _ _ _ c.loop-name-test.true (search rules) c.loop-name.invariant rule_is (c.in_ok-command-2.ensures.shape (search rules))
