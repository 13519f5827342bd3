use Rattle.std.proofs.Common.{◌≡◌, take, map}
use Rattle.dm_words.proofs.commands.all_bytes.Given as goal

abbrev pub invariant-loop-text : goal.invariant-loop-text
invariant-loop-text l = l.files.items ≡ map (λ text. text.now) (take l.text-index l.texts)
