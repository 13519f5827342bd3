use Rattle.std.proofs.Common.{◌≡◌, ◌++◌, length, true}
use Rattle.std.specs.List.{list_all}
use Rattle.dm_lex.specs.Lexemes.{is_hex_digit}
use Rattle.dm_lex.specs.Literals.{hex_pairs}
use Rattle.dm_lex.proofs.hexadecimal.push_pairs.Given as goal

abbrev pub invariant-loop-rest : goal.invariant-loop-rest
invariant-loop-rest l = (l.bytes.items ++ hex_pairs l.rest ≡ l.fn.bytes.items ++ hex_pairs l.digits) × (list_all is_hex_digit l.rest ≡ true)

abbrev pub decreases-loop-rest : goal.decreases-loop-rest
decreases-loop-rest l = length l.rest
