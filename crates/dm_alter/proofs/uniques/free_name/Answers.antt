use Rattle.std.proofs.Common.{sym, ◌∙◌, arith}
use Rattle.dm_alter.proofs.FreeNames.{found, passed}
use Rattle.dm_alter.proofs.uniques.free_name.Goals as goal

pub returns-then-not-is_taken : goal.returns-then-not-is_taken
returns-then-not-is_taken c =
    found c.args.uniques.now c.args.name.now c.in_ok-candidate.candidate _ c.loop-number.number (omega arith) c.in_ok-candidate.ensures (sym c.if-not-is_taken.ensures) c.loop-number.invariant

pub loop-number-preserved : goal.loop-number-preserved
loop-number-preserved c =
    passed c.args.uniques.now c.args.name.now c.in_ok-candidate.candidate _ c.loop-number.number (omega arith) c.in_ok-candidate.ensures (sym c.if-not-is_taken.ensures) c.loop-number.invariant
