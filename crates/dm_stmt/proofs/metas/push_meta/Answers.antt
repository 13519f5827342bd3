use Rattle.std.proofs.Common.{[], ◌∷◌}
use Rattle.std.specs.Prelude.{codes}
use Rattle.dm_text.specs.Values.{string_text}
use Rattle.dm_text.proofs.Joins.{two_joined}
use Rattle.dm_stmt.proofs.Joins.{four_joined}
use Rattle.dm_stmt.proofs.metas.push_meta.Goals as goal

pub returns : goal.returns
returns c =
    four_joined c.args.out.now.items (codes "REPLACE INTO `dm_meta`.`state` (`name`,`text`) VALUES (") (string_text c.args.pair.now.name) (44 ∷ string_text c.args.pair.now.text) (codes ");\n") _ _ _ _
    c.in_ok-extend_from_slice.ensures.items c.in_ok-push_string.ensures (two_joined _ (44 ∷ []) (string_text c.args.pair.now.text) _ _ c.in_ok-push.ensures.items c.in_ok-push_string-2.ensures)
    c.in_ok-extend_from_slice-2.ensures.items
