use Rattle.std.proofs.Common.{◌≡◌, ℕ, ◌-◌, ◌≤◌, List, ◌++◌, map, length, get_or, take, drop, sym, ap, ◌∙◌}
use Rattle.std.specs.Prelude.{codes}
use Rattle.std.specs.List.{flat_map}
use Rattle.std.proofs.lemmas.Result.{on_ok_weaker}
use Rattle.dm_schema.specs.declared.change.Change.{Change}
use Rattle.dm_text.proofs.Joins.{two_joined}
use Rattle.dm_stmt.specs.Texts.{behind, change_text, separated}
use Rattle.dm_stmt.proofs.Joins.{separated-map}
use Rattle.dm_stmt.proofs.changes.push_changes.Goals as goal

-- the first change, and each further one behind a separator
all_joined : (changes : List Change) (x : Change) (old first last : List ℕ) → 1 ≤ length changes → x ≡ get_or changes 0 x → first ≡ old ++ change_text x →
    last ≡ first ++ flat_map (λ c. behind (codes ", ") (change_text c)) (take (length changes - 1) (drop 1 changes)) → last ≡ old ++ separated (codes ", ") (map change_text changes)
all_joined changes x old first last some is e1 e2 =
    two_joined old (change_text x) (flat_map (λ c. behind (codes ", ") (change_text c)) (take (length changes - 1) (drop 1 changes))) first last e1 e2
    ∙ ap (λ (text : List ℕ). old ++ text) (sym (separated-map (codes ", ") change_text changes x some is))

pub returns-in_ok-push_change-in-len1-up : goal.returns-in_ok-push_change-in-len1-up
returns-in_ok-push_change-in-len1-up c =
    on_ok_weaker c.push_further_changes.result
    (all_joined c.args.changes.now c.first-item.result c.args.out.now.items _ _ c.in-len1-up.len_at_least c.first-item.is c.in_ok-push_change-in-len1-up.ensures)
    c.push_further_changes.ensures
