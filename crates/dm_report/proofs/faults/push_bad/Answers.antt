use Rattle.std.proofs.Common.{◌≡◌, ℕ, List, [], ◌∷◌, ◌++◌, sym, ap, ◌∙◌, append-nil}
use Rattle.std.specs.Prelude.{codes}
use Rattle.std.specs.Fmt.{decimal}
use Rattle.std.specs.List.{flat_map}
use Rattle.std.proofs.lemmas.Result.{IfOk-equal}
use Rattle.dm_report.specs.Faults.{behind_blank}
use Rattle.dm_report.proofs.faults.push_bad.Goals as goal

printed : (old place digits : List ℕ) → place ≡ digits → old ++ (behind_blank (codes "JournalBad") ++ behind_blank place) ≡ old ++ flat_map behind_blank (codes "JournalBad" ∷ digits ∷ [])
printed old place digits is = ap (λ xs. old ++ (behind_blank (codes "JournalBad") ++ behind_blank xs)) (is ∙ sym (append-nil digits))

pub returns : goal.returns
returns c =
    IfOk-equal c.push_two.result c.push_two.new.line.items _ _ c.push_two.ensures (printed c.args.line.now.items c.as_bytes.result.now (decimal c.args.at) (c.as_bytes.ensures.value ∙ c.in_ok-place.ensures.ok))
