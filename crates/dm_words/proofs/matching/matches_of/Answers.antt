use Rattle.std.proofs.Common.{◌≡◌, map, true, List, [], subst}
use Rattle.std.proofs.lemmas.Result.{err_from_is_err_and}
use Rattle.std.specs.String.{string_bytes}
use Rattle.clap.specs.Words.{app_of, kind_of, App, HasMatchesOf, HasKind, fault_of, is_simple_and_free}
use Rattle.dm_words.specs.Parts.{Text}
use Rattle.dm_words.specs.Commands.{app_with}
use Rattle.dm_words.proofs.Rules.{simple_with}
use Rattle.dm_words.proofs.Read.{matches_are, faults_are, all_text}
use Rattle.dm_words.proofs.matching.matches_of.Goals as goal

pub returns-in-Ok : goal.returns-in-Ok
returns-in-Ok c =
    let known : List Text = map (λ option. option.now) c.args.options.now in
    let words : List Text = map string_bytes c.args.words.now in
    let app : app_of c.in_ok-command.command ≡ app_with known = c.in_ok-command.ensures in
    matches_are known words c.in-Ok.matches c.requires (all_text c.args.words.now) (subst (λ a. HasMatchesOf a words c.in-Ok.matches) app c.in-Ok.ensures.matches)
    (subst (λ (a : App). is_simple_and_free a ≡ true → fault_of a words ≡ []) app c.in-Ok.ensures.kinds (simple_with known))

pub returns-in-Err : goal.returns-in-Err
returns-in-Err c =
    let known : List Text = map (λ option. option.now) c.args.options.now in
    let words : List Text = map string_bytes c.args.words.now in
    let app : app_of c.in_ok-command.command ≡ app_with known = c.in_ok-command.ensures in
    rw c.fault_of.ensures (faults_are known words (kind_of c.in-Err.error) c.requires (all_text c.args.words.now)
    (subst (λ (a : App). is_simple_and_free a ≡ true → HasKind (fault_of a words) c.in-Err.error) app c.in-Err.ensures.kinds (simple_with known)))

pub returns-in_err-command : goal.returns-in_err-command
returns-in_err-command c =
    let p = err_from_is_err_and c.from_residual.result c.from_residual.ensures.1 in
    rw p.1 (rw p.2 tt)
