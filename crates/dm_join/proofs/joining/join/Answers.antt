use Rattle.std.proofs.Common.{rules, sym, ap, subst, ◌∙◌, Ok, Err}
use Rattle.std.specs.Result.{IsOk}
use Rattle.std.proofs.lemmas.Result.{err_from_is_err_and}
use Rattle.dm_list.specs.Answer.{Answers}
use Rattle.dm_join.specs.Join.{join, first_name, is_memory}
use Rattle.dm_join.specs.Groups.{columns_named}
use Rattle.dm_join.proofs.JoinAnswers.{ok_is, primary_refused, columns_refused, makes_join}
use Rattle.dm_join.proofs.joining.join.Goals as goal

pub returns-then-not-share_primary : goal.returns-then-not-share_primary
returns-then-not-share_primary c =
    primary_refused c.args.schemas.now c.index-schemas-0.result c.in_ok-first_name.field-0 c.requires c.index-schemas-0.is (sym c.share_primary.ensures ∙ c.if-not-share_primary.true)
    (c.in_ok-first_name.ensures ∙ ap first_name (c.as_slice.ensures ∙ c.primary.ensures))

pub returns-in_err-joined_columns : goal.returns-in_err-joined_columns
returns-in_err-joined_columns c =
    let p = err_from_is_err_and c.from_residual-in_err-joined_columns.result c.from_residual-in_err-joined_columns.ensures.1 in
    subst (λ r. Answers is_memory r (join c.args.schemas.now)) (sym (p.1 ∙ ap Err p.2))
    (columns_refused c.args.schemas.now c.index-schemas-0.result c.deref.result.now c.in_err-joined_columns.field-0.0 c.requires c.index-schemas-0.is c.in_ok-columns.ensures.formed
    (λ name. ap (λ l. columns_named l name) c.deref.ensures.value ∙ c.in_ok-columns.ensures.kept name) (sym c.share_primary.ensures ∙ c.if-not-share_primary.false) c.in_err-joined_columns.ensures)

pub joined-requires-clause-columns : goal.joined-requires-clause-columns
joined-requires-clause-columns c =
    (makes_join c.args.schemas.now c.index-schemas-0.result c.deref.result.now c.into_vec-joined.result.items c.in_ok-primary.primary c.in_ok-uniques.uniques.items c.requires c.index-schemas-0.is c.in_ok-columns.ensures.formed
    (λ name. ap (λ l. columns_named l name) c.deref.ensures.value ∙ c.in_ok-columns.ensures.kept name) (sym c.share_primary.ensures ∙ c.if-not-share_primary.false) (ap Ok c.into_vec-joined.ensures ∙ c.in_ok-joined_columns.ensures) (c.in_ok-primary.ensures ∙ c.primary-2.ensures) c.in_ok-uniques.ensures).columns_fine

pub joined-requires-clause-uniques : goal.joined-requires-clause-uniques
joined-requires-clause-uniques c =
    (makes_join c.args.schemas.now c.index-schemas-0.result c.deref.result.now c.into_vec-joined.result.items c.in_ok-primary.primary c.in_ok-uniques.uniques.items c.requires c.index-schemas-0.is c.in_ok-columns.ensures.formed
    (λ name. ap (λ l. columns_named l name) c.deref.ensures.value ∙ c.in_ok-columns.ensures.kept name) (sym c.share_primary.ensures ∙ c.if-not-share_primary.false) (ap Ok c.into_vec-joined.ensures ∙ c.in_ok-joined_columns.ensures) (c.in_ok-primary.ensures ∙ c.primary-2.ensures) c.in_ok-uniques.ensures).keys_fine

pub unwrap-requires : goal.unwrap-requires
unwrap-requires c =
    subst IsOk
    (sym (c.joined.ensures ∙ (makes_join c.args.schemas.now c.index-schemas-0.result c.deref.result.now c.into_vec-joined.result.items c.in_ok-primary.primary c.in_ok-uniques.uniques.items c.requires c.index-schemas-0.is c.in_ok-columns.ensures.formed
    (λ name. ap (λ l. columns_named l name) c.deref.ensures.value ∙ c.in_ok-columns.ensures.kept name) (sym c.share_primary.ensures ∙ c.if-not-share_primary.false) (ap Ok c.into_vec-joined.ensures ∙ c.in_ok-joined_columns.ensures) (c.in_ok-primary.ensures ∙ c.primary-2.ensures) c.in_ok-uniques.ensures).made)) (search rules)

pub returns : goal.returns
returns c =
    let m = makes_join c.args.schemas.now c.index-schemas-0.result c.deref.result.now c.into_vec-joined.result.items c.in_ok-primary.primary c.in_ok-uniques.uniques.items c.requires c.index-schemas-0.is c.in_ok-columns.ensures.formed
    (λ name. ap (λ l. columns_named l name) c.deref.ensures.value ∙ c.in_ok-columns.ensures.kept name) (sym c.share_primary.ensures ∙ c.if-not-share_primary.false) (ap Ok c.into_vec-joined.ensures ∙ c.in_ok-joined_columns.ensures) (c.in_ok-primary.ensures ∙ c.primary-2.ensures) c.in_ok-uniques.ensures in
    ok_is c.joined.result (join c.args.schemas.now) c.unwrap.ensures (c.joined.ensures ∙ m.made) m.is_join
