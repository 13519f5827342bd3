use Rattle.std.proofs.Common.{◌∙◌, sym, ap, subst, Err}
use Rattle.std.proofs.lemmas.Result.{err_from_is_err_and}
use Rattle.dm_list.specs.Answer.{Answers}
use Rattle.dm_join.specs.Join.{is_memory}
use Rattle.dm_join.specs.Groups.{columns_joined, group_joined, with_front}
use Rattle.dm_join.proofs.GroupLemmas.{group_within, group_is_there, group_step, joined_more, joined_no_more, group_err_answers, ordered_drop, ordered_from_sort, IsOrdered, with_none}
use Rattle.dm_join.proofs.groups.joined_columns.Goals as goal

pub loop-first-init : goal.loop-first-init
loop-first-init c = record {
  ordered = ordered_from_sort c.args.columns.now c.requires;
  so_far = ap (λ l. with_front l (columns_joined c.args.schemas.now c.args.columns.now)) c.new-joined.ensures.items ∙ with_none (columns_joined c.args.schemas.now c.args.columns.now);
}

pub split_at-requires : goal.split_at-requires
split_at-requires c = group_within c.in-Some.first.now c.loop-first.rest.now c.leading.result c.leading.ensures

pub joined_group-requires : goal.joined_group-requires
joined_group-requires c = group_is_there c.in-Some.first.now c.loop-first.rest.now c.split_at.result.0.now c.leading.result c.in-Some.ensures.value c.leading.ensures c.split_at.ensures.front

pub returns-in_err-joined_group : goal.returns-in_err-joined_group
returns-in_err-joined_group c =
    let step = group_step c.args.schemas.now c.in-Some.first.now c.loop-first.rest.now c.split_at.result.0.now c.split_at.result.1.now c.leading.result c.in-Some.ensures.value c.leading.ensures c.split_at.ensures.front c.split_at.ensures.back c.loop-first.invariant.ordered in
    let p = err_from_is_err_and c.from_residual.result c.from_residual.ensures.1 in
    let all = columns_joined c.args.schemas.now c.args.columns.now in
    let group = group_joined c.args.schemas.now c.split_at.result.0.now in
    subst (λ r. Answers is_memory r all) (sym (p.1 ∙ ap Err p.2))
    (group_err_answers c.in_err-joined_group.field-0.0 group all
    (λ none. joined_no_more c.loop-first.joined.items c.in_err-joined_group.field-0.0 group all (columns_joined c.args.schemas.now c.loop-first.rest.now) (columns_joined c.args.schemas.now c.split_at.result.1.now) none step c.loop-first.invariant.so_far)
    c.in_err-joined_group.ensures)

pub loop-first-preserved : goal.loop-first-preserved
loop-first-preserved c =
    let step = group_step c.args.schemas.now c.in-Some.first.now c.loop-first.rest.now c.split_at.result.0.now c.split_at.result.1.now c.leading.result c.in-Some.ensures.value c.leading.ensures c.split_at.ensures.front c.split_at.ensures.back c.loop-first.invariant.ordered in
    record {
      ordered = subst IsOrdered (sym c.split_at.ensures.back) (ordered_drop c.leading.result c.loop-first.rest.now c.loop-first.invariant.ordered);
      so_far =
          ap (λ l. with_front l (columns_joined c.args.schemas.now c.split_at.result.1.now)) c.in_ok-push.ensures.items
          ∙ joined_more c.loop-first.joined.items c.in_ok-joined_group.field-0 (group_joined c.args.schemas.now c.split_at.result.0.now) (columns_joined c.args.schemas.now c.args.columns.now) (columns_joined c.args.schemas.now c.loop-first.rest.now) (columns_joined c.args.schemas.now c.split_at.result.1.now) c.in_ok-joined_group.ensures step c.loop-first.invariant.so_far;
    }
