use Rattle.std.proofs.Common.{◌≡◌, ◌++◌, subst, ap, ◌∙◌, rules}
use Rattle.std.specs.Prelude.{IsUtf8}
use Rattle.json.specs.Print.{print}
use Rattle.json.specs.Tree.{json_tokens}
use Rattle.dm_meta.specs.Texts.{checkpoint_json, checkpoint_text, checkpoint_of}
use Rattle.dm_meta.proofs.ReadBack.{checkpoint_read_back}
use Rattle.dm_meta.proofs.checkpoint.write_checkpoint.Goals as goal

pub returns-clause-read_back : goal.returns-clause-read_back
returns-clause-read_back c least most =
    let value = c.args.value in
    let text : c.new.result ≡ checkpoint_text value = search rules in
    let tokens = c.in_ok-put_checkpoint.ensures.tokens ∙ ap (λ before. before ++ json_tokens (checkpoint_json value)) c.new-out.ensures.tokens in
    ap checkpoint_of text ∙ checkpoint_read_back value (record { fits = c.in_ok-put_checkpoint.ensures.position; least = least; most = most }) (subst (λ written. IsUtf8 (print written)) tokens c.into_inner.ensures.utf8)
