use Rattle.std.proofs.Common.{◌≡◌, ◌++◌, subst, ap, ◌∙◌, rules}
use Rattle.std.specs.Prelude.{IsUtf8}
use Rattle.json.specs.Print.{print}
use Rattle.json.specs.Tree.{json_tokens}
use Rattle.dm_meta.specs.Texts.{lock_json, lock_text, lock_of}
use Rattle.dm_meta.proofs.ReadBack.{lock_read_back}
use Rattle.dm_meta.proofs.lock.write_lock.Goals as goal

pub returns-clause-read_back : goal.returns-clause-read_back
returns-clause-read_back c =
    let value = c.args.value.now in
    let text : c.new.result ≡ lock_text value = search rules in
    let tokens = c.in_ok-put_lock.ensures.tokens ∙ ap (λ before. before ++ json_tokens (lock_json value)) c.new-out.ensures.tokens in
    ap lock_of text ∙ lock_read_back value c.in_ok-put_lock.ensures.items (subst (λ written. IsUtf8 (print written)) tokens c.into_inner.ensures.utf8)
