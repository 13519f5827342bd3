-- Records of different contents have different texts.
use Rattle.std.proofs.Common.{◌≡◌, Option, Some, sym, ap, ◌∙◌}
use Rattle.std.specs.Prelude.{All}
use Rattle.json.specs.Json.{Json, document}
use Rattle.dm_meta.specs.declared.checkpoint.Checkpoint.{Checkpoint}
use Rattle.dm_meta.specs.declared.lock.LockRecord.{LockRecord}
use Rattle.dm_meta.specs.Texts.{Text, ◌>>=◌, checkpoint_text, checkpoint_in, lock_text, lock_in}
use Rattle.dm_meta.proofs.ReadBack.{IsReadable, checkpoint_in-json, document-checkpoint_text, HasPlace, lock_in-json, document-lock_text}

-- what is read of equal texts is equal
one_text : {A : Type 0} → (read : Json → Option A) (x y : A) (text other : Text) (value others : Json) → document text ≡ Some value → document other ≡ Some others → read value ≡ Some x → read others ≡ Some y → text ≡ other → x ≡ y
one_text read x y text other value others said said_other is_x is_y same =
    let joined : Some x ≡ Some y = sym is_x ∙ ap (λ said. said >>= read) (sym said ∙ ap document same ∙ said_other) ∙ is_y in
    cc

pub one_checkpoint : (a b : Checkpoint) → IsReadable a → IsReadable b → checkpoint_text a ≡ checkpoint_text b → a ≡ b
one_checkpoint a b is_a is_b same =
    one_text checkpoint_in a b _ _ _ _ (document-checkpoint_text a is_a) (document-checkpoint_text b is_b) (checkpoint_in-json a is_a) (checkpoint_in-json b is_b) same

pub one_lock : (a b : LockRecord) → All HasPlace a.order → All HasPlace b.order → lock_text a ≡ lock_text b → a ≡ b
one_lock a b all_a all_b same = one_text lock_in a b _ _ _ _ (document-lock_text a all_a) (document-lock_text b all_b) (lock_in-json a all_a) (lock_in-json b all_b) same
