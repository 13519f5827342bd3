use Rattle.std.proofs.Common.{◌≡◌, ℕ, ◌+◌, ◌-◌, List, take, drop, refl, ap, arith}
use Rattle.dm_target.specs.Memory.{content_of}
use Rattle.dm_journal.proofs.Taking.{other_is_bad, whole_is_taken, whole_is_refused}
use Rattle.dm_journal.proofs.carrying.take_record.Goals as goal

-- what stands between a header and the end of its text
text_at : (bytes : List ℕ) (size : ℕ) → take (17 + size - 17) (drop 17 bytes) ≡ take size (drop 17 bytes)
text_at bytes size =
    let long : 17 + size - 17 ≡ size = omega arith in
    ap (λ n. take n (drop 17 bytes)) long

pub returns-in-Other-clause-front : goal.returns-in-Other-clause-front
returns-in-Other-clause-front c = other_is_bad c.args.bytes.now (content_of c.args.target.now) c.in-Other.ensures

pub returns-in-Ok-clause-front : goal.returns-in-Ok-clause-front
returns-in-Ok-clause-front c =
    whole_is_taken c.args.bytes.now _ c.in-Whole.size c.in-Whole.ensures (text_at c.args.bytes.now c.in-Whole.size) c.args.target.now c.carry_out.new.target (17 + c.in-Whole.size) refl c.in-Ok.ensures.text

pub returns-in-Err-clause-front : goal.returns-in-Err-clause-front
returns-in-Err-clause-front c =
    whole_is_refused c.args.bytes.now _ c.in-Whole.size c.in-Whole.ensures (text_at c.args.bytes.now c.in-Whole.size) c.args.target.now c.carry_out.new.target c.in-Err.fault c.in-Err.ensures.text
