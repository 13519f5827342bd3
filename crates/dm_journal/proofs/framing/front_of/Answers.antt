use Rattle.std.proofs.Common.{◌≡◌, ◌<◌, true, false, length, sym, ap, arith, rules}
use Rattle.dm_journal.specs.Headers.{header_shape, begins_as}
use Rattle.dm_journal.proofs.Fronts.{not_torn, not_whole, torn_header, torn_text, whole_there}
use Rattle.dm_journal.proofs.framing.front_of.Goals as goal

pub returns-then-not-begins_as_header : goal.returns-then-not-begins_as_header
returns-then-not-begins_as_header c =
    let other : begins_as header_shape c.args.bytes.now ≡ false = search rules in
    let some : 0 < length c.args.bytes.now = search rules in
    (λ none. absurd (omega (arith, ap length none)), not_torn c.args.bytes.now other, not_whole c.args.bytes.now other)

pub returns-then-bytes-lt-HEADER_SIZE : goal.returns-then-bytes-lt-HEADER_SIZE
returns-then-bytes-lt-HEADER_SIZE c =
    let shaped : begins_as header_shape c.args.bytes.now ≡ true = search rules in
    torn_header c.args.bytes.now shaped (search rules) (omega arith)

pub returns-then-bytes-size : goal.returns-then-bytes-size
returns-then-bytes-size c =
    let shaped : begins_as header_shape c.args.bytes.now ≡ true = search rules in
    torn_text c.args.bytes.now shaped (omega arith) (omega arith)

pub returns-else-bytes-size : goal.returns-else-bytes-size
returns-else-bytes-size c =
    let shaped : begins_as header_shape c.args.bytes.now ≡ true = search rules in
    whole_there c.args.bytes.now c.number_of-size.result shaped (sym c.number_of-size.ensures.value) (omega arith)
