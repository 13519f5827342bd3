-- Events stand one behind another.
use Rattle.std.specs.Prelude.{◌≡◌, ◌≤◌, ◌+◌, ℕ, List, [], ◌∷◌}
use Rattle.dm_binlog.specs.declared.event.Event.{Event}
use Rattle.dm_binlog.specs.Framing.{header_length}

-- From a place on and up to an end: each event has a header and then its body, and the next begins at its end or later.
abbrev pub AreInOrder : ℕ → List Event → ℕ → Type 0
AreInOrder from [] end = from ≤ end
AreInOrder from (e ∷ es) end = (from ≤ e.at) × (e.body ≡ e.at + header_length) × (e.body ≤ e.end) × AreInOrder e.end es end
