-- What the reader's data stand for.
use Rattle.std.specs.Prelude.{◌≡◌, ℕ, List, ◌++◌, map, Option, Some, None}
use Rattle.dm_grammar.specs.Grammar.{Grammar}
use Rattle.dm_grammar.specs.Grammar as grammar
use Rattle.dm_grammar.specs.Determinism.{Next}
use Rattle.dm_grammar.specs.declared.rule.Rule.{Rule}
use Rattle.dm_grammar.specs.declared.rule.Rule as rule
use Rattle.dm_grammar.specs.declared.stack.Pending.{Pending}
use Rattle.dm_grammar.specs.declared.stack.Pending.TheVariants as pending

-- more items of a list, each behind its separator
abbrev pub more_items : Grammar → ℕ → ℕ → Grammar
more_items item separator role = grammar.Many (grammar.Seq (grammar.Word separator role) item)

-- one item or more, with a separator between two of them
abbrev pub list : Grammar → ℕ → ℕ → Grammar
list item separator role = grammar.Seq item (more_items item separator role)

-- the grammar that a rule stands for
abbrev pub meaning : Rule → Grammar
meaning rule.Empty = grammar.Empty
meaning (rule.Word class role) = grammar.Word class role
meaning rule.Skip = grammar.Skip 0
meaning (rule.Seq' p first q second) = grammar.Seq (meaning first) (meaning second)
meaning (rule.Or' p one q other) = grammar.Or (meaning one) (meaning other)
meaning (rule.Many' p repeated) = grammar.Many (meaning repeated)
meaning (rule.List' p item separator role) = list (meaning item) separator role

-- what a part of the stack still has to read
abbrev pub rest_of : Pending → Grammar
rest_of (pending.Rule rule) = meaning rule.now
rest_of (pending.Items item separator role) = more_items (meaning item.now) separator role
rest_of (pending.Brackets depth) = grammar.Skip depth

abbrev pub rests_of : List Pending → List Grammar
rests_of = map rest_of

-- The token was taken with the role, and what is to come behind it lies on the stack; or it was not, and nothing changed.
abbrev pub Advances : Option ℕ → Next → List Grammar → List Grammar → Type 0
Advances role None old new = (role ≡ None) × (new ≡ old)
Advances role (Some next) old new = (role ≡ Some next.0) × (new ≡ old ++ next.1)

-- The token was taken with the role, and the stack is what is to come behind it; or it was not.
abbrev pub Steps : Option ℕ → Next → List Grammar → Type 0
Steps role None new = role ≡ None
Steps role (Some next) new = (role ≡ Some next.0) × (new ≡ next.1)
