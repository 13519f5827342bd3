-- Heads of statements: what each text says by the grammar.
use Rattle.std.proofs.Common.{◌≡◌, ℕ, List, Result, ap}
use Rattle.dm_syntax.specs.declared.fault.DdlFault.{DdlFault}
use Rattle.dm_syntax.specs.declared.parsing.Extent.TheVariants as extent
use Rattle.dm_syntax.specs.Parsing.{Says}
use Rattle.dm_syntax.proofs.Uniqueness.{said, says_said, says_one}
use Rattle.dm_ddl.specs.declared.heads.Head.{Head}
use Rattle.dm_ddl.specs.Heads.{head_unless}
use Rattle.dm_binlog.specs.Bodies.{QueryText}
use Rattle.dm_stream.specs.Sayings.{Heads, head_said}
use Rattle.dm_stream.specs.Logs.{AreHeads}

-- There are heads: each text says something.
pub the_heads : Heads
the_heads text = said extent.Head (head_unless text) text

pub they_are : AreHeads the_heads
unfolding the_heads
they_are text = says_said extent.Head (head_unless text) text

-- What a text says is its head, whichever heads are asked.
pub heads_say : (heads : Heads) (text : List ℕ) (answer : Result Head DdlFault) → AreHeads heads → Says extent.Head (head_unless text) text answer → answer ≡ heads text
heads_say heads text answer are says = says_one extent.Head (head_unless text) text answer (heads text) says (are text)

pub head_says : (heads : Heads) (q : QueryText) (answer : Result Head DdlFault) → AreHeads heads → Says extent.Head (head_unless q.statement) q.statement answer → head_said q answer ≡ head_said q (heads q.statement)
head_says heads q answer are says = ap (head_said q) (heads_say heads q.statement answer are says)
