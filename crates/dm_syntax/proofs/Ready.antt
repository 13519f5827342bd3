use Rattle.std.proofs.Common.{◌≡◌, ℕ, List, true, false, refl}
use Rattle.dm_syntax.specs.declared.terminal.TheConstants as terminal
use Rattle.dm_grammar.specs.Determinism.{is_ready}
use Rattle.dm_syntax.specs.Classes.{in_class}
use Rattle.dm_syntax.specs.Productions.{begins_table, statement_grammar, head_grammar, create_table_statement, alter_table_statement, other_statement, create_table_start, alter_table_start, other_start}

-- One token of look-ahead tells how each statement goes on.

pub create_table_statement_ready : is_ready in_class create_table_statement ≡ true
unfolding is_ready
create_table_statement_ready = refl

pub alter_table_statement_ready : is_ready in_class alter_table_statement ≡ true
unfolding is_ready
alter_table_statement_ready = refl

pub other_statement_ready : is_ready in_class other_statement ≡ true
unfolding is_ready
other_statement_ready = refl

pub create_table_start_ready : is_ready in_class create_table_start ≡ true
unfolding is_ready
create_table_start_ready = refl

pub alter_table_start_ready : is_ready in_class alter_table_start ≡ true
unfolding is_ready
alter_table_start_ready = refl

pub other_start_ready : is_ready in_class other_start ≡ true
unfolding is_ready
other_start_ready = refl

-- The grammar of statements that begin with other words.

pub statement_of_others : (kinds : List ℕ) → begins_table terminal.CREATE kinds ≡ false → begins_table terminal.ALTER kinds ≡ false → statement_grammar kinds ≡ other_statement
statement_of_others kinds no_create no_alter = rw (no_create, no_alter) refl

pub head_of_others : (kinds : List ℕ) → begins_table terminal.CREATE kinds ≡ false → begins_table terminal.ALTER kinds ≡ false → head_grammar kinds ≡ other_start
head_of_others kinds no_create no_alter = rw (no_create, no_alter) refl
