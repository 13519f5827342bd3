-- The test that one token of look-ahead tells how a grammar goes on (LL(1)), and that each beginning of it can be completed.
use Rattle.std.specs.Prelude.{ℕ, suc, zero, Bool, true, false, not, ◌&&◌, ◌||◌, ◌==◌, List, [], ◌∷◌, Option, Some, None, is_some, if◌then◌else◌}
use Rattle.dm_grammar.specs.Grammar.{Grammar, Empty, Word, Skip, Seq, Or, Many, Membership, open_after, skipped, unsupported, kind_count}

-- it spells the empty run of tokens
abbrev pub is_nullable : Grammar → Bool
is_nullable Empty = true
is_nullable (Word class role) = false
is_nullable (Skip zero) = true
is_nullable (Skip (suc depth)) = false
is_nullable (Seq a b) = is_nullable a && is_nullable b
is_nullable (Or a b) = is_nullable a || is_nullable b
is_nullable (Many a) = true

-- where a token is taken: its role, and what is still to be read behind it, the last first
abbrev pub Next : Type 0
Next = Option (ℕ × List Grammar)

-- the rest comes behind it, too
abbrev pub with_rest : Grammar → Next → Next
with_rest rest None = None
with_rest rest (Some next) = Some (next.0, rest ∷ next.1)

abbrev pub or_else : Next → Next → Next
or_else None other = other
or_else (Some next) other = Some next

-- the token is skipped, and so many brackets are then open
abbrev pub skip_to : Option ℕ → Next
skip_to None = None
skip_to (Some depth) = Some (skipped, Skip depth ∷ [])

-- what comes behind a token at the front: the derivative of the grammar by the token's kind
abbrev pub after : Membership → Grammar → ℕ → Next
after has Empty kind = None
after has (Word class role) kind = if has class kind then Some (role, []) else None
after has (Skip depth) kind = skip_to (open_after depth kind)
after has (Seq a b) kind = or_else (with_rest b (after has a kind)) (if is_nullable a then after has b kind else None)
after has (Or a b) kind = or_else (after has a kind) (after has b kind)
after has (Many a) kind = with_rest (Many a) (after has a kind)

-- what is still to be read, the last first, as one grammar
abbrev pub sequence : List Grammar → Grammar
sequence [] = Empty
sequence (last ∷ sooner) = Seq (sequence sooner) last

-- FIRST: the kinds that a sentence can begin with
abbrev pub first : Membership → Grammar → ℕ → Bool
first has g kind = is_some (after has g kind)

-- FOLLOW of what stands before g, where `follow` may stand behind g
abbrev pub follow_before : Membership → Grammar → (ℕ → Bool) → ℕ → Bool
follow_before has g follow kind = first has g kind || (is_nullable g && follow kind)

abbrev pub any_below : (ℕ → Bool) → ℕ → Bool
any_below set zero = false
any_below set (suc kind) = set kind || any_below set kind

abbrev pub disjoint_below : (ℕ → Bool) → (ℕ → Bool) → ℕ → Bool
disjoint_below one other zero = true
disjoint_below one other (suc kind) = not (one kind && other kind) && disjoint_below one other kind

-- One token tells how the grammar goes on, where kinds of `follow` may stand behind it: the two of a choice have no
-- first kind in common, and neither has what may be empty with what follows it.
abbrev pub is_ll1 : Membership → Grammar → (ℕ → Bool) → Bool
is_ll1 has Empty follow = true
is_ll1 has (Word class role) follow = true
is_ll1 has (Skip depth) follow = disjoint_below (first has (Skip 0)) follow kind_count
is_ll1 has (Seq a b) follow = is_ll1 has a (follow_before has b follow) && is_ll1 has b follow
is_ll1 has (Or a b) follow =
    disjoint_below (first has a) (first has b) kind_count
    && ((not (is_nullable (Or a b)) || disjoint_below (first has (Or a b)) follow kind_count) && (is_ll1 has a follow && is_ll1 has b follow))
is_ll1 has (Many a) follow = disjoint_below (first has (Many a)) follow kind_count && is_ll1 has a (follow_before has (Many a) follow)

-- it has a sentence
abbrev pub is_productive : Membership → Grammar → Bool
is_productive has Empty = true
is_productive has (Word class role) = not (role == unsupported) && any_below (has class) kind_count
is_productive has (Skip depth) = true
is_productive has (Seq a b) = is_productive has a && is_productive has b
is_productive has (Or a b) = is_productive has a || is_productive has b
is_productive has (Many a) = true

-- what is left behind a token has a sentence, whichever token it is
abbrev pub stays_productive : Membership → Grammar → Bool
stays_productive has Empty = true
stays_productive has (Word class role) = true
stays_productive has (Skip depth) = true
stays_productive has (Seq a b) = stays_productive has a && stays_productive has b && is_productive has b
stays_productive has (Or a b) = stays_productive has a && stays_productive has b
stays_productive has (Many a) = stays_productive has a

-- what may stand behind a whole sentence: nothing
abbrev pub no_kind : ℕ → Bool
no_kind kind = false

-- the grammar can be read with one token of look-ahead, and each front that is read begins a sentence
unfoldable pub is_ready : Membership → Grammar → Bool
is_ready has g = is_ll1 has g no_kind && (is_productive has g && stays_productive has g)
