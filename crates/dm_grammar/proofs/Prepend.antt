use Rattle.std.proofs.Common.{◌≡◌, ℕ, ◌+◌, suc, zero, Bool, true, false, List, [], ◌∷◌, ◌++◌, length, Option, Some, None, refl, sym, ◌∙◌, ap, if◌then◌else◌, ◌==◌, ◌<◌, ◌≤◌, drop, get_or, add-one, arith}
use Rattle.std.proofs.Math.Seq.{drop-cons}
use Rattle.std.proofs.lemmas.List.{length-append}
use Rattle.dm_grammar.specs.Grammar.{Grammar, Membership, unsupported, Empty, Seq}
use Rattle.dm_grammar.specs.Determinism.{Next, after, sequence, is_nullable}
use Rattle.dm_grammar.specs.Reading.{Outcome, with_role, read_next, read_from, read_behind, Takes}
use Rattle.dm_grammar.specs.Meaning.{Steps}
use Rattle.dm_grammar.specs.declared.reader.Fault.TheVariants.{Syntax, Unsupported}

-- The loop over the tokens: what reading gives behind those that were read.

-- what reading gives, where tokens with these roles were read before
abbrev pub prepend : List ℕ → Outcome → Outcome
prepend [] outcome = outcome
prepend (role ∷ roles) outcome = with_role role (prepend roles outcome)

prepend-push : (roles : List ℕ) (role : ℕ) (outcome : Outcome) → prepend (roles ++ role ∷ []) outcome ≡ prepend roles (with_role role outcome)
prepend-push [] role outcome = refl
prepend-push (first ∷ roles) role outcome = ap (with_role first) (prepend-push roles role outcome)

prepend-end : (roles : List ℕ) → prepend roles ([], None) ≡ (roles, None)
prepend-end [] = refl
prepend-end (role ∷ roles) = ap (with_role role) (prepend-end roles)

prepend-syntax : (roles : List ℕ) → prepend roles ([], Some (Syntax 0)) ≡ (roles, Some (Syntax (length roles)))
prepend-syntax [] = refl
prepend-syntax (role ∷ roles) = ap (with_role role) (prepend-syntax roles)

prepend-unsupported : (roles : List ℕ) → prepend roles ([], Some (Unsupported 0)) ≡ (roles, Some (Unsupported (length roles)))
prepend-unsupported [] = refl
prepend-unsupported (role ∷ roles) = ap (with_role role) (prepend-unsupported roles)

-- nothing before a grammar changes nothing
pub read_from-empty_first : (has : Membership) (kinds : List ℕ) (g : Grammar) → read_from has kinds (Seq Empty g) ≡ read_from has kinds g
unfolding read_from
read_from-empty_first has [] g = refl
read_from-empty_first has (kind ∷ kinds) g = refl

-- the stack's step, by what reading gives
pub Steps-takes : (has : Membership) (kind : ℕ) (g : Grammar) (taken : Option ℕ) (left : List Grammar) → Steps taken (after has g kind) left → Takes has kind taken g (sequence left)
unfolding read_from
Steps-takes has kind g taken left h kinds = by (after has g kind) h where
  by : (next : Next) → Steps taken next left → read_next next (read_from has kinds) ≡ read_behind taken (read_from has kinds (sequence left))
  by None h = ap (λ (o : Option ℕ). read_behind o (read_from has kinds (sequence left))) (sym h)
  by (Some next) h =
      ap (λ (rest : List Grammar). read_behind (Some next.0) (read_from has kinds (sequence rest))) (sym h.1)
      ∙ ap (λ (o : Option ℕ). read_behind o (read_from has kinds (sequence left))) (sym h.0)

-- no token is left
pub read_end : (has : Membership) (g : Grammar) → read_from has [] g ≡ (if is_nullable g then ([], None) else ([], Some (Syntax 0)))
unfolding read_from
read_end has g = refl

-- What reading gives of all tokens, where those with these roles were read before a token.

pub token_refused : (roles : List ℕ) (before behind all : Outcome) (taken : Option ℕ) → prepend roles before ≡ all → before ≡ read_behind taken behind → taken ≡ None → all ≡ (roles, Some (Syntax (length roles)))
token_refused roles before behind all taken so_far step none =
    sym so_far ∙ ap (prepend roles) (step ∙ ap (λ (o : Option ℕ). read_behind o behind) none) ∙ prepend-syntax roles

taken_with : (before behind : Outcome) (taken : Option ℕ) (role : ℕ) (b : Bool) → before ≡ read_behind taken behind → taken ≡ Some role → (role == unsupported) ≡ b → before ≡ (if b then ([], Some (Unsupported 0)) else with_role role behind)
taken_with before behind taken role b step some e =
    step ∙ ap (λ (o : Option ℕ). read_behind o behind) some ∙ ap (λ (c : Bool). let made : Outcome = if c then ([], Some (Unsupported 0)) else with_role role behind in made) e

pub token_unsupported : (roles : List ℕ) (before behind all : Outcome) (taken : Option ℕ) (role : ℕ) → prepend roles before ≡ all → before ≡ read_behind taken behind → taken ≡ Some role → (role == unsupported) ≡ true → all ≡ (roles, Some (Unsupported (length roles)))
token_unsupported roles before behind all taken role so_far step some e =
    sym so_far ∙ ap (prepend roles) (taken_with before behind taken role true step some e) ∙ prepend-unsupported roles

pub token_taken : (roles : List ℕ) (before behind all : Outcome) (taken : Option ℕ) (role : ℕ) → prepend roles before ≡ all → before ≡ read_behind taken behind → taken ≡ Some role → (role == unsupported) ≡ false → prepend (roles ++ role ∷ []) behind ≡ all
token_taken roles before behind all taken role so_far step some e =
    prepend-push roles role behind ∙ sym (ap (prepend roles) (taken_with before behind taken role false step some e)) ∙ so_far

pub tokens_ended : (roles : List ℕ) (has : Membership) (g : Grammar) (all : Outcome) (nullable : Bool) → prepend roles (read_from has [] g) ≡ all → nullable ≡ is_nullable g → all ≡ (if nullable then (roles, None) else (roles, Some (Syntax (length roles))))
tokens_ended roles has g all nullable so_far e =
    sym so_far ∙ ap (prepend roles) (read_end has g) ∙ ap (λ (b : Bool). let made : Outcome = if b then ([], None) else ([], Some (Syntax 0)) in prepend roles made) (sym e) ∙ by nullable
  where
    by : (b : Bool) → prepend roles (if b then ([], None) else ([], Some (Syntax 0))) ≡ (if b then (roles, None) else (roles, Some (Syntax (length roles))))
    by true = prepend-end roles
    by false = prepend-syntax roles

-- The loop over a list of kinds.

-- its invariant: the roles so far, and what reading gives of the rest
pub record ReadSoFar (has : Membership) (kinds : List ℕ) (at : ℕ) (left : Grammar) (roles : List ℕ) (all : Outcome) : Type 0 where
  pub placed : length roles ≡ at
  pub rest : prepend roles (read_from has (drop at kinds) left) ≡ all

-- one token is read
token_at : (has : Membership) (kinds : List ℕ) (at : ℕ) (taken : Option ℕ) (old new : Grammar) → at < length kinds → Takes has (get_or kinds at 0) taken old new → read_from has (drop at kinds) old ≡ read_behind taken (read_from has (drop (at + 1) kinds) new)
token_at has kinds at taken old new h takes =
    ap (λ (z : List ℕ). read_from has z old) (drop-cons kinds at 0 h) ∙ takes (drop (suc at) kinds) ∙ ap (λ (z : ℕ). read_behind taken (read_from has (drop z kinds) new)) (sym (add-one at))

pub all-refused : (has : Membership) (kinds : List ℕ) (at : ℕ) (old new : Grammar) (roles : List ℕ) (all : Outcome) (taken : Option ℕ) → at < length kinds → ReadSoFar has kinds at old roles all → taken ≡ None → Takes has (get_or kinds at 0) taken old new → all ≡ (roles, Some (Syntax at))
all-refused has kinds at old new roles all taken h so_far q s =
    token_refused roles (read_from has (drop at kinds) old) (read_from has (drop (at + 1) kinds) new) all taken so_far.rest (token_at has kinds at taken old new h s) q
    ∙ ap (λ (z : ℕ). let made : Outcome = (roles, Some (Syntax z)) in made) so_far.placed

pub all-unsupported : (has : Membership) (kinds : List ℕ) (at : ℕ) (old new : Grammar) (roles : List ℕ) (all : Outcome) (taken : Option ℕ) (role : ℕ) → at < length kinds → ReadSoFar has kinds at old roles all → taken ≡ Some role → (role == unsupported) ≡ true → Takes has (get_or kinds at 0) taken old new → all ≡ (roles, Some (Unsupported at))
all-unsupported has kinds at old new roles all taken role h so_far q p s =
    token_unsupported roles (read_from has (drop at kinds) old) (read_from has (drop (at + 1) kinds) new) all taken role so_far.rest (token_at has kinds at taken old new h s) q p
    ∙ ap (λ (z : ℕ). let made : Outcome = (roles, Some (Unsupported z)) in made) so_far.placed

pub ReadSoFar-push : (has : Membership) (kinds : List ℕ) (at : ℕ) (old new : Grammar) (roles more : List ℕ) (all : Outcome) (taken : Option ℕ) (role : ℕ) → at < length kinds → ReadSoFar has kinds at old roles all → taken ≡ Some role → (role == unsupported) ≡ false → more ≡ roles ++ role ∷ [] → Takes has (get_or kinds at 0) taken old new → ReadSoFar has kinds (at + 1) new more all
ReadSoFar-push has kinds at old new roles more all taken role h so_far q p m s =
    let same : length roles ≡ at = so_far.placed in
    let behind = read_from has (drop (at + 1) kinds) new in
    record {
      placed = omega (arith, ap length m, length-append roles (role ∷ []));
      rest = ap (λ (z : List ℕ). prepend z behind) m ∙ token_taken roles (read_from has (drop at kinds) old) behind all taken role so_far.rest (token_at has kinds at taken old new h s) q p;
    }

drop_past : (xs : List ℕ) (count : ℕ) → length xs ≤ count → drop count xs ≡ []
drop_past [] zero h = refl
drop_past [] (suc count) h = refl
drop_past (x ∷ xs) zero h = absurd (omega arith)
drop_past (x ∷ xs) (suc count) h = drop_past xs count (omega arith)

pub all-end : (has : Membership) (kinds : List ℕ) (at : ℕ) (left : Grammar) (roles : List ℕ) (all : Outcome) (nullable : Bool) → length kinds ≤ at → ReadSoFar has kinds at left roles all → nullable ≡ is_nullable left → all ≡ (if nullable then (roles, None) else (roles, Some (Syntax (length roles))))
all-end has kinds at left roles all nullable h so_far q =
    tokens_ended roles has left all nullable (ap (λ (z : List ℕ). prepend roles (read_from has z left)) (sym (drop_past kinds at h)) ∙ so_far.rest) q
