-- What one change keeps, all changes of a statement keep.
use Rattle.std.proofs.Common.{◌≡◌, Bool, true, false, cond, List, [], ◌∷◌, ◌++◌, length, Option, Some, None, Result, Ok, Err, nat_lt, nat_le, is_none, refl, sym, ap, ◌∙◌, subst, arith, ◌||◌}
use Rattle.std.specs.List.{list_all}
use Rattle.std.proofs.lemmas.Bool.{and_parts}
use Rattle.std.proofs.lemmas.Bool.Decides.{nat_tests}
use Rattle.std.proofs.lemmas.List.{append_assoc, append-nil}
use Rattle.dm_list.specs.Answer.{first_refusal, unless_refused}
use Rattle.dm_schema.specs.declared.change.Change.{Change}
use Rattle.dm_schema.specs.declared.fault.EffectFault.{EffectFault}
use Rattle.dm_schema.specs.declared.fault.EffectFault.TheVariants as fault
use Rattle.dm_schema.specs.declared.fault.SchemaFault.{SchemaFault}
use Rattle.dm_schema.specs.declared.fault.SchemaFault.TheVariants as schema_fault
use Rattle.dm_schema.specs.Layout.{Layout}
use Rattle.dm_schema.specs.Schemas.{refusals, has_too_many_keys, schema_of, joined_schema_of}
use Rattle.dm_schema.specs.Effect.{Making, Reading, refusals_of, changed, made, step, steps}

-- Makings.

-- these columns and keys have no refusal and 16 unique keys at most
abbrev pub IsUnrefused : Layout → Type 0
IsUnrefused layout = (nat_le (length layout.uniques) 16 ≡ true) × (is_none (first_refusal (refusals layout.columns layout.primary layout.uniques)) ≡ true)

-- a making that answers only what it was given, and that only where nothing refuses it
abbrev pub IsCareful : Making → Type 0
IsCareful make = (layout after : Layout) → make layout.columns layout.primary layout.uniques ≡ Ok after → (after ≡ layout) × IsUnrefused layout

at_most_keys : (layout : Layout) → has_too_many_keys layout.uniques ≡ false → nat_le (length layout.uniques) 16 ≡ true
at_most_keys layout few = grind (arith, nat_tests)

unrefused : (layout after : Layout) (o : Option SchemaFault) → first_refusal (refusals layout.columns layout.primary layout.uniques) ≡ o
    → has_too_many_keys layout.uniques ≡ false → unless_refused o layout ≡ Ok after → (after ≡ layout) × IsUnrefused layout
unrefused layout after (Some e) none few answer = absurd cc
unrefused layout after None none few answer =
    let same : layout ≡ after = cc in
    (sym same, (at_most_keys layout few, ap is_none none))

pub joined_is_careful : IsCareful joined_schema_of
joined_is_careful layout after answer = by (has_too_many_keys layout.uniques) refl answer where
  by : (many : Bool) → has_too_many_keys layout.uniques ≡ many
      → unless_refused (cond many (Some schema_fault.TooMany) (first_refusal (refusals layout.columns layout.primary layout.uniques))) layout ≡ Ok after
      → (after ≡ layout) × IsUnrefused layout
  by true e h = absurd cc
  by false e h = unrefused layout after (first_refusal (refusals layout.columns layout.primary layout.uniques)) refl e h

pub read_is_careful : IsCareful schema_of
read_is_careful layout after answer = by (nat_lt 256 (length layout.columns)) (has_too_many_keys layout.uniques) refl answer where
  by : (wide many : Bool) → has_too_many_keys layout.uniques ≡ many
      → unless_refused (cond (wide || many) (Some schema_fault.TooMany) (first_refusal (refusals layout.columns layout.primary layout.uniques))) layout ≡ Ok after
      → (after ≡ layout) × IsUnrefused layout
  by true many e h = absurd cc
  by false true e h = absurd cc
  by false false e h = unrefused layout after (first_refusal (refusals layout.columns layout.primary layout.uniques)) refl e h

-- Steps.

-- a change that has an effect isn't refused, and leaves the changed columns and keys, of which a schema is made
pub record IsTaken (read : Reading) (before : List Change) (layout : Layout) (c : Change) (after : Layout) : Type 0 where
  pub allowed : first_refusal (refusals_of read before layout c) ≡ None
  pub leaves : after ≡ changed read layout c
  pub is_unrefused : IsUnrefused (changed read layout c)

made_taken : (make : Making) → IsCareful make → (layout after : Layout) → made make layout ≡ Ok after → (after ≡ layout) × IsUnrefused layout
made_taken make careful layout after answer = taken (make layout.columns layout.primary layout.uniques) refl answer where
  by : Result Layout SchemaFault → Result Layout EffectFault
  by (Ok given) = Ok given
  by (Err e) = Err (fault.Made e)

  taken : (r : Result Layout SchemaFault) → make layout.columns layout.primary layout.uniques ≡ r → by r ≡ Ok after → (after ≡ layout) × IsUnrefused layout
  taken (Ok given) e h =
      let same : given ≡ after = cc in
      careful layout after (e ∙ ap Ok same)
  taken (Err fault) e h = absurd cc

pub step_taken : (make : Making) → IsCareful make → (read : Reading) (before : List Change) (layout : Layout) (c : Change) (after : Layout)
    → step make read before layout c ≡ Ok after → IsTaken read before layout c after
step_taken make careful read before layout c after answer = taken (first_refusal (refusals_of read before layout c)) refl answer where
  by : Option EffectFault → Result Layout EffectFault
  by (Some e) = Err e
  by None = made make (changed read layout c)

  taken : (o : Option EffectFault) → first_refusal (refusals_of read before layout c) ≡ o → by o ≡ Ok after → IsTaken read before layout c after
  taken (Some fault) e h = absurd cc
  taken None e h =
      let parts = made_taken make careful (changed read layout c) after h in
      record { allowed = e; leaves = parts.0; is_unrefused = parts.1 }

no_answer : (make : Making) (read : Reading) (before : List Change) (e : EffectFault) (cs : List Change) (after : Layout) → steps make read before (Err e) cs ≡ Ok after → ⊥
no_answer make read before e [] after h = cc
no_answer make read before e (c ∷ cs) after h = cc

-- What holds of a schema behind some changes, and goes on to hold with each further one, holds behind all of them.
-- Each of the changes passes the test that is asked of it.
pub steps_keep : (make : Making) → IsCareful make → (read : Reading) (asked : Change → Bool) (Holds : List Change → Layout → Type 0)
    → ((before : List Change) (layout : Layout) (c : Change) (after : Layout) → asked c ≡ true → IsTaken read before layout c after → Holds before layout → Holds (before ++ c ∷ []) after)
    → (before : List Change) (layout : Layout) (changes : List Change) (after : Layout) → list_all asked changes ≡ true → Holds before layout
    → steps make read before (Ok layout) changes ≡ Ok after → Holds (before ++ changes) after
steps_keep make careful read asked Holds keeps before layout [] after all here answer =
    let same : layout ≡ after = cc in
    rw (append-nil before, ← same) here
steps_keep make careful read asked Holds keeps before layout (c ∷ cs) after all here answer =
    by (step make read before layout c) refl answer (λ between. steps_keep make careful read asked Holds keeps (before ++ c ∷ []) between cs after parts.1) where
      parts : (asked c ≡ true) × (list_all asked cs ≡ true)
      parts = and_parts (asked c) (list_all asked cs) all

      by : (r : Result Layout EffectFault) → step make read before layout c ≡ r → steps make read (before ++ c ∷ []) r cs ≡ Ok after
          → ((between : Layout) → Holds (before ++ c ∷ []) between → steps make read (before ++ c ∷ []) (Ok between) cs ≡ Ok after → Holds ((before ++ c ∷ []) ++ cs) after)
          → Holds (before ++ c ∷ cs) after
      by (Err e) taken h rest = absurd (no_answer make read (before ++ c ∷ []) e cs after h)
      by (Ok between) taken h rest =
          let next = keeps before layout c between parts.0 (step_taken make careful read before layout c between taken) here in
          subst (λ front. Holds front after) (append_assoc before (c ∷ []) cs) (rest between next h)

-- the same where nothing is asked of the changes
pub all_steps_keep : (make : Making) → IsCareful make → (read : Reading) (Holds : List Change → Layout → Type 0)
    → ((before : List Change) (layout : Layout) (c : Change) (after : Layout) → IsTaken read before layout c after → Holds before layout → Holds (before ++ c ∷ []) after)
    → (before : List Change) (layout : Layout) (changes : List Change) (after : Layout) → Holds before layout
    → steps make read before (Ok layout) changes ≡ Ok after → Holds (before ++ changes) after
all_steps_keep make careful read Holds keeps before layout changes after here answer =
    steps_keep make careful read (λ c. true) Holds (λ front present c next asked. keeps front present c next) before layout changes after (nothing_asked changes) here answer where
      nothing_asked : (changes : List Change) → list_all (λ c. true) changes ≡ true
      nothing_asked [] = refl
      nothing_asked (c ∷ cs) = nothing_asked cs
