-- Going over the units of a dump: what is found first, and what second.
use Rattle.std.proofs.Common.{◌≡◌, ℕ, Bool, true, false, cond, ◌&&◌, ◌||◌, List, [], ◌∷◌, Option, Some, None, refl, sym, ap, ◌∙◌, is_some}
use Rattle.std.specs.Option.{option_or}
use Rattle.std.specs.List.{list_any}
use Rattle.dm_syntax.specs.declared.piece.Piece.{Piece}
use Rattle.dm_dump.specs.declared.outline.Span.{Span}
use Rattle.dm_dump.specs.declared.role.TheConstants as role
use Rattle.dm_dump.specs.Units.{begins_with, is_create}
use Rattle.dm_dump.specs.Reading.{Contents}
use Rattle.dm_dump.specs.declared.fault.Fault.{Fault}
use Rattle.dm_dump.specs.declared.outline.Outline.{Outline}
use Rattle.dm_dump.specs.Units.{units}
use Rattle.dm_dump.specs.Outlines.{least, place_if, create_place, second_place, insert_place, insert_ends, unless_torn, whole_insert, span_if, create_span, second_create, outline_of}

pub or_assoc : {A : Type 0} (a b c : Option A) → option_or (option_or a b) c ≡ option_or a (option_or b c)
or_assoc None b c = refl
or_assoc (Some x) b c = refl

pub or_none : {A : Type 0} (a : Option A) → option_or a None ≡ a
or_none None = refl
or_none (Some x) = refl

-- the second that is found, where one was found before or not
abbrev pub second_behind : Option ℕ → Bool → List (List Piece) → Option ℕ
second_behind second created us = option_or second (cond created (create_place us) (second_place us))

pub create_step : (text : List ℕ) (create found total : Option Span) (u : List Piece) (us all : List (List Piece)) → all ≡ u ∷ us → found ≡ option_or create (span_if text (is_create u) u us)
    → option_or create (create_span text all) ≡ total → option_or found (create_span text us) ≡ total
create_step text create found total u us all e f so_far =
    rw f (or_assoc create (span_if text (is_create u) u us) (create_span text us) ∙ ap (λ (rest : List (List Piece)). option_or create (create_span text rest)) (sym e) ∙ so_far)

pub insert_step : (insert found total : Option ℕ) (u : List Piece) (us all : List (List Piece)) → all ≡ u ∷ us → found ≡ option_or insert (place_if (begins_with role.INSERT u) u)
    → option_or insert (insert_place all) ≡ total → option_or found (insert_place us) ≡ total
insert_step insert found total u us all e f so_far =
    rw f (or_assoc insert (place_if (begins_with role.INSERT u) u) (insert_place us) ∙ ap (λ (rest : List (List Piece)). option_or insert (insert_place rest)) (sym e) ∙ so_far)

-- the first INSERT ends, which was found before or not, and had ended or not
abbrev pub ends_behind : Bool → Option ℕ → List (List Piece) → Bool
ends_behind ended insert us = ended || cond (is_some insert) (list_any (begins_with role.END) us) (insert_ends us)

ended_moves : (ended : Bool) (insert : Option ℕ) (u : List Piece) (us : List (List Piece))
    → ends_behind (ended || (is_some insert && begins_with role.END u)) (option_or insert (place_if (begins_with role.INSERT u) u)) us ≡ ends_behind ended insert (u ∷ us)
ended_moves true insert u us = refl
ended_moves false (Some at) u us = refl
ended_moves false None u us = by (begins_with role.INSERT u) where
  by : (b : Bool) → cond (is_some (place_if b u)) (list_any (begins_with role.END) us) (insert_ends us) ≡ cond b (list_any (begins_with role.END) us) (insert_ends us)
  by true = refl
  by false = refl

pub ended_step : (ended later : Bool) (insert found : Option ℕ) (total : Bool) (u : List Piece) (us all : List (List Piece)) → all ≡ u ∷ us → later ≡ (ended || (is_some insert && begins_with role.END u))
    → found ≡ option_or insert (place_if (begins_with role.INSERT u) u) → ends_behind ended insert all ≡ total → ends_behind later found us ≡ total
ended_step ended later insert found total u us all e l f so_far = rw (l, f) (ended_moves ended insert u us ∙ ap (ends_behind ended insert) (sym e) ∙ so_far)

-- what was found, where the unit was handed on twice
pub insert_placed : (insert found : Option ℕ) (passes : Bool) (one other u : List Piece) → found ≡ option_or insert (place_if passes other) → passes ≡ begins_with role.INSERT one → one ≡ u → other ≡ u → found ≡ option_or insert (place_if (begins_with role.INSERT u) u)
insert_placed insert found passes one other u f p o e = f ∙ rw (e, p, o) refl

second_moves : (second : Option ℕ) (created creates : Bool) (u : List Piece) (us : List (List Piece)) → is_create u ≡ creates
    → second_behind (option_or second (place_if (creates && created) u)) (created || creates) us ≡ second_behind second created (u ∷ us)
second_moves second true true u us e = rw e (or_assoc second (place_if true u) (create_place us))
second_moves second true false u us e = rw e (or_assoc second None (create_place us))
second_moves second false true u us e = rw e (or_assoc second None (create_place us))
second_moves second false false u us e = rw e (or_assoc second None (second_place us))

created_more : (create found : Option Span) (text : List ℕ) (passes : Bool) (u : List Piece) (us : List (List Piece)) → found ≡ option_or create (span_if text passes u us) → is_some found ≡ (is_some create || passes)
created_more None found text true u us e = rw e refl
created_more None found text false u us e = rw e refl
created_more (Some s) found text passes u us e = rw e refl

pub second_step : (text : List ℕ) (create found : Option Span) (second later total : Option ℕ) (u : List Piece) (us all : List (List Piece)) → all ≡ u ∷ us
    → found ≡ option_or create (span_if text (is_create u) u us) → later ≡ option_or second (place_if (is_create u && is_some create) u)
    → second_behind second (is_some create) all ≡ total → second_behind later (is_some found) us ≡ total
second_step text create found second later total u us all e f l so_far =
    rw (l, created_more create found text (is_create u) u us f)
    (second_moves second (is_some create) (is_create u) u us refl ∙ ap (second_behind second (is_some create)) (sym e) ∙ so_far)

-- Behind the last unit.

pub second_found : (second : Option ℕ) (created : Bool) (left all : Contents) → left.pieces ≡ [] → second_behind second created (units left.pieces) ≡ second_place (units all.pieces) → second ≡ second_place (units all.pieces)
second_found second created left all none so_far =
    sym (or_none second) ∙ sym (ends created) ∙ ap (λ (ps : List Piece). second_behind second created (units ps)) (sym none) ∙ so_far
  where
    ends : (b : Bool) → second_behind second b [] ≡ option_or second None
    ends true = refl
    ends false = refl

pub ending_found : (second : Option ℕ) (created : Bool) (left all : Contents) (ending fault : Option Fault) → left.pieces ≡ [] → second_behind second created (units left.pieces) ≡ second_place (units all.pieces)
    → ending ≡ all.ending → fault ≡ least (second_create second) ending → fault ≡ least (second_create (second_place (units all.pieces))) all.ending
ending_found second created left all ending fault none so_far last e =
    e ∙ ap (λ (s : Option ℕ). least (second_create s) ending) (second_found second created left all none so_far) ∙ ap (least (second_create (second_place (units all.pieces)))) last

pub ended_found : (ended : Bool) (insert : Option ℕ) (left all : Contents) → left.pieces ≡ [] → ends_behind ended insert (units left.pieces) ≡ insert_ends (units all.pieces) → ended ≡ insert_ends (units all.pieces)
ended_found ended insert left all none so_far = sym (ends ended insert) ∙ ap (λ (ps : List Piece). ends_behind ended insert (units ps)) (sym none) ∙ so_far where
  ends : (b : Bool) (o : Option ℕ) → ends_behind b o [] ≡ b
  ends true o = refl
  ends false None = refl
  ends false (Some at) = refl

whole_found : (all : Contents) (ended : Bool) (ending : Option Fault) (insert first_insert : Option ℕ) → ended ≡ insert_ends (units all.pieces) → ending ≡ all.ending → insert ≡ insert_place (units all.pieces) → first_insert ≡ unless_torn ended ending insert
    → first_insert ≡ whole_insert all
whole_found all ended ending insert first_insert b last i e =
    e ∙ ap (λ (ends : Bool). unless_torn ends ending insert) b ∙ ap (λ (o : Option Fault). unless_torn (insert_ends (units all.pieces)) o insert) last ∙ ap (unless_torn (insert_ends (units all.pieces)) all.ending) i

pub outline_found : (text : List ℕ) (all left : Contents) (create : Option Span) (second insert first_insert : Option ℕ) (ended : Bool) (ending fault : Option Fault) → left.pieces ≡ []
    → option_or create (create_span text (units left.pieces)) ≡ create_span text (units all.pieces)
    → second_behind second (is_some create) (units left.pieces) ≡ second_place (units all.pieces)
    → option_or insert (insert_place (units left.pieces)) ≡ insert_place (units all.pieces)
    → ends_behind ended insert (units left.pieces) ≡ insert_ends (units all.pieces)
    → ending ≡ all.ending → first_insert ≡ unless_torn ended ending insert → fault ≡ least (second_create second) ending
    → (let made : Outline = record { create = create; first_insert = first_insert; fault = fault } in made) ≡ outline_of text all
outline_found text all left create second insert first_insert ended ending fault none c s i n last f e =
    let creates : create ≡ create_span text (units all.pieces) = sym (or_none create) ∙ ap (λ (ps : List Piece). option_or create (create_span text (units ps))) (sym none) ∙ c in
    let found : insert ≡ insert_place (units all.pieces) = sym (or_none insert) ∙ ap (λ (ps : List Piece). option_or insert (insert_place (units ps))) (sym none) ∙ i in
    let inserts : first_insert ≡ whole_insert all = whole_found all ended ending insert first_insert (ended_found ended insert left all none n) last found f in
    let faults : fault ≡ least (second_create (second_place (units all.pieces))) all.ending = ending_found second (is_some create) left all ending fault none s last e in
    ap (λ (o : Option Span). let made : Outline = record { create = o; first_insert = first_insert; fault = fault } in made) creates
    ∙ ap (λ (o : Option ℕ). let made : Outline = record { create = create_span text (units all.pieces); first_insert = o; fault = fault } in made) inserts
    ∙ ap (λ (o : Option Fault). let made : Outline = record { create = create_span text (units all.pieces); first_insert = whole_insert all; fault = o } in made) faults
