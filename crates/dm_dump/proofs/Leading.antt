-- In a dump no row comes before the first INSERT.
use Rattle.std.proofs.Common.{◌≡◌, ◌==◌, ℕ, zero, suc, Bool, true, false, not, cond, ◌&&◌, ◌||◌, List, [], ◌∷◌, ◌++◌, map, filter, Option, Some, None, refl, sym, ap, ◌∙◌, subst, ◌⊎◌, inl, inr, if◌then◌else◌}
use Rattle.std.proofs.lemmas.Bool.{and_parts, eqb-true}
use Rattle.dm_grammar.specs.Grammar.{Grammar, Empty, Word, Skip, Seq, Or, Many, Membership, Letter, Closes, Repeats, Spells}
use Rattle.dm_grammar.specs.Sentence.{roles_of, IsReading}
use Rattle.dm_grammar.specs.declared.reader.Fault.{Fault}
use Rattle.dm_lex.specs.declared.token.Token.{Token}
use Rattle.dm_syntax.specs.declared.piece.Piece.{Piece}
use Rattle.dm_syntax.specs.Pieces.{pieces_of, parts}
use Rattle.dm_dump.specs.declared.role.TheConstants as role
use Rattle.dm_dump.specs.Terminals.{in_class}
use Rattle.dm_dump.specs.Productions.{dump_grammar}
use Rattle.dm_dump.specs.Reading.{counts}
use Rattle.dm_dump.specs.Units.{begins_unit, units}

-- of roles: no row's bracket before the first INSERT
abbrev pub is_led : List ℕ → Bool
is_led [] = true
is_led (r ∷ rs) = cond (r == role.INSERT) true (cond (r == role.ROW_OPEN) false (is_led rs))

abbrev IsLed : List Letter → Type 0
IsLed letters = is_led (roles_of letters) ≡ true

-- what is spelled begins with INSERT
abbrev leads : Grammar → Bool
leads Empty = false
leads (Word class its_role) = its_role == role.INSERT
leads (Skip depth) = false
leads (Seq a b) = false
leads (Or a b) = false
leads (Many a) = false

-- whatever is spelled is led
abbrev is_safe : Grammar → Bool
is_safe Empty = true
is_safe (Word class its_role) = not (its_role == role.ROW_OPEN)
is_safe (Skip depth) = true
is_safe (Seq a b) = is_safe a && (leads a || is_safe b)
is_safe (Or a b) = is_safe a && is_safe b
is_safe (Many a) = is_safe a

led_both : (i r : Bool) (xs ys : List ℕ) → (is_led xs ≡ true → is_led ys ≡ true) → cond i true (cond r false (is_led xs)) ≡ true → cond i true (cond r false (is_led ys)) ≡ true
led_both true r xs ys more h = refl
led_both false true xs ys more h = h
led_both false false xs ys more h = more h

led_append : (xs ys : List Letter) → IsLed xs → IsLed ys → IsLed (xs ++ ys)
led_append [] ys h k = k
led_append (x ∷ xs) ys h k = led_both (x.1 == role.INSERT) (x.1 == role.ROW_OPEN) (roles_of xs) (roles_of (xs ++ ys)) (λ e. led_append xs ys e k) h

led_front : (xs ys : List Letter) → IsLed (xs ++ ys) → IsLed xs
led_front [] ys h = refl
led_front (x ∷ xs) ys h = led_both (x.1 == role.INSERT) (x.1 == role.ROW_OPEN) (roles_of (xs ++ ys)) (roles_of xs) (led_front xs ys) h

one_led : (i r : Bool) → not r ≡ true → cond i true (cond r false true) ≡ true
one_led true r h = refl
one_led false true h = h
one_led false false h = refl

same_letters : (letters others : List Letter) → letters ≡ others → IsLed others → IsLed letters
same_letters letters others e h = let P : List Letter → Type 0 = λ ls. IsLed ls in subst P (sym e) h

closes_led : (depth : ℕ) (letters : List Letter) → Closes depth letters → IsLed letters
closes_led depth [] h = refl
closes_led depth (l ∷ ls) (next, opened, skips, rest) = let P : ℕ → Type 0 = λ r. is_led (r ∷ roles_of ls) ≡ true in subst P (sym skips) (closes_led next ls rest)

repeats_led : (Piece : List Letter → Type 0) (count : ℕ) (letters : List Letter) → ((ls : List Letter) → Piece ls → IsLed ls) → Repeats Piece count letters → IsLed letters
repeats_led Piece zero letters each e = same_letters letters [] e refl
repeats_led Piece (suc count) letters each (front, back, e, one, more) = same_letters letters (front ++ back) e (led_append front back (each front one) (repeats_led Piece count back each more))

-- INSERT leads whatever stands behind it
insert_leads : (has : Membership) (g : Grammar) (front back : List Letter) → leads g ≡ true → Spells has g front → IsLed (front ++ back)
insert_leads has Empty front back l s = absurd cc
insert_leads has (Skip depth) front back l s = absurd cc
insert_leads has (Seq a b) front back l s = absurd cc
insert_leads has (Or a b) front back l s = absurd cc
insert_leads has (Many a) front back l s = absurd cc
insert_leads has (Word class its_role) front back l (kind, has_kind, e) = same_letters (front ++ back) ((kind, its_role) ∷ back) (ap (λ (ls : List Letter). ls ++ back) e) (by (its_role == role.INSERT) l) where
  by : (i : Bool) → i ≡ true → cond i true (cond (its_role == role.ROW_OPEN) false (is_led (roles_of back))) ≡ true
  by true h = refl
  by false h = absurd cc

both_led : (has : Membership) (a : Grammar) (front back : List Letter) (safe : Bool) → (leads a || safe) ≡ true → Spells has a front → IsLed front → (safe ≡ true → IsLed back) → IsLed (front ++ back)
both_led has a front back safe h s here there = by (leads a) refl h where
  by : (b : Bool) → leads a ≡ b → (b || safe) ≡ true → IsLed (front ++ back)
  by true e h = insert_leads has a front back e s
  by false e h = led_append front back here (there h)

spells_led : (has : Membership) (g : Grammar) (letters : List Letter) → is_safe g ≡ true → Spells has g letters → IsLed letters
spells_led has Empty letters safe e = same_letters letters [] e refl
spells_led has (Word class its_role) letters safe (kind, has_kind, e) = same_letters letters ((kind, its_role) ∷ []) e (one_led (its_role == role.INSERT) (its_role == role.ROW_OPEN) safe)
spells_led has (Skip depth) letters safe closes = closes_led depth letters closes
spells_led has (Seq a b) letters safe (front, back, e, s, t) =
    let each = and_parts (is_safe a) (leads a || is_safe b) safe in
    same_letters letters (front ++ back) e (both_led has a front back (is_safe b) each.1 s (spells_led has a front each.0 s) (λ h. spells_led has b back h t))
spells_led has (Or a b) letters safe (inl s) = spells_led has a letters (and_parts (is_safe a) (is_safe b) safe).0 s
spells_led has (Or a b) letters safe (inr s) = spells_led has b letters (and_parts (is_safe a) (is_safe b) safe).1 s
spells_led has (Many a) letters safe (count, repeats) = repeats_led (Spells has a) count letters (λ ls s. spells_led has a ls safe s) repeats

pub reading_led : (kinds roles : List ℕ) (first : Option Fault) → IsReading in_class dump_grammar kinds roles first → is_led roles ≡ true
reading_led kinds roles None (letters, k, r, supported, s) = let P : List ℕ → Type 0 = λ rs. is_led rs ≡ true in subst P r (spells_led in_class dump_grammar letters refl s)
reading_led kinds roles (Some fault) (front, rest, e, (letters, more, k, r, supported, s), fails) =
    let P : List ℕ → Type 0 = λ rs. is_led rs ≡ true in subst P r (led_front letters more (spells_led in_class dump_grammar (letters ++ more) refl s))

-- The pieces that are kept.

abbrev pub roles_in : List Piece → List ℕ
roles_in ps = map (λ p. p.role) ps

kept_both : (r : ℕ) (b : Bool) (rs : List ℕ) (p : Piece) (ps : List Piece) → p.role ≡ r → (r == role.FILLER) ≡ b → is_led (r ∷ rs) ≡ true → (is_led rs ≡ true → is_led (roles_in ps) ≡ true)
    → is_led (roles_in (cond (not b) (p ∷ ps) ps)) ≡ true
kept_both r true rs p ps same e h more =
    let P : ℕ → Type 0 = λ n. is_led (n ∷ rs) ≡ true in more (subst P (eqb-true r role.FILLER e) h)
kept_both r false rs p ps same e h more =
    let P : ℕ → Type 0 = λ n. is_led (n ∷ roles_in ps) ≡ true in subst P (sym same) (led_both (r == role.INSERT) (r == role.ROW_OPEN) rs (roles_in ps) more h)

pub kept_led : (tokens : List Token) (kinds roles : List ℕ) → is_led roles ≡ true → is_led (roles_in (filter counts (pieces_of tokens kinds roles))) ≡ true
kept_led [] kinds roles h = refl
kept_led (t ∷ ts) [] roles h = refl
kept_led (t ∷ ts) (k ∷ ks) [] h = refl
kept_led (t ∷ ts) (k ∷ ks) (r ∷ rs) h =
    kept_both r (r == role.FILLER) rs (record { token = t; kind = k; role = r }) (filter counts (pieces_of ts ks rs)) refl refl h (kept_led ts ks rs)

-- Units.

-- no unit is a row before the first that is an INSERT
abbrev pub units_led : List (List Piece) → Bool
units_led [] = true
units_led ([] ∷ us) = units_led us
units_led ((p ∷ ps) ∷ us) = cond (p.role == role.INSERT) true (cond (p.role == role.ROW_OPEN) false (units_led us))

unit_led : (i r : Bool) (ps : List Piece) (us : List (List Piece)) → (is_led (roles_in ps) ≡ true → units_led us ≡ true) → cond i true (cond r false (is_led (roles_in ps))) ≡ true → cond i true (cond r false (units_led us)) ≡ true
unit_led true r ps us more h = refl
unit_led false true ps us more h = h
unit_led false false ps us more h = more h

insert_begins : (p : Piece) → p.role ≡ role.INSERT → begins_unit p ≡ true
insert_begins p e = rw e refl

passed_over : (p : Piece) (i r : Bool) (ps : List Piece) → (p.role == role.INSERT) ≡ i → begins_unit p ≡ false → cond i true (cond r false (is_led (roles_in ps))) ≡ true → is_led (roles_in ps) ≡ true
passed_over p true r ps e none h = absurd (let begins = insert_begins p (eqb-true p.role role.INSERT e) in cc)
passed_over p false true ps e none h = absurd cc
passed_over p false false ps e none h = h

parts_led : (ps : List Piece) → is_led (roles_in ps) ≡ true → units_led (parts begins_unit ps) ≡ true
parts_led [] h = refl
parts_led (p ∷ ps) h = by (begins_unit p) refl (parts_led ps) where
  by : (b : Bool) → begins_unit p ≡ b → (is_led (roles_in ps) ≡ true → units_led (parts begins_unit ps) ≡ true) → units_led (parts begins_unit (p ∷ ps)) ≡ true
  by true e more = rw e (unit_led (p.role == role.INSERT) (p.role == role.ROW_OPEN) ps (parts begins_unit ps) more h)
  by false e more = rw e (more (passed_over p (p.role == role.INSERT) (p.role == role.ROW_OPEN) ps refl e h))

pub pieces_led : (ps : List Piece) → is_led (roles_in ps) ≡ true → units_led (units ps) ≡ true
pieces_led [] h = refl
pieces_led (p ∷ ps) h = unit_led (p.role == role.INSERT) (p.role == role.ROW_OPEN) ps (parts begins_unit ps) (parts_led ps) h
