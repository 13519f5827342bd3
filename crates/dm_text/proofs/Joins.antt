-- Texts that are added one behind another.
use Rattle.std.proofs.Common.{◌≡◌, ℕ, ◌+◌, ◌<◌, List, [], ◌∷◌, ◌++◌, length, get_or, take, sym, ap, ◌∙◌, append_assoc, arith}
use Rattle.std.proofs.lemmas.Grind.{common_steps}
use Rattle.std.specs.Prelude.{codes}
use Rattle.std.specs.List.{flat_map}
use Rattle.dm_schema.specs.declared.column.Kind.{Kind}
use Rattle.dm_schema.specs.declared.column.DefaultRule.{DefaultRule}
use Rattle.dm_schema.specs.declared.column.DefaultRule.TheVariants as default
use Rattle.dm_schema.specs.declared.column.Column.{Column}
use Rattle.dm_schema.specs.declared.column.UniqueKey.{UniqueKey}
use Rattle.dm_schema.specs.Layout.{Layout}
use Rattle.dm_text.specs.Kinds.{fraction_digits, fraction_text}
use Rattle.dm_text.specs.Columns.{default_text, column_part, primary_part, unique_part, parts_text}

pub two_joined : (old a b first last : List ℕ) → first ≡ old ++ a → last ≡ first ++ b → last ≡ old ++ (a ++ b)
two_joined old a b first last e1 e2 = e2 ∙ ap (λ xs. xs ++ b) e1 ∙ append_assoc old a b

pub three_joined : (old a b c first second last : List ℕ) → first ≡ old ++ a → second ≡ first ++ b → last ≡ second ++ c → last ≡ old ++ (a ++ b ++ c)
three_joined old a b c first second last e1 e2 e3 = two_joined old (a ++ b) c second last (two_joined old a b first second e1 e2) e3

pub five_joined : (old a b c d e first second third fourth last : List ℕ) → first ≡ old ++ a → second ≡ first ++ b → third ≡ second ++ c → fourth ≡ third ++ d → last ≡ fourth ++ e → last ≡ old ++ (a ++ b ++ c ++ d ++ e)
five_joined old a b c d e first second third fourth last e1 e2 e3 e4 e5 = three_joined old (a ++ b ++ c) d e third fourth last (three_joined old a b c first second third e1 e2 e3) e4 e5

-- a text between two signs
pub enclosed : (old text first second last : List ℕ) (sign : ℕ) → first ≡ old ++ sign ∷ [] → second ≡ first ++ text → last ≡ second ++ sign ∷ [] → last ≡ old ++ (sign ∷ text ++ sign ∷ [])
enclosed old text first second last sign e1 e2 e3 = three_joined old (sign ∷ []) text (sign ∷ []) first second last e1 e2 e3

-- the default of the present moment
pub now_joined : (k : Kind) (rule : DefaultRule) (digits : ℕ) (old first last : List ℕ) → rule ≡ default.Now → digits ≡ fraction_digits k → first ≡ old ++ codes " DEFAULT CURRENT_TIMESTAMP" → last ≡ first ++ fraction_text digits → last ≡ old ++ default_text k rule
now_joined k rule digits old first last is same e1 e2 =
    two_joined old (codes " DEFAULT CURRENT_TIMESTAMP") (fraction_text digits) first last e1 e2
    ∙ (λ i. old ++ (codes " DEFAULT CURRENT_TIMESTAMP" ++ fraction_text (same i)))
    ∙ ap (λ (r : DefaultRule). old ++ default_text k r) (sym is)

-- one item more of a loop
pub one_more : {A : Type 0} (f : A → List ℕ) (xs : List A) (i : ℕ) (x : A) (old items now : List ℕ) → i < length xs → x ≡ get_or xs i x → items ≡ old ++ flat_map f (take i xs) → now ≡ items ++ f x → now ≡ old ++ flat_map f (take (i + 1) xs)
one_more f xs i x old items now within is so_far more = grind (arith, common_steps)

pub parts_joined : (layout : Layout) (columns : List Column) (primary : List (List ℕ)) (uniques : List UniqueKey) (old first second last : List ℕ) → columns ≡ layout.columns → primary ≡ layout.primary → uniques ≡ layout.uniques
    → first ≡ old ++ flat_map column_part columns → second ≡ first ++ primary_part primary → last ≡ second ++ flat_map unique_part uniques → last ≡ old ++ parts_text layout
parts_joined layout columns primary uniques old first second last c p u e1 e2 e3 =
    three_joined old (flat_map column_part columns) (primary_part primary) (flat_map unique_part uniques) first second last e1 e2 e3
    ∙ (λ i. old ++ (flat_map column_part (c i) ++ primary_part (p i) ++ flat_map unique_part (u i)))
