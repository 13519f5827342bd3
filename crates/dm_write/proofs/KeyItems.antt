-- What the definitions of written keys say: their names and columns.
use Rattle.std.proofs.Common.{◌≡◌, ◌==◌, ◌||◌, ℕ, Bool, true, false, List, [], ◌∷◌, ◌++◌, map, length, refl, ap, ◌∙◌, append-nil}
use Rattle.std.specs.Prelude.{codes}
use Rattle.std.specs.List.{list_all, filter, flat_map}
use Rattle.std.proofs.lemmas.Bool.{and_parts, eqb-true}
use Rattle.std.proofs.lemmas.List.{map-append}
use Rattle.dm_schema.specs.declared.column.UniqueKey.{UniqueKey}
use Rattle.dm_schema.specs.Kinds.{is_folded}
use Rattle.dm_syntax.specs.declared.role.TheConstants as role
use Rattle.dm_ddl.specs.declared.keys.WrittenKey.{WrittenKey}
use Rattle.dm_write.proofs.Splitting.{either_false, all_both, filter_both}
use Rattle.dm_write.proofs.Signs as sign
use Rattle.dm_write.proofs.Signs.{Sign}
use Rattle.dm_write.proofs.Seen.{Seen, shown, has, folded, all_folded}
use Rattle.dm_write.proofs.Meaning.{over, uniques_of, primaries_of, key_from}
use Rattle.dm_write.proofs.ColumnItems.{all_shown, only, lacks, folded_name_is_read}

-- the columns of a key in brackets, and what stands behind them
abbrev pub names_before : List (List ℕ) → List Sign → List Sign
names_before names tail = sign.mark 40 role.FILLER ∷ sign.part_signs names ++ sign.mark 41 role.FILLER ∷ tail

abbrev pub definition : Sign → List Sign → List Sign
definition d signs = record { spelling = d.spelling; role = role.DEFINITION } ∷ signs

abbrev pub primary_item : Sign → List (List ℕ) → List Sign → List Sign
primary_item d names tail = definition d (sign.word (codes "PRIMARY") role.FILLER ∷ sign.word (codes "KEY") role.PRIMARY_KEY ∷ names_before names tail)

abbrev pub unique_item : Sign → UniqueKey → List Sign → List Sign
unique_item d k tail =
    definition d (sign.word (codes "UNIQUE") role.UNIQUE_KEY ∷ sign.word (codes "KEY") role.FILLER ∷ sign.name k.name role.KEY_NAME ∷ names_before k.columns tail)

-- Roles.

abbrev pub is_filler : ℕ → Bool
is_filler r = r == role.FILLER

abbrev pub is_part_role : ℕ → Bool
is_part_role r = r == role.FILLER || r == role.KEY_PART

more_roles : (ns : List (List ℕ)) → only is_part_role (flat_map sign.more_part ns) ≡ true
more_roles [] = refl
more_roles (n ∷ ns) = more_roles ns

part_roles : (ns : List (List ℕ)) → only is_part_role (sign.part_signs ns) ≡ true
part_roles [] = refl
part_roles (n ∷ ns) = more_roles ns

tail_roles : (tail : List Sign) → only is_filler tail ≡ true → only is_part_role tail ≡ true
tail_roles [] h = refl
tail_roles (s ∷ ss) h =
    let parts = and_parts (is_filler s.role) (only is_filler ss) h in
    rw parts.0 (tail_roles ss parts.1)

pub names_roles : (names : List (List ℕ)) (tail : List Sign) → only is_filler tail ≡ true → only is_part_role (names_before names tail) ≡ true
names_roles names tail h = all_both (λ s. is_part_role s.role) (sign.part_signs names) (sign.mark 41 role.FILLER ∷ tail) (part_roles names) (tail_roles tail h)

names_lack : (names : List (List ℕ)) (tail : List Sign) (its_role : ℕ) → only is_filler tail ≡ true → is_part_role its_role ≡ false → has its_role (all_shown (names_before names tail)) ≡ false
names_lack names tail its_role h q = lacks is_part_role its_role (names_before names tail) (names_roles names tail h) q

-- The columns.

abbrev parts_in : List Sign → List Seen
parts_in signs = filter (λ s. s.role == role.KEY_PART) (all_shown signs)

no_parts : (tail : List Sign) → only is_filler tail ≡ true → parts_in tail ≡ []
no_parts [] h = refl
no_parts (s ∷ ss) h =
    let parts = and_parts (is_filler s.role) (only is_filler ss) h in
    let other : (s.role == role.KEY_PART) ≡ false = let same = eqb-true s.role role.FILLER parts.0 in ap (λ r. r == role.KEY_PART) same in
    rw other (no_parts ss parts.1)

parts_split : (xs ys : List Sign) → parts_in (xs ++ ys) ≡ parts_in xs ++ parts_in ys
parts_split xs ys = ap (filter (λ s. s.role == role.KEY_PART)) (map-append shown xs ys) ∙ filter_both (λ s. s.role == role.KEY_PART) (all_shown xs) (all_shown ys)

more_names : (ns : List (List ℕ)) → list_all is_folded ns ≡ true → map folded (parts_in (flat_map sign.more_part ns)) ≡ ns
more_names [] h = refl
more_names (n ∷ ns) h =
    let parts = and_parts (is_folded n) (list_all is_folded ns) h in
    λ i. folded_name_is_read n role.KEY_PART parts.0 i ∷ more_names ns parts.1 i

part_names : (ns : List (List ℕ)) → list_all is_folded ns ≡ true → map folded (parts_in (sign.part_signs ns)) ≡ ns
part_names [] h = refl
part_names (n ∷ ns) h =
    let parts = and_parts (is_folded n) (list_all is_folded ns) h in
    λ i. folded_name_is_read n role.KEY_PART parts.0 i ∷ more_names ns parts.1 i

pub names_are_read : (names : List (List ℕ)) (tail : List Sign) → list_all is_folded names ≡ true → only is_filler tail ≡ true → all_folded role.KEY_PART (all_shown (names_before names tail)) ≡ names
names_are_read names tail h only_tail =
    ap (map folded) (parts_split (sign.part_signs names) (sign.mark 41 role.FILLER ∷ tail) ∙ ap (λ z. parts_in (sign.part_signs names) ++ z) (no_parts tail only_tail) ∙ append-nil (parts_in (sign.part_signs names)))
    ∙ part_names names h

-- The primary key.

no_key : (behind : Bool) (xs : List Seen) → has role.KEY_COLUMN xs ≡ false → key_from behind xs ≡ false
no_key behind [] h = refl
no_key behind (x ∷ xs) h =
    let both = either_false (x.role == role.KEY_COLUMN) (has role.KEY_COLUMN xs) h in
    rw both.0 (no_key (x.role == role.UNIQUE_COLUMN) xs both.1)

pub primary_has_no_column : (d : Sign) (names : List (List ℕ)) (tail : List Sign) → only is_filler tail ≡ true → has role.COLUMN_NAME (all_shown (primary_item d names tail)) ≡ false
primary_has_no_column d names tail h = names_lack names tail role.COLUMN_NAME h refl

pub primary_is_read : (d : Sign) (names : List (List ℕ)) (tail : List Sign) → list_all is_folded names ≡ true → only is_filler tail ≡ true → primaries_of (all_shown (primary_item d names tail)) ≡ names ∷ []
primary_is_read d names tail h only_tail = ap (λ z. z ∷ []) (names_are_read names tail h only_tail)

pub primary_no_unique : (d : Sign) (names : List (List ℕ)) (tail : List Sign) → only is_filler tail ≡ true → uniques_of (all_shown (primary_item d names tail)) ≡ []
primary_no_unique d names tail h =
    let column = names_lack names tail role.UNIQUE_COLUMN h refl in
    let key = names_lack names tail role.UNIQUE_KEY h refl in
    let index = names_lack names tail role.UNIQUE_INDEX h refl in
    rw (column, key, index) refl

-- Unique keys.

pub unique_has_no_column : (d : Sign) (k : UniqueKey) (tail : List Sign) → only is_filler tail ≡ true → has role.COLUMN_NAME (all_shown (unique_item d k tail)) ≡ false
unique_has_no_column d k tail h = names_lack k.columns tail role.COLUMN_NAME h refl

pub unique_no_primary : (d : Sign) (k : UniqueKey) (tail : List Sign) → only is_filler tail ≡ true → primaries_of (all_shown (unique_item d k tail)) ≡ []
unique_no_primary d k tail h =
    let key = names_lack k.columns tail role.PRIMARY_KEY h refl in
    let column = names_lack k.columns tail role.COLUMN_NAME h refl in
    rw (key, column) refl

abbrev pub written : UniqueKey → WrittenKey
written k = record { key = k; named = true }

over_some : (name : List ℕ) (columns : List (List ℕ)) → (length columns == 0) ≡ false → over name true columns ≡ (record { key = record { name = name; columns = columns }; named = true }) ∷ []
over_some name [] some = absurd cc
over_some name (n ∷ ns) some = refl

pub unique_is_read : (d : Sign) (k : UniqueKey) (tail : List Sign) → is_folded k.name ≡ true → (length k.columns == 0) ≡ false → list_all is_folded k.columns ≡ true → only is_filler tail ≡ true
    → uniques_of (all_shown (unique_item d k tail)) ≡ written k ∷ []
unique_is_read d k tail name some h only_tail =
    let column = names_lack k.columns tail role.UNIQUE_COLUMN only_tail refl in
    rw column ((λ i. over (folded_name_is_read k.name role.KEY_NAME name i) true (names_are_read k.columns tail h only_tail i)) ∙ over_some k.name k.columns some)
