-- The definitions of a written CREATE TABLE are its items, and it names its table.
use Rattle.std.proofs.Common.{◌≡◌, ◌==◌, ◌||◌, ℕ, Bool, true, false, leb, List, [], ◌∷◌, ◌++◌, refl, sym, ap, ◌∙◌, subst, arith, append_assoc}
use Rattle.std.specs.Prelude.{codes}
use Rattle.std.specs.List.{list_any, flat_map}
use Rattle.std.proofs.lemmas.Bool.{and_parts, eqb-true, leb-true}
use Rattle.std.proofs.lemmas.Bool.Decides.{nat_tests}
use Rattle.std.proofs.lemmas.List.{map-append}
use Rattle.dm_schema.specs.declared.column.Column.{Column}
use Rattle.dm_schema.specs.declared.column.UniqueKey.{UniqueKey}
use Rattle.dm_schema.specs.Kinds.{is_between}
use Rattle.dm_syntax.specs.declared.role.TheConstants as role
use Rattle.dm_syntax.specs.Pieces.{parts}
use Rattle.dm_ddl.specs.Bounds.{item_roles}
use Rattle.dm_write.proofs.Splitting.{all_both, part_first, part_last}
use Rattle.dm_write.proofs.Signs as sign
use Rattle.dm_write.proofs.Signs.{Sign}
use Rattle.dm_write.proofs.Seen.{shown}
use Rattle.dm_write.proofs.Meaning.{starts}
use Rattle.dm_write.proofs.ColumnItems.{all_shown, only, starts_none, is_kind_role, is_null_role, is_default_role, kind_roles, null_roles, default_roles, weaker}
use Rattle.dm_write.proofs.KeyItems.{is_filler, is_part_role, names_before, names_roles, definition}
use Rattle.dm_write.proofs.CreateSchema.{comma, closing, unique_items, primary_items, items, each_shown}

-- Roles within definitions: neither one that begins a definition, nor one of a table's name.

abbrev pub is_inner : ℕ → Bool
is_inner r = r == role.FILLER || is_between role.COLUMN_NAME role.KEY_PART r

wider : (low high r : ℕ) → leb role.COLUMN_NAME low ≡ true → leb high role.KEY_PART ≡ true → (r == role.FILLER || is_between low high r) ≡ true → is_inner r ≡ true
wider low high r p q h = by (r == role.FILLER) h where
  by : (a : Bool) → (a || is_between low high r) ≡ true → (a || is_between role.COLUMN_NAME role.KEY_PART r) ≡ true
  by true h = refl
  by false h =
      let both = and_parts (leb low r) (leb r high) h in
      let one = leb-true low r both.0 in
      let two = leb-true r high both.1 in
      let three = leb-true role.COLUMN_NAME low p in
      let four = leb-true high role.KEY_PART q in
      let least : leb role.COLUMN_NAME r ≡ true = search (nat_tests, arith) in
      let most : leb r role.KEY_PART ≡ true = search (nat_tests, arith) in
      rw (least, most) refl

kind_inner : (r : ℕ) → is_kind_role r ≡ true → is_inner r ≡ true
kind_inner r h = wider role.TYPE role.FRACTION r refl refl h

null_inner : (r : ℕ) → is_null_role r ≡ true → is_inner r ≡ true
null_inner r h = wider role.NOT_NULL role.NULL_WRITTEN r refl refl h

same_inner : (n r : ℕ) → is_inner n ≡ true → (r == n) ≡ true → is_inner r ≡ true
same_inner n r p h = ap is_inner (eqb-true r n h) ∙ p

default_inner : (r : ℕ) → is_default_role r ≡ true → is_inner r ≡ true
default_inner r h = by (r == role.FILLER) (r == role.NOW_FRACTION) refl refl h where
  by : (a b : Bool) → (r == role.FILLER) ≡ a → (r == role.NOW_FRACTION) ≡ b → (a || b || is_between role.DEFAULT role.LITERAL r) ≡ true → is_inner r ≡ true
  by true b e f h = same_inner role.FILLER r refl e
  by false true e f h = same_inner role.NOW_FRACTION r refl f
  by false false e f h = wider role.DEFAULT role.LITERAL r refl refl (rw e h)

part_inner : (r : ℕ) → is_part_role r ≡ true → is_inner r ≡ true
part_inner r h = by (r == role.FILLER) refl h where
  by : (a : Bool) → (r == role.FILLER) ≡ a → (a || r == role.KEY_PART) ≡ true → is_inner r ≡ true
  by true e h = same_inner role.FILLER r refl e
  by false e h = same_inner role.KEY_PART r refl h

both_only : (test : ℕ → Bool) (xs ys : List Sign) → only test xs ≡ true → only test ys ≡ true → only test (xs ++ ys) ≡ true
both_only test xs ys p q = all_both (λ s. test s.role) xs ys p q

column_inner : (c : Column) → only is_inner (sign.column_signs c) ≡ true
column_inner c =
    both_only is_inner (sign.kind_signs c.kind) (sign.attribute_signs c) (weaker is_kind_role is_inner (sign.kind_signs c.kind) kind_inner (kind_roles c.kind))
    (both_only is_inner (sign.nullable_signs c.nullable) (sign.default_signs c.kind c.default_rule) (weaker is_null_role is_inner (sign.nullable_signs c.nullable) null_inner (null_roles c.nullable))
    (weaker is_default_role is_inner (sign.default_signs c.kind c.default_rule) default_inner (default_roles c.kind c.default_rule)))

names_inner : (names : List (List ℕ)) (tail : List Sign) → only is_filler tail ≡ true → only is_inner (names_before names tail) ≡ true
names_inner names tail h = weaker is_part_role is_inner (names_before names tail) part_inner (names_roles names tail h)

-- nothing within definitions begins one
no_start : (signs : List Sign) → only is_inner signs ≡ true → list_any (starts item_roles) (all_shown signs) ≡ false
no_start signs h = starts_none is_inner item_roles signs h refl

-- One definition after another.

abbrev Splits : List Sign → List (List Sign) → Type 0
Splits signs all = parts (starts item_roles) (all_shown signs) ≡ each_shown all

-- a definition, and the next behind it
next_split : (d : Sign) (own next : List Sign) (all : List (List Sign)) → only is_inner own ≡ true → Splits (comma ∷ next) all → Splits (definition d own ++ comma ∷ next) (definition d own ∷ all)
next_split d own next all inner rest =
    ap (λ z. parts (starts item_roles) (shown (record { spelling = d.spelling; role = role.DEFINITION }) ∷ z)) (map-append shown own (comma ∷ next))
    ∙ part_first (starts item_roles) (shown (record { spelling = d.spelling; role = role.DEFINITION })) (all_shown own) (shown comma) (all_shown next) refl (no_start own inner) refl
    ∙ ap (λ z. all_shown (definition d own) ∷ z) rest

last_split : (d : Sign) (own : List Sign) → only is_inner own ≡ true → Splits (definition d own) (definition d own ∷ [])
last_split d own inner = part_last (starts item_roles) (shown (record { spelling = d.spelling; role = role.DEFINITION })) (all_shown own) refl (no_start own inner)

names_end : (names : List (List ℕ)) (tail : List Sign) → sign.names_signs names ++ tail ≡ names_before names tail
names_end names tail = ap (λ z. sign.mark 40 role.FILLER ∷ z) (append_assoc (sign.part_signs names) (sign.mark 41 role.FILLER ∷ []) tail)

abbrev unique_body : UniqueKey → List Sign → List Sign
unique_body k tail = sign.word (codes "UNIQUE") role.UNIQUE_KEY ∷ sign.word (codes "KEY") role.FILLER ∷ sign.name k.name role.KEY_NAME ∷ names_before k.columns tail

abbrev primary_body : List (List ℕ) → List Sign → List Sign
primary_body names tail = sign.word (codes "PRIMARY") role.FILLER ∷ sign.word (codes "KEY") role.PRIMARY_KEY ∷ names_before names tail

unique_end : (k : UniqueKey) (tail : List Sign) → sign.unique_signs k ++ tail ≡ unique_body k tail
unique_end k tail = ap (λ z. sign.word (codes "UNIQUE") role.UNIQUE_KEY ∷ sign.word (codes "KEY") role.FILLER ∷ sign.name k.name role.KEY_NAME ∷ z) (names_end k.columns tail)

primary_end : (names : List (List ℕ)) (tail : List Sign) → sign.primary_signs names ++ tail ≡ primary_body names tail
primary_end names tail = ap (λ z. sign.word (codes "PRIMARY") role.FILLER ∷ sign.word (codes "KEY") role.PRIMARY_KEY ∷ z) (names_end names tail)

-- unique keys behind their commas, and the closing bracket
abbrev keys_behind : List UniqueKey → List Sign
keys_behind ks = flat_map sign.more_unique ks ++ closing

keys_more : (k : UniqueKey) (ks : List UniqueKey) → keys_behind (k ∷ ks) ≡ comma ∷ sign.unique_signs k ++ keys_behind ks
keys_more k ks = append_assoc (sign.more_unique k) (flat_map sign.more_unique ks) closing

uniques_split : (k : UniqueKey) (ks : List UniqueKey) → Splits (comma ∷ sign.unique_signs k ++ keys_behind ks) (unique_items (k ∷ ks))
uniques_split k [] = subst (λ (z : List Sign). Splits (comma ∷ z) (unique_items (k ∷ []))) (sym (unique_end k closing)) (last_split comma (unique_body k closing) (names_inner k.columns closing refl))
uniques_split k (next ∷ ks) =
    subst (λ (z : List Sign). Splits (comma ∷ sign.unique_signs k ++ z) (unique_items (k ∷ next ∷ ks))) (sym (keys_more next ks))
    (next_split comma (unique_body k []) (sign.unique_signs next ++ keys_behind ks) (unique_items (next ∷ ks)) (names_inner k.columns [] refl) (uniques_split next ks))

primary_split : (d : Sign) (names : List (List ℕ)) (ks : List UniqueKey) → Splits (definition d (sign.primary_signs names ++ keys_behind ks)) (primary_items d names ks)
primary_split d names [] = subst (λ (z : List Sign). Splits (definition d z) (primary_items d names [])) (sym (primary_end names closing)) (last_split d (primary_body names closing) (names_inner names closing refl))
primary_split d names (k ∷ ks) =
    subst (λ (z : List Sign). Splits (definition d (sign.primary_signs names ++ z)) (primary_items d names (k ∷ ks))) (sym (keys_more k ks))
    (next_split d (primary_body names []) (sign.unique_signs k ++ keys_behind ks) (unique_items (k ∷ ks)) (names_inner names [] refl) (uniques_split k ks))

pub items_split : (d : Sign) (cs : List Column) (names : List (List ℕ)) (ks : List UniqueKey) → Splits (definition d (sign.definition_signs cs names ks ++ closing)) (items d cs names ks)
items_split d [] names ks = subst (λ (z : List Sign). Splits (definition d z) (items d [] names ks)) (sym (append_assoc (sign.primary_signs names) (flat_map sign.more_unique ks) closing)) (primary_split d names ks)
items_split d (c ∷ cs) names ks =
    subst (λ (z : List Sign). Splits (definition d z) (items d (c ∷ cs) names ks)) (sym (append_assoc (sign.column_signs c) (comma ∷ sign.definition_signs cs names ks) closing))
    (next_split d (sign.column_signs c) (sign.definition_signs cs names ks ++ closing) (items comma cs names ks) (column_inner c) (items_split comma cs names ks))

-- No role of a table's name stands in the definitions.

abbrev pub is_body : ℕ → Bool
is_body r = r == role.FILLER || is_between role.DEFINITION role.KEY_PART r

inner_body : (r : ℕ) → is_inner r ≡ true → is_body r ≡ true
inner_body r h = by (r == role.FILLER) h where
  by : (a : Bool) → (a || is_between role.COLUMN_NAME role.KEY_PART r) ≡ true → (a || is_between role.DEFINITION role.KEY_PART r) ≡ true
  by true h = refl
  by false h =
      let both = and_parts (leb role.COLUMN_NAME r) (leb r role.KEY_PART) h in
      let one = leb-true role.COLUMN_NAME r both.0 in
      let least : leb role.DEFINITION r ≡ true = search (nat_tests, arith) in
      rw (least, both.1) refl

to_body : (signs : List Sign) → only is_inner signs ≡ true → only is_body signs ≡ true
to_body signs h = weaker is_inner is_body signs inner_body h

unique_body_roles : (ks : List UniqueKey) → only is_body (flat_map sign.more_unique ks) ≡ true
unique_body_roles [] = refl
unique_body_roles (k ∷ ks) = both_only is_body (sign.more_unique k) (flat_map sign.more_unique ks) (to_body (sign.names_signs k.columns) (names_inner k.columns [] refl)) (unique_body_roles ks)

pub body_roles : (cs : List Column) (names : List (List ℕ)) (ks : List UniqueKey) → only is_body (sign.definition_signs cs names ks) ≡ true
body_roles [] names ks = both_only is_body (sign.primary_signs names) (flat_map sign.more_unique ks) (to_body (sign.names_signs names) (names_inner names [] refl)) (unique_body_roles ks)
body_roles (c ∷ cs) names ks = both_only is_body (sign.column_signs c) (comma ∷ sign.definition_signs cs names ks) (to_body (sign.column_signs c) (column_inner c)) (body_roles cs names ks)
