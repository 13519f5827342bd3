-- The entries of a program's map of schemas, as a finite map.
use Rattle.std.proofs.Common.{◌≡◌, cond, List, [], ◌∷◌, Some, refl, sym, ap, ◌∙◌}
use Rattle.std.specs.Cmp.{IsTotalOrder}
use Rattle.std.specs.Ordering.{eq_by_cmp}
use Rattle.std.specs.BTreeMap.{BTreeMap, UpdatesBy, get, is_at}
use Rattle.std.specs.Map.{lookup}
use Rattle.std.specs.FinMap as fin
use Rattle.std.specs.FinMap.{IsAntisymmetric, find, get-from_entries, get-insert, same_map}
use Rattle.std.proofs.lemmas.Cmp.{eq_by_cmp_equiv}
use Rattle.std.proofs.lemmas.Map.Lookups.{exact_bytes, exact_pairs}
use Rattle.dm_schema.specs.contracts.table_name.TableNameOrd.TheImpl.Laws.{total-law}
use Rattle.dm_schema.specs.declared.table_name.TableName.{TableName}
use Rattle.dm_schema.specs.Layout.{Layout}
use Rattle.dm_schema.specs.Names.{Text}
use Rattle.dm_target.specs.Contents.{table_name_cmp}
use Rattle.dm_stmt.specs.Known.{KnownMap}

abbrev pub SchemaMap : Type 0
SchemaMap = BTreeMap TableName Layout

abbrev pub seen : SchemaMap → KnownMap
seen m = fin.from_entries m.entries

pub total : IsTotalOrder table_name_cmp
total = total-law

-- only equal names tie
exact : IsAntisymmetric table_name_cmp
exact a b h = ap (λ (p : Text × Text). record { db = p.0; table = p.1 }) (exact_pairs _ _ exact_bytes exact_bytes (a.db, a.table) (b.db, b.table) h)

-- a look-up in entries
found_is_looked_up : (q : TableName) (es : List (TableName × Layout)) → find table_name_cmp q es ≡ lookup (is_at (table_name_cmp q)) es
found_is_looked_up q [] = refl
found_is_looked_up q (e ∷ es) = ap (cond (eq_by_cmp table_name_cmp q e.0) (Some e.1)) (found_is_looked_up q es)

pub get_seen : (m : SchemaMap) (q : TableName) → get table_name_cmp m q ≡ fin.get (seen m) q
get_seen m q = sym (found_is_looked_up q m.entries) ∙ sym (get-from_entries total m.entries q)

pub inserted : (m n : SchemaMap) (k key : TableName) (v value : Layout) → key ≡ k → value ≡ v → UpdatesBy table_name_cmp (table_name_cmp key) m n (Some value) → seen n ≡ fin.insert (seen m) k v
inserted m n k key v value same_key same_value h =
    same_map total exact _ _ (λ q.
    sym (get_seen n q) ∙ h.0 q ∙ ap (λ b. cond b (Some value) (get table_name_cmp m q)) ((eq_by_cmp_equiv total).symm key q) ∙ ap (cond (eq_by_cmp table_name_cmp q key) (Some value)) (get_seen m q)
    ∙ sym (get-insert total (seen m) key value q))
    ∙ ap (λ (x : TableName). fin.insert (seen m) x value) same_key ∙ ap (fin.insert (seen m) k) same_value
