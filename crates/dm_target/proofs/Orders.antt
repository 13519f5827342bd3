-- The orders of names: total, and only equal names tie.
use Rattle.std.proofs.Common.{ap}
use Rattle.std.specs.Cmp.{IsTotalOrder}
use Rattle.std.specs.Cmp.Lexicographic.{nat_list_cmp_total}
use Rattle.std.specs.FinMap.{IsAntisymmetric}
use Rattle.std.proofs.lemmas.Map.Lookups.{exact_bytes, exact_pairs}
use Rattle.dm_schema.specs.contracts.table_name.TableNameOrd.TheImpl.Laws.{total-law}
use Rattle.dm_schema.specs.Names.{Text, name_cmp}
use Rattle.dm_target.specs.Contents.{table_name_cmp}

pub name_total : IsTotalOrder name_cmp
name_total = nat_list_cmp_total

pub name_exact : IsAntisymmetric name_cmp
name_exact = exact_bytes

pub table_name_total : IsTotalOrder table_name_cmp
table_name_total = total-law

pub table_name_exact : IsAntisymmetric table_name_cmp
table_name_exact a b h = ap (λ (p : Text × Text). record { db = p.0; table = p.1 }) (exact_pairs _ _ exact_bytes exact_bytes (a.db, a.table) (b.db, b.table) h)
