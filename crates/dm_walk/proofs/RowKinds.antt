-- What a rows event does, by its type.
use Rattle.std.proofs.Common.{◌≡◌, ℕ, Bool, true, false, ◌||◌, eqb, refl, sym, ap, ◌∙◌, cond}
use Rattle.std.proofs.lemmas.Bool.{eqb-true}
use Rattle.dm_binlog.specs.declared.event.TheConstants.{WRITE_ROWS_V1, WRITE_ROWS}
use Rattle.dm_binlog.specs.Bodies.{is_update}
use Rattle.dm_walk.specs.declared.item.PlaceKind.{PlaceKind}
use Rattle.dm_walk.specs.declared.item.PlaceKind.TheVariants as place
use Rattle.dm_walk.specs.Walks.{place_kind}
use Rattle.dm_walk.specs.Steps.{has_two}

-- a change has two images where its event is an update
pub two_for_updates : (code : ℕ) → has_two (place_kind code) ≡ is_update code
two_for_updates code = by (eqb code WRITE_ROWS_V1) (eqb code WRITE_ROWS) (is_update code) refl refl refl where
  by : (first second update : Bool) → eqb code WRITE_ROWS_V1 ≡ first → eqb code WRITE_ROWS ≡ second → is_update code ≡ update
      → has_two (cond {A = PlaceKind} (first || second) place.Write (cond update place.Update place.Delete)) ≡ update
  by true second update e f g = sym (ap is_update (eqb-true code WRITE_ROWS_V1 e)) ∙ g
  by false true update e f g = sym (ap is_update (eqb-true code WRITE_ROWS f)) ∙ g
  by false false true e f g = refl
  by false false false e f g = refl
