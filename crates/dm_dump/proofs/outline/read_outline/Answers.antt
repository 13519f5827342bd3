use Rattle.std.proofs.Common.{◌∙◌, ◌&&◌, ◌||◌, ap, is_some, List, Option, rules}
use Rattle.dm_syntax.specs.declared.piece.Piece.{Piece}
use Rattle.dm_dump.specs.declared.fault.Fault.{Fault}
use Rattle.dm_dump.specs.declared.role.TheConstants as role
use Rattle.dm_dump.specs.Units.{begins_with, units}
use Rattle.dm_dump.specs.Outlines.{least, insert_ends}
use Rattle.dm_dump.specs.Streams.{units_left, all_contents}
use Rattle.dm_dump.proofs.Stream.{has_all_contents}
use Rattle.dm_dump.proofs.OutlineLemmas.{create_step, second_step, insert_step, ended_step, insert_placed, outline_found}
use Rattle.dm_dump.proofs.outline.read_outline.Goals as goal

pub ending-ending-requires : goal.ending-ending-requires
ending-ending-requires c = let none = rw c.if-branch.false at c.in_ok-next_unit.ensures.units in none.1

pub returns : goal.returns
returns c =
    let text = c.args.text.now in
    let all = all_contents text in
    let none = rw c.if-branch.false at c.in_ok-next_unit.ensures.units in (
      all,
      has_all_contents text,
      outline_found text all (units_left c.loop-unit.units) c.loop-unit.create c.loop-unit.second c.loop-unit.insert c.unless_torn.result c.loop-unit.ended c.ending-ending.result c.least.result none.0 c.loop-unit.invariant.create c.loop-unit.invariant.second c.loop-unit.invariant.insert
          c.loop-unit.invariant.ended (c.ending-ending.ensures ∙ c.in_ok-next_unit.ensures.ending ∙ c.loop-unit.invariant.ending) c.unless_torn.ensures (c.least.ensures ∙ ap (λ (f : Option Fault). least f c.ending-ending.result) c.second_create.ensures),
    )

pub loop-unit-preserved : goal.loop-unit-preserved
loop-unit-preserved c =
    let next = rw c.if-branch.true at c.in_ok-next_unit.ensures.units in
    let unit = c.next_unit.new.unit.items in
    let left = units (units_left c.next_unit.new.self).pieces in
    let placed = insert_placed c.loop-unit.insert c.place_or-insert.result c.begins_with.result c.deref-in-loop-unit-4.result.now c.deref-in-loop-unit-5.result.now unit c.place_or-insert.ensures c.begins_with.ensures c.deref-in-loop-unit-4.ensures.value
    c.deref-in-loop-unit-5.ensures.value in
    let ended = c.has_ended-ended.ensures ∙ ap (λ (u : List Piece). c.loop-unit.ended || (is_some c.loop-unit.insert && begins_with role.END u)) c.deref-in-loop-unit-3.ensures.value in record {
      create = search rules;
      second = search rules;
      insert = insert_step c.loop-unit.insert c.place_or-insert.result _ unit left (units (units_left c.loop-unit.units).pieces) next placed c.loop-unit.invariant.insert;
      ended = ended_step c.loop-unit.ended c.has_ended-ended.result c.loop-unit.insert c.place_or-insert.result (insert_ends (units (all_contents c.args.text.now).pieces)) unit left (units (units_left c.loop-unit.units).pieces) next ended placed c.loop-unit.invariant.ended;
      ending = search rules;
      text = search rules;
    }
