use Rattle.std.proofs.Common.{◌∙◌, sym}
use Rattle.dm_dump.specs.Streams.{contents_left}
use Rattle.dm_dump.proofs.UnitLemmas.{one_more, pieces_move, ending_moves}
use Rattle.dm_dump.proofs.unit.Units.next_unit.Goals as goal

pub loop-self-preserved : goal.loop-self-preserved
loop-self-preserved c =
    let here = c.loop-self.self.ahead in
    let next = c.in_ok-self-2.field-0 in
    let p = c.in-Piece-ahead.piece in
    let old = contents_left c.loop-self.self.source in
    let new = contents_left c.next_piece-in-loop-self.new.self in
    record {
      gathered =
          one_more c.loop-self.unit.items _ p _ _ _ (sym c.begins_unit.ensures ∙ c.if-not-begins_unit.true)
          (pieces_move here next p old new c.in-Piece-ahead.is c.in_ok-self-2.ensures.contents) c.in_ok-push-2.ensures.items c.loop-self.invariant.gathered;
      ending = ending_moves here next p old new c.in-Piece-ahead.is c.in_ok-self-2.ensures.contents ∙ c.loop-self.invariant.ending;
      text = c.in_ok-self-2.ensures.text ∙ c.loop-self.invariant.text;
    }
