use Rattle.dm_encode.proofs.Bits.{bitmap_last, bitmap_more}
use Rattle.dm_encode.proofs.bitmaps.push_bitmap.Goals as goal

pub loop-rest-preserved : goal.loop-rest-preserved
loop-rest-preserved c =
    bitmap_more c.loop-rest.rest.now c.split_at.result.0.now c.split_at.result.1.now c.min.result c.byte_of.result c.loop-rest.bytes.items c.push.new.self.items _ c.is_empty.result c.is_empty.ensures c.loop-rest-test.true c.min.ensures c.split_at.ensures.front c.split_at.ensures.back c.byte_of.ensures.value c.in_ok-push.ensures.items c.loop-rest.invariant

pub returns : goal.returns
returns c = bitmap_last c.loop-rest.rest.now c.loop-rest.bytes.items _ c.is_empty.result c.is_empty.ensures c.loop-rest-test.false c.loop-rest.invariant
