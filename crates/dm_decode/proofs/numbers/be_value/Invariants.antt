use Rattle.std.proofs.Common.{◌≡◌, ◌<◌, ◌^◌, take}
use Rattle.dm_base.specs.Reading.{be_value}
use Rattle.dm_decode.proofs.numbers.be_value.Given as goal

abbrev pub invariant-loop-byte : goal.invariant-loop-byte
invariant-loop-byte l = record {
  value : l.number ≡ be_value (take l.byte-index l.bytes);
  below : l.number < 256 ^ l.byte-index;
}
