-- Laws of reading: the text of a record, if it is short enough to be read, is read as the record, and no other record
-- has that text.
pub use Rattle.dm_stmt_read.proofs.RecordTexts.{takes_record, one_record}
