-- Laws of written texts: their bytes are those that are written, their tokens are those of their parts, and each value,
-- number and name is read as what it was.
--
-- The text of parts is what is written.
pub use Rattle.dm_reread.proofs.Composing.{text_of_both}
pub use Rattle.dm_reread.proofs.Written.{bracketed_is_written, commas_are_written, items_are_written, all_are_written}
pub use Rattle.dm_reread.proofs.Written.{name_is_written, name_list_is_written, table_name_is_written, value_is_written, tuple_is_written, kind_is_written, column_is_written, create_is_written}
-- The tokens of a text are those of its parts.
pub use Rattle.dm_reread.proofs.Composing.{parts_are_lexed_at, parts_are_lexed, back_is_lexed, text_has_tokens, tokens_of_both}
-- The tokens are spelled as the parts are.
pub use Rattle.dm_reread.proofs.Composing.{spelled_of_both, tokens_are_spelled, tokens_at_are_spelled}
-- What is written is spelled, before each text that may follow.
pub use Rattle.dm_reread.proofs.Composing.{both_are_spelled, back_is_spelled}
pub use Rattle.dm_reread.proofs.Spelled.{AreSpelled, commas_are_spelled, bracketed_is_spelled, items_are_spelled, all_are_spelled, name_before}
pub use Rattle.dm_reread.proofs.Spelled.{name_is_spelled, name_list_is_spelled, table_name_is_spelled, value_is_spelled, tuple_is_spelled, kind_is_spelled, column_is_spelled, layout_is_spelled, create_is_spelled}
pub use Rattle.dm_reread.proofs.Lexing.{word_is_spelled}
-- What is written is read.
pub use Rattle.dm_reread.proofs.Digits.{number_is_read, decimal_is_digits, decimal_some}
pub use Rattle.dm_reread.proofs.Names.{name_is_read, name_token_is_read, string_is_read}
pub use Rattle.dm_reread.proofs.Reading.{value_is_read}
pub use Rattle.dm_reread.proofs.Rereading.{spelled_has_tokens, value_is_reread, create_has_tokens}
