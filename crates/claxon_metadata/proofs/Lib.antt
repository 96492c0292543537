-- Entries of Vorbis comments: texts in UTF-8, and the index of the first '='.
pub mod CommentTexts
-- The loop that reads the entries of a Vorbis comment block.
pub mod CommentEntries
-- The reader of a metadata block's content, by the block's type.
pub mod ContentByType
-- The parts of a Vorbis comment block, one after another.
pub mod CommentParts
-- The separators of the entries of a Vorbis comment, and how many tags there are.
pub mod TagSeparators
