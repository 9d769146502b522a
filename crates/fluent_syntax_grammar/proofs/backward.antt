-- Backward: what was read is readable, once it is joined. In the order of the proof: words and texts, the lines of
-- patterns and what they spell, the rules, the family of the grammar, and entries and bodies. The converse is
-- `joined_is_readable` and `joined_is_same` of `Bodies`.
pub mod Taken
pub mod Words
pub mod Texts
pub mod Shapes
pub mod Lines
pub mod Layouts
pub mod FirstLines
pub mod Rules
pub mod Family
pub mod Entries
pub mod Bodies
