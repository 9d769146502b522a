-- Forward: what is written is read back. In the order of the proof: the rules of reading forwards, words and
-- expressions, the texts and lines of patterns, patterns down the tree, and entries and bodies. The round trip is
-- `reads_back` of `Bodies`.
pub mod Reading
pub mod Words
pub mod Strings
pub mod Inline
pub mod Arguments
pub mod References
pub mod Expressions
pub mod Selects
pub mod Spells
pub mod Runs
pub mod Lines
pub mod Pieces
pub mod LineStarts
pub mod OneLine
pub mod OneLinePatterns
pub mod Multiline
pub mod Patterns
pub mod Trees
pub mod Entries
pub mod Fields
pub mod Comments
pub mod Bodies
