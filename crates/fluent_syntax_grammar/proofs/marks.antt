-- Marks: which bytes a tree is written as. A node's bytes come before the bytes that follow it, so that a proof of
-- reading can take them one after the other; that the marks of a tree give these bytes is shown here.
pub mod WrittenBytes
pub mod WrittenEntries
pub mod LastBytes
pub mod Words
pub mod Trees
pub mod Entries
pub mod JoinedTrees
pub mod Again
