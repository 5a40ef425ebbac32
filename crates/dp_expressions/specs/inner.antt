-- How the functions read: what their own clauses say. The law `reads_the_grammar`, in the words of
-- `Longest`, joins it to the grammar.
pub mod Readers
pub mod NestedReader
