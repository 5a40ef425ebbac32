-- How the functions read: what their own clauses say. The crates above join it to the rules of the
-- grammar.
pub mod Input
pub mod ListReaders
