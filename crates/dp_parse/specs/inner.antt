-- How the functions read: what their own clauses say. `Programs` and `Statements` say what that
-- comes to.
pub mod StatementRules
pub mod Within
pub mod NestedBody
pub mod Parameters
pub mod Reasons
