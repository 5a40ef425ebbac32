pub mod TreeLines
pub mod TreePurity
pub mod Taken
pub mod FunctionIndex
