-- The files of a program by their names.
pub mod Files
