-- How the code goes; no public clause cites it.
pub mod Steps
