-- How the code keeps its place; no public clause cites it.
pub mod Places
