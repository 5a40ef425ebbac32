-- Breakpoints, and what the breakpoint commands ask of a program.
pub mod Hits
pub mod StopRule
pub mod Conditions
pub mod Tables
pub mod Lines
pub mod Causes
pub mod Refusals
pub mod Changes
pub mod Words
pub mod Requests
pub mod Updates
pub mod Shown
pub mod Commands
pub mod Notices
pub mod inner
