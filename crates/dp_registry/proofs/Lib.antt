pub mod Keys
pub mod Lists
pub mod Appends
pub mod FitEntries
pub mod Hosts
pub mod Numbers
pub mod JournalLaws
pub mod LiveSessions
