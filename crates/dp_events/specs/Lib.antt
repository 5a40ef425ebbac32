-- Begin with Lists: the text of an event list. Soak has the lists that a generator draws.
pub mod Lists
pub mod Soak
pub mod inner
