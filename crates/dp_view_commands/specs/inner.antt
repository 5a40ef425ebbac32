-- How the code comes to a response. No clause of a public call speaks of it.
pub mod Responses
