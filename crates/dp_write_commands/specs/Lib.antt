pub mod Requests
pub mod Responses
pub mod Results
pub mod inner
