pub mod Views
pub mod Results
pub mod inner
