pub mod boxed
