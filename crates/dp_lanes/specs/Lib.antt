-- What a lane passes is said by Lanes; what one call of this crate answers, by Places; what many
-- come to, by Passed.
pub mod Lanes
pub mod Places
pub mod Passed
pub mod inner
