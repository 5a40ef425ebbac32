-- What a replay comes to is said by Calls, Replies, Links and Pasts (and dp_lanes), in this order;
-- what one call of this crate answers, by Inits, Places and Steps.
pub mod Calls
pub mod Replies
pub mod Links
pub mod Pasts
pub mod Inits
pub mod Places
pub mod Steps
pub mod Invariant
pub mod inner
