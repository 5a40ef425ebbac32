-- How texts are kept and told to the logic. No public clause cites this.
pub mod Texts
