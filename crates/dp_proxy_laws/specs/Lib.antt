-- What a session of a proxy comes to, in plain words.
pub mod PlainWords
