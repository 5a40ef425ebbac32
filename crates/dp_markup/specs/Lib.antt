-- What is read: Attributes, Classes, Rules, Grammar, Readable; where it is refused: Refused,
-- Verdict; what is written: Escapes, Texts. How the code goes, of which no public clause speaks:
-- inner.
pub mod Attributes
pub mod Classes
pub mod Escapes
pub mod Grammar
pub mod Readable
pub mod Refused
pub mod Rules
pub mod Texts
pub mod Verdict
pub mod inner
pub mod Outputs
