-- Lemmas on what is put, on how long texts are, on codes, and on URIs.
pub mod LengthLaws
pub mod CodeLaws
pub mod UriLaws
pub mod SizeLaws
pub mod Base64Size
pub mod PropertyLaws
pub mod Integers
pub mod OutLaws
pub mod PropertyTexts
