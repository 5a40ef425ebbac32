-- A file that is found is one of them.
use Rattle.std.proofs.Common.{◌≡◌, ℕ, ◌<◌, List, [], ◌∷◌, Some, length}
use Rattle.std.specs.Prelude.{position}
use Rattle.std.specs.Str.{bytes_eq}
use Rattle.std.proofs.lemmas.List.Quantifiers.{position-Some}
use Rattle.dp_tree.specs.declared.bundle.Bundle.{Bundle}
use Rattle.dp_tree.specs.declared.bundle.BundleFile.{BundleFile}
use Rattle.dp_bytes.specs.Names.{without_slash}
use Rattle.dp_file_uris.specs.Files.{file_like}

found_below : (name : List ℕ) (files : List BundleFile) (number : ℕ)
    → position (λ file. bytes_eq (without_slash file.name) (without_slash name)) files ≡ Some number
    → number < length files
found_below name [] number h = absurd cc
found_below name (f ∷ files) number h =
    (position-Some (λ file. bytes_eq (without_slash file.name) (without_slash name)) (f ∷ files) number f h).0

pub like_below : (bundle : Bundle) (name : List ℕ) (number : ℕ) → file_like bundle name ≡ Some number
    → number < length bundle.files
unfolding file_like
like_below bundle name number h = found_below name bundle.files number h
