-- A refusal with the number of its file.
use Rattle.std.specs.Prelude.{ℕ}
use Rattle.dp_parse.specs.declared.errors.ParseError.{ParseError}
use Rattle.dp_parse.specs.declared.errors.ParseError.TheVariants as parse_error
use Rattle.dp_bundle.specs.declared.errors.BundleError.{BundleError}
use Rattle.dp_bundle.specs.declared.errors.BundleError.TheVariants.{Source, Memory}

-- the refusal of the file of this number, where its text has no tree for this reason
abbrev pub source_of : ℕ → ParseError → BundleError
source_of number parse_error.Memory = Memory
source_of number why = Source number why
