use Rattle.std.proofs.Common.{◌≡◌, length}
use Rattle.dp_outside.specs.Files.{content_of, contents_of}
use Rattle.dp_outside.proofs.files.find.Given as goal

-- the files passed over have other names
abbrev pub invariant-files : goal.invariant-files
invariant-files l = content_of l.name (contents_of l.files) ≡ content_of l.name (contents_of l.rest)

abbrev pub decreases-files : goal.decreases-files
decreases-files l = length l.rest
