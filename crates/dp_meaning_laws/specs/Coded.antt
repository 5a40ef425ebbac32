-- Lines of the files of a bundle that have code.
use Rattle.std.specs.Prelude.{◌≡◌, ℕ, true, Some, slice_get}
use Rattle.dp_tree.specs.CodeLines.{file_lines, has_line}
use Rattle.dp_tree.specs.declared.bundle.Bundle.{Bundle}
use Rattle.dp_tree.specs.declared.bundle.BundleFile.{BundleFile}

-- the file of this number has code on this line
abbrev pub HasCode : Bundle → ℕ → ℕ → Type 0
HasCode bundle file line =
    (f : BundleFile) × (slice_get bundle.files file ≡ Some f)
    × (has_line (file_lines f.tree) line ≡ true)
