use Rattle.std.proofs.Common.{◌≡◌, ◌&&◌, ℕ, List, take}
use Rattle.std.specs.List.{list_any}
use Rattle.std.specs.Option.{option_copied}
use Rattle.std.specs.Str.{str_eq_ignore_ascii_case}
use Rattle.dp_analysis.specs.Still.{is_named}
use Rattle.dp_analysis.specs.inner.Parts.{stays}
use Rattle.dp_analysis.proofs.loud.names_that_stay.Given as goal

abbrev pub invariant-loop-file : goal.invariant-loop-file
invariant-loop-file l =
    (name : List ℕ) → is_named l.names name ≡ list_any (λ file. list_any
    (λ f. stays l.lines (option_copied l.before) f && str_eq_ignore_ascii_case f.name name) file.tree.functions)
    (take l.file-index l.files)
