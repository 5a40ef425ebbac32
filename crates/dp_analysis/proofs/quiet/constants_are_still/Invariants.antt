use Rattle.std.proofs.Common.{◌≡◌, drop}
use Rattle.std.specs.List.{list_all}
use Rattle.std.specs.Option.{option_copied}
use Rattle.dp_analysis.specs.Still.{calls_of, is_still}
use Rattle.dp_analysis.proofs.quiet.constants_are_still.Given as goal

abbrev pub invariant-loop-definition : goal.invariant-loop-definition
invariant-loop-definition l =
    list_all (λ d. is_still (calls_of (option_copied l.loud)) d.value) l.all
    ≡ list_all (λ d. is_still (calls_of (option_copied l.loud)) d.value) (drop l.definition-index l.all)
