use Rattle.std.proofs.Common.{◌≡◌, drop, codes}
use Rattle.std.specs.List.{find}
use Rattle.std.specs.Str.{bytes_eq}
use Rattle.dp_dap.proofs.breakpoints.id_text.Given as goal

abbrev pub invariant-loop-attribute : goal.invariant-loop-attribute
invariant-loop-attribute l =
    find (λ a. bytes_eq a.0 (codes "id")) (drop l.attribute-index l.attributes)
    ≡ find (λ a. bytes_eq a.0 (codes "id")) l.attributes
