use Rattle.std.proofs.Common.{◌≡◌, List, ℕ, [], sym, ap, ◌∙◌, arith}
use Rattle.std.proofs.lemmas.Bool.Decides.{nat_tests}
use Rattle.std.proofs.lemmas.List.{nil_from_length}
use Rattle.dp_operations.specs.Parts.{repeated}
use Rattle.dp_operations.proofs.PartLemmas.{repeated-nothing}
use Rattle.dp_operations.proofs.parts.copies.Goals as goal

pub returns-then-is_empty : goal.returns-then-is_empty
returns-then-is_empty c =
    let none : c.args.bytes.now ≡ [] = nil_from_length c.args.bytes.now
    (grind (arith, nat_tests, c.is_empty.ensures, c.if-is_empty.true)) in
    c.new-copies.ensures.items
    ∙ sym (ap (λ (bs : List ℕ). repeated c.args.count bs) none ∙ repeated-nothing c.args.count)
