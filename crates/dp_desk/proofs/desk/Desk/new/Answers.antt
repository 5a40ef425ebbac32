use Rattle.std.proofs.Common.{◌≡◌, [], ◌∷◌, ◌++◌, Some, ap, ◌∙◌}
use Rattle.dp_desk.proofs.Keeps.{begins}
use Rattle.dp_desk.proofs.desk.Desk.new.Goals as goal

pub new-requires : goal.new-requires
new-requires g c =
    let held = c.new-held.result.0 in
    let items : c.push_reserved.new.self.items ≡ Some held ∷ [] = c.push_reserved.ensures.items
    ∙ ap (λ xs. xs ++ Some held ∷ []) c.in_ok-slots.ensures.items in
    rw items (begins _ held c.new-held.ensures.registry)
