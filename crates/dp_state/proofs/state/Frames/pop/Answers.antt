use Rattle.std.proofs.Common.{◌≡◌, ◌-◌, ℕ, length, take, ap, sym, ◌∙◌, arith}
use Rattle.std.proofs.lemmas.List.{length-set, length-take-le}
use Rattle.dp_state.proofs.Owners.{kept-pop, set_popped}
use Rattle.dp_state.proofs.state.Frames.pop.Goals as goal

pub invariant_of-self : goal.invariant_of-self
invariant_of-self c = (
  omega (
    arith,
    c.self.invariant.0,
    length-set c.self.inside.frames.items (c.self.inside.live - 1)
        (record c.index_mut.result.now { vars = c.clear.new.self }),
  ),
  kept-pop (take c.self.inside.live c.self.inside.frames.items) _ c.self.inside.owners.items c.pop.new.self.items
      c.self.inside.live c.self.inside.owners.len c.self.invariant.1
      (sym (length-take-le c.self.inside.live c.self.inside.frames.items c.self.invariant.0)) c.self.inside.owners.ok.0
      (set_popped c.self.inside.live (record c.index_mut.result.now { vars = c.clear.new.self })
      c.self.inside.frames.items) c.pop.ensures.rest,
)

pub returns : goal.returns
returns c =
    let many : c.self.inside.live ≡ length c.args.self.now =
    sym (length-take-le c.self.inside.live c.self.inside.frames.items c.self.invariant.0) ∙ ap length c.self.view_is in
    set_popped c.self.inside.live (record c.index_mut.result.now { vars = c.clear.new.self })
    c.self.inside.frames.items
    ∙ ap (take (c.self.inside.live - 1)) c.self.view_is
    ∙ ap (λ (n : ℕ). take (n - 1) c.args.self.now) many
