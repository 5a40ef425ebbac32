use Rattle.std.proofs.Common.{◌≡◌, [], ◌∷◌, ◌++◌, List, length, take, sym, ap, subst, ◌∙◌, arith}
use Rattle.dp_state.specs.declared.state.Frame.{Frame}
use Rattle.dp_state.specs.inner.Owners.{owners_of}
use Rattle.dp_state.specs.States.{owner as owner_of}
use Rattle.dp_state.proofs.Owners.{kept-push, kept-undone}
use Rattle.dp_state.proofs.state.Frames.push.Goals as goal

pub invariant_of-self-in-Ok : goal.invariant_of-self-in-Ok
invariant_of-self-in-Ok c =
    let fs : List Frame = take c.self.inside.live c.self.inside.frames.items in
    let frame = c.args.frame in
    let own = c.next_owner-owner.result in
    let next = subst (λ (l : List Frame). own ≡ owner_of (l ++ frame ∷ []) (length l)) (sym c.self.view_is)
    c.next_owner-owner.ensures in (
      omega (arith, c.in-Ok.ensures.within),
      c.in_ok-push.ensures.items
          ∙ kept-push fs frame c.self.inside.owners.items own c.self.invariant.1 next
          ∙ ap owners_of (sym c.in-Ok.ensures.ok),
    )

pub invariant_of-self-in-Err : goal.invariant_of-self-in-Err
invariant_of-self-in-Err c = (
  omega (arith, c.self.invariant.0, ap length c.in-Err.ensures.err),
  kept-undone c.self.inside.owners.items c.push.new.self.items c.pop.new.self.items c.next_owner-owner.result
      c.push.new.self.len c.in_ok-push.ensures.items c.push.new.self.ok.0 c.pop.ensures.rest
      ∙ c.self.invariant.1
      ∙ ap (λ (fs : List Frame). owners_of (take c.self.inside.live fs)) (sym c.in-Err.ensures.err),
)
