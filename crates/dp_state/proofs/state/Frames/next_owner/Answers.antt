use Rattle.std.proofs.Common.{◌≡◌, ◌-◌, length, ap, sym, ◌∙◌, arith}
use Rattle.std.proofs.lemmas.List.{length-take-le}
use Rattle.dp_state.specs.States.{owner as owner_of}
use Rattle.dp_state.proofs.Owners.{next-own, next-shares}
use Rattle.dp_state.proofs.state.Frames.next_owner.Goals as goal

pub returns-then-frame : goal.returns-then-frame
returns-then-frame c =
    let below : c.saturating_sub.result ≡ length c.args.self.now - 1 =
    omega (
      arith,
      c.saturating_sub.ensures,
      ap length c.self.view_is,
      length-take-le c.self.inside.live c.self.inside.frames.items c.self.invariant.0,
    ) in
    next-shares c.args.self.now c.args.frame.now c.owner.result c.if-frame.true
    (c.owner.ensures.owner ∙ ap (owner_of c.args.self.now) below)

pub returns : goal.returns
returns c =
    sym (length-take-le c.self.inside.live c.self.inside.frames.items c.self.invariant.0)
    ∙ ap length c.self.view_is
    ∙ next-own c.args.self.now c.args.frame.now c.if-frame.false
