use Rattle.std.proofs.Common.{ap, sym, ◌∙◌, arith}
use Rattle.std.proofs.lemmas.List.{length-set}
use Rattle.dp_state.specs.declared.state.Frame.{Frame}
use Rattle.dp_state.specs.inner.Owners.{owners_of}
use Rattle.dp_state.proofs.Owners.{kept-called}
use Rattle.dp_state.proofs.state.Frames.call.Goals as goal

pub invariant_of-self-2 : goal.invariant_of-self-2
invariant_of-self-2 c = (
  omega (
    arith,
    c.in_ok-make_room.ensures.room,
    length-set c.make_room.new.frames.items c.self.inside.live
        c.begin_call.new.frame,
  ),
  c.in_ok-push.ensures.items
      ∙ kept-called c.self.inside.live c.begin_call.new.frame c.make_room.new.frames.items c.self.inside.owners.items
      c.in_ok-make_room.ensures.room (ap (λ (f : Frame). f.shares) c.in_ok-begin_call.ensures)
      (c.self.invariant.1 ∙ ap owners_of (sym c.in_ok-make_room.ensures.same)),
)
