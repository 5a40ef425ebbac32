use Rattle.std.proofs.Common.{refl}
use Rattle.dp_state.specs.Variables.{Variables, without}
use Rattle.dp_state.proofs.Homes.{top-changed}
use Rattle.dp_state.proofs.state.State.remove.Goals as goal

pub returns : goal.returns
returns c =
    top-changed c.owner_at-at.result c.args.self.now c.own_mut.result.now c.owner_at-at.ensures.owner
    c.own_mut.ensures.value _ c.remove.new.self (λ (vs : Variables). without vs c.args.name.now) refl c.remove.ensures
