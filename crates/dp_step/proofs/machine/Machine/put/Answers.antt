use Rattle.std.proofs.Common.{refl, sym}
use Rattle.dp_step.proofs.Smalls.{rest-by}
use Rattle.dp_step.proofs.machine.Machine.put.Goals as goal

pub returns : goal.returns
returns c =
    let m = c.args.self.now in record {
      by = sym (rest-by _ m.bundle.now m.bound m.depth _ m.pending.items refl refl refl c.put_hand.ensures refl
          m.state);
      same_bundle = refl;
      same_bound = refl;
    }
