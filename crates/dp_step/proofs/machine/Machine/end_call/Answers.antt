use Rattle.std.proofs.Common.{false, true, refl, sym, ◌∙◌}
use Rattle.dp_state.specs.States.{line_of}
use Rattle.dp_step.proofs.Smalls.{call-ends}
use Rattle.dp_step.proofs.machine.Machine.end_call.Goals as goal

pub returns-then-leaves : goal.returns-then-leaves
returns-then-leaves c =
    let m = c.args.self.now in record {
      by = call-ends m m.state c.args.depth c.args.given _ true _ _
          (λ setting k s. c.call_hand.ensures setting c.args.depth k s)
          (sym c.ends_call-leaves.ensures ∙ c.if-leaves.true)
          c.line.ensures refl refl refl c.put_hand.ensures refl refl;
      same_bundle = refl;
      same_bound = refl;
    }

pub returns-else-leaves : goal.returns-else-leaves
returns-else-leaves c =
    let m = c.args.self.now in record {
      by = call-ends m m.state c.args.depth c.args.given _ false (line_of m.state) _
          (λ setting k s. c.call_hand.ensures setting c.args.depth k s)
          (sym c.ends_call-leaves.ensures ∙ c.if-leaves.false)
          refl refl refl refl c.put_hand.ensures refl refl;
      same_bundle = refl;
      same_bound = refl;
    }
