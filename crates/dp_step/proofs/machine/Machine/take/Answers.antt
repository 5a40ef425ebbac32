use Rattle.std.proofs.Common.{◌-◌, take, refl, ap, ◌∙◌}
use Rattle.dp_small_steps.specs.declared.work.Waiting.TheVariants as waiting
use Rattle.dp_step.proofs.Smalls.{moves_as, innermost, nothing-left}
use Rattle.dp_step.proofs.machine.Machine.take.Goals as goal

pub returns-in-None : goal.returns-in-None
returns-in-None c =
    let m = c.args.self.now in record {
      by = nothing-left m m.state c.pop.new.self.items c.args.given _ (rw c.in-None.is at c.pop.ensures.items)
          (c.pop.ensures.rest ∙ ap (λ n. take (n - 1) m.pending.items) (rw c.in-None.is at c.pop.ensures.cases).0)
          c.put_hand.ensures refl;
      same_bundle = refl;
      same_bound = refl;
    }

pub returns-in-Some-Part : goal.returns-in-Some-Part
returns-in-Some-Part c =
    let m = c.args.self.now in
    moves_as m _ _ _ _ _ (innermost m.bundle.now m.bound m.depth c.pop.new.self.items
    (waiting.Part c.in-Some-Part.work) m.pending.items (rw
    (c.in-Some-Part.is, c.in-Some-Part.field-0-is) at c.pop.ensures.items) c.args.given m.state) refl refl
    c.pass.ensures

pub returns-in-Some-EndCall : goal.returns-in-Some-EndCall
returns-in-Some-EndCall c =
    let m = c.args.self.now in
    moves_as m _ _ _ _ _ (innermost m.bundle.now m.bound m.depth c.pop.new.self.items
    (waiting.EndCall c.in-Some-EndCall.depth) m.pending.items
    (rw (c.in-Some-EndCall.is, c.in-Some-EndCall.field-0-is) at c.pop.ensures.items) c.args.given m.state) refl refl
    c.end_call.ensures

pub returns-in-Some-EndFile : goal.returns-in-Some-EndFile
returns-in-Some-EndFile c =
    let m = c.args.self.now in
    moves_as m _ _ _ _ _ (innermost m.bundle.now m.bound m.depth c.pop.new.self.items
    (waiting.EndFile c.in-Some-EndFile.depth) m.pending.items
    (rw (c.in-Some-EndFile.is, c.in-Some-EndFile.field-0-is) at c.pop.ensures.items) c.args.given m.state) refl refl
    c.end_file.ensures
