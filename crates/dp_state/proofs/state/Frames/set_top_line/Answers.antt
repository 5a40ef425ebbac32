use Rattle.std.proofs.Common.{◌-◌, take, ap, sym, ◌∙◌, arith}
use Rattle.std.proofs.lemmas.List.{length-set}
use Rattle.dp_state.specs.inner.Owners.{owners_of}
use Rattle.dp_state.specs.States.{with_line}
use Rattle.dp_state.proofs.Owners.{kept-line, set_top}
use Rattle.dp_state.proofs.state.Frames.set_top_line.Goals as goal

pub invariant_of-self : goal.invariant_of-self
invariant_of-self c = (
  omega (
    arith,
    c.self.invariant.0,
    length-set c.self.inside.frames.items (c.self.inside.live - 1)
        (record c.index_mut.result.now { line = c.args.line }),
  ),
  kept-line c.args.line (take c.self.inside.live c.self.inside.frames.items) c.self.inside.owners.items
      c.self.invariant.1
      ∙ ap owners_of (sym (set_top c.args.line c.self.inside.live c.index_mut.result.now c.self.inside.frames.items
      c.if-self-gt0.true c.self.invariant.0 c.index_mut.ensures.value)),
)

pub returns-then-self-gt0 : goal.returns-then-self-gt0
returns-then-self-gt0 c =
    set_top c.args.line c.self.inside.live c.index_mut.result.now c.self.inside.frames.items c.if-self-gt0.true
    c.self.invariant.0 c.index_mut.ensures.value
    ∙ ap (with_line c.args.line) c.self.view_is
