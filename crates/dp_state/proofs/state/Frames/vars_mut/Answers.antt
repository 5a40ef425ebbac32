use Rattle.std.proofs.Common.{refl, arith}
use Rattle.std.proofs.lemmas.List.{length-set}
use Rattle.dp_state.proofs.Owners.{vars-given, vars-kept, vars-there}
use Rattle.dp_state.proofs.state.Frames.vars_mut.Goals as goal

pub invariant_of-self-lent : goal.invariant_of-self-lent
invariant_of-self-lent c = λ w. (
  omega (
    arith,
    c.self.invariant.0,
    length-set c.self.inside.frames.items c.args.at
        (record c.index_mut-frame.result.now { vars = w }),
  ),
  vars-kept c.args.at c.self.inside.live c.self.inside.frames.items c.args.self.now c.index_mut-frame.result.now
      c.self.invariant.0 c.self.view_is c.index_mut-frame.ensures.value c.requires w c.self.inside.owners.items
      c.self.invariant.1,
)

pub returns : goal.returns
returns c = (
  (
    refl,
    λ w. vars-given c.args.at c.self.inside.live c.self.inside.frames.items c.args.self.now
        c.index_mut-frame.result.now c.self.invariant.0 c.self.view_is c.index_mut-frame.ensures.value c.requires w,
  ),
  record {
    lends = tt;
    value = vars-there c.args.at c.self.inside.live c.self.inside.frames.items c.args.self.now
        c.index_mut-frame.result.now c.self.invariant.0 c.self.view_is c.index_mut-frame.ensures.value c.requires;
  },
)
