use Rattle.std.proofs.Common.{remove, ap, sym, ◌∙◌}
use Rattle.std.specs.Map.{keys_of}
use Rattle.std.specs.Str.{bytes_eq}
use Rattle.dp_state.specs.Variables.{Variables}
use Rattle.dp_state.proofs.Fronts.{position-absent, position-first, without-absent, without-first}
use Rattle.dp_state.proofs.hashed.Hashed.remove.Goals as goal

pub returns-in_default : goal.returns-in_default
returns-in_default c =
    sym (without-absent c.args.name.now c.args.self.now
    (position-absent (bytes_eq c.args.name.now) (keys_of c.args.self.now) c.in_default.ensures))

pub returns : goal.returns
returns c =
    c.take_out.ensures.left
    ∙ ap (λ (es : Variables). remove es c.in-Some.at) c.self.view_is
    ∙ sym (without-first c.args.name.now c.args.self.now c.in-Some.at
    (position-first (bytes_eq c.args.name.now) (keys_of c.args.self.now) c.in-Some.at c.in-Some.ensures))
