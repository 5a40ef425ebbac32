use Rattle.std.proofs.Common.{position, ap, ◌∙◌}
use Rattle.std.specs.Map.{keys_of}
use Rattle.std.specs.Str.{bytes_eq}
use Rattle.dp_state.specs.Variables.{Variables}
use Rattle.dp_state.proofs.Fronts.{left-gone, left-missing, left-there}
use Rattle.dp_state.proofs.hashed.Hashed.place.Goals as goal

pub returns-in_default : goal.returns-in_default
returns-in_default c =
    left-missing c.args.name.now c.self.inside.gone c.self.inside.slots.entries c.in_default.ensures.index
    ∙ ap (λ (es : Variables). position (bytes_eq c.args.name.now) (keys_of es)) c.self.view_is

pub returns-then-row-self : goal.returns-then-row-self
returns-then-row-self c =
    left-gone c.args.name.now c.self.inside.gone c.self.inside.slots.entries c.in-Some.row c.in-Some.ensures.index
    c.in-Some.ensures.unique c.if-row-self.true
    ∙ ap (λ (es : Variables). position (bytes_eq c.args.name.now) (keys_of es)) c.self.view_is

pub returns : goal.returns
returns c =
    left-there c.args.name.now c.self.inside.gone c.self.inside.slots.entries c.in-Some.row c.in-Some.ensures.index
    c.if-row-self.false
    ∙ ap (λ (es : Variables). position (bytes_eq c.args.name.now) (keys_of es)) c.self.view_is
