use Rattle.std.proofs.Common.{sym, ◌∙◌}
use Rattle.dp_engine.proofs.session.Session.going_from.Goals as goal

pub returns-in-None : goal.returns-in-None
returns-in-None c = sym c.in_ok-found.ensures ∙ c.in-None.is

pub returns-in_ok-to-in-Some : goal.returns-in_ok-to-in-Some
returns-in_ok-to-in-Some c = record {
  requested = sym c.in_ok-found.ensures ∙ c.in-Some.is;
  command = c.in_ok-to-in-Some.ensures.command;
  id = c.in_ok-to-in-Some.ensures.id;
  depth = rw (← c.self.view_is) c.self.invariant.1;
  shown = c.requires.shown;
}
