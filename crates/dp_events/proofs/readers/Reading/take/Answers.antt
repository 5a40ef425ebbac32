use Rattle.std.proofs.Common.{[], ◌∷◌, sym, ◌∙◌}
use Rattle.dp_events.proofs.ListLaws.{not_spelled, may_not, fits_then, adds_one}
use Rattle.dp_events.proofs.readers.Reading.take.Goals as goal

pub returns-in_default-clause-takes : goal.returns-in_default-clause-takes
returns-in_default-clause-takes c =
    not_spelled c.args.self.now.events.items c.args.line.now (sym c.is_idle_line.ensures ∙ c.if-is_idle_line.false)
    (sym c.in_ok-event.ensures ∙ c.in_default.is)

pub returns-then-not-may_follow-clause-takes : goal.returns-then-not-may_follow-clause-takes
returns-then-not-may_follow-clause-takes c =
    may_not c.args.self.now.events.items c.args.line.now c.in-Some.event (sym c.in_ok-event.ensures ∙ c.in-Some.is)
    (sym c.is_idle_line.ensures ∙ c.if-is_idle_line.false) (c.may_follow.ensures.no c.if-not-may_follow.true)

pub note-requires-clause-fits : goal.note-requires-clause-fits
note-requires-clause-fits c =
    fits_then c.args.self.now.events.items c.args.line.now c.in-Some.event (sym c.in_ok-event.ensures ∙ c.in-Some.is)
    (c.may_follow.ensures.yes c.if-not-may_follow.false)

pub returns-clause-takes : goal.returns-clause-takes
returns-clause-takes c = (
  c.in-Some.event ∷ [],
  adds_one c.args.self.now.events.items c.args.line.now c.in-Some.event (sym c.in_ok-event.ensures ∙ c.in-Some.is)
      (c.may_follow.ensures.yes c.if-not-may_follow.false),
  c.in_ok-note.ensures.are,
)
