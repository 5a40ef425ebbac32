use Rattle.dp_events.proofs.ListLaws.{noted}
use Rattle.dp_events.proofs.readers.Reading.note.Goals as goal

pub returns : goal.returns
returns c =
    noted c.args.self.now (record { events = c.push.new.self; made = c.mark.new.made }) c.args.event c.requires.reads
    c.requires.fits c.in_ok-mark.ensures
    c.in_ok-push.ensures.items
