use Rattle.std.proofs.Common.{refl}
use Rattle.dp_records.proofs.ReadingLaws.{reads_none}
use Rattle.dp_records.proofs.readings.Reading+A+A+End.begin.Goals as goal

pub returns : goal.returns
returns g c =
    reads_none g.A.Responder.step c.args.session c.args.init.now _ c.in_ok-audit.ensures c.new.ensures.items refl
