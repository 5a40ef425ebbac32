use Rattle.dp_markup.proofs.Marks.{place_is}
use Rattle.dp_markup.proofs.input.mark_place.Goals as goal

pub returns-clause-place : goal.returns-clause-place
returns-clause-place c = place_is c.args.mark.now c.args.bytes.now c.find.result c.find.ensures
