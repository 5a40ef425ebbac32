use Rattle.std.specs.Prelude.{option_to_list}
use Rattle.dp_engine.proofs.StreamPackets.{all_texts}
use Rattle.dp_engine.proofs.streams.to_ide.Goals as goal

pub returns-clause-are_texts : goal.returns-clause-are_texts
returns-clause-are_texts c =
    all_texts c.args.mode c.args.output.now (option_to_list c.args.before) c.args.text c.gather.result c.requires.before
    c.requires.text c.gather.ensures
