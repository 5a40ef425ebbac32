use Rattle.dp_engine.proofs.SentPackets.{init_is, init_is_text}
use Rattle.dp_engine.proofs.session.first_packet.Goals as goal

pub returns-clause-text : goal.returns-clause-text
returns-clause-text c =
    init_is c.args.bundle.now c.args.key.now c.in_ok-idekey.idekey c.in_ok-fileuri.fileuri c.main_file.result.now
    c.text_of.result
    c.in_ok-idekey.ensures c.in_ok-fileuri.ensures c.main_file.ensures c.text_of.ensures

pub returns-clause-is_text : goal.returns-clause-is_text
returns-clause-is_text c =
    init_is_text c.args.bundle.now c.args.key.now c.text_of.result c.requires.key c.requires.name
    (returns-clause-text c)
