use Rattle.dp_relay.proofs.ServeLaws.{serves, reads_none}
use Rattle.dp_relay.proofs.registrations.serve_asked.Goals as goal

pub returns-in-Ok : goal.returns-in-Ok
returns-in-Ok g c =
    serves g.S.Source g.K.Sink c.args.source.now c.read_command.new.source c.args.clerk.now c.serve_command.new.clerk
    c.args.host.now c.args.sink.now c.serve_command.new.sink c.read_command.new.buffer c.in-Ok.length
    c.in-Ok.ensures.heard c.serve_command.result c.serve_command.ensures

pub returns-in-Err : goal.returns-in-Err
returns-in-Err g c =
    reads_none g.S.Source g.K.Sink c.args.source.now c.read_command.new.source c.args.clerk.now c.args.clerk.now
    c.args.host.now c.args.sink.now c.read_command.new.buffer c.in-Err.why c.in-Err.ensures.heard
