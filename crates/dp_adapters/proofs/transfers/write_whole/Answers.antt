use Rattle.std.proofs.Common.{rules}
use Rattle.std.specs.Io.KnownBytes.{Appends}
use Rattle.dp_adapters.proofs.Fronts.{front_of_all}
use Rattle.dp_adapters.proofs.transfers.write_whole.Goals as goal

pub returns-in-Err : goal.returns-in-Err
returns-in-Err g c =
    let wrote : Appends (g.W.Write.contents c.args.writer.now)
    (g.W.Write.contents c.write_pieces.new.writer) c.args.bytes.now = search rules in
    front_of_all _ _ _ _ wrote c.flush.ensures.bytes
