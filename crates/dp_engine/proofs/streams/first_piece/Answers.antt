use Rattle.std.proofs.Common.{sym, take_all}
use Rattle.std.proofs.lemmas.List.{drop_all}
use Rattle.dp_engine.proofs.streams.first_piece.Goals as goal

pub returns-then-output-le-STREAM_SIZE-clause-piece : goal.returns-then-output-le-STREAM_SIZE-clause-piece
returns-then-output-le-STREAM_SIZE-clause-piece c =
    sym (take_all 4096 c.args.output.now c.if-output-le-STREAM_SIZE.true)

pub returns-then-output-le-STREAM_SIZE-clause-rest : goal.returns-then-output-le-STREAM_SIZE-clause-rest
returns-then-output-le-STREAM_SIZE-clause-rest c = sym (drop_all 4096 c.args.output.now c.if-output-le-STREAM_SIZE.true)
