use Rattle.std.proofs.Common.{rules, ◌∙◌, Bool, Ok, subst}
use Rattle.dp_lanes.specs.Places.{kind_of, received_in}
use Rattle.dp_relay.specs.Ends.{ends}
use Rattle.dp_relay.specs.inner.Turns.{Fed}
use Rattle.dp_relay.proofs.RunLaws.{begins, ends_putting, goes_on, ends_reading, ends_well, goes_further, ends_late}
use Rattle.dp_relay.proofs.lanes.run_lane.Goals as goal

pub pieces-init : goal.pieces-init
pieces-init g c = (
  search rules,
  begins c.args.lane (ends g.S.Source g.K.Sink c.args.source.now c.args.sink.now) c.requires.start,
)

pub returns-in-Err : goal.returns-in-Err
returns-in-Err g c =
    ends_putting g.S.Source g.K.Sink (kind_of c.args.lane) (received_in c.args.lane).held
    (ends g.S.Source g.K.Sink c.args.source.now c.args.sink.now) c.pieces.source c.pieces.sink c.pass_frames.new.sink
    c.pieces.lane c.pass_frames.new.lane c.pieces.invariant.1 c.in-Err.end c.in-Err.ensures.put

pub returns-in-Ok-false : goal.returns-in-Ok-false
returns-in-Ok-false g c =
    ends_well g.S.Source g.K.Sink (kind_of c.args.lane) (received_in c.args.lane).held
    (ends g.S.Source g.K.Sink c.args.source.now c.args.sink.now) c.pieces.source c.read_piece.new.source
    c.pass_frames.new.sink c.pass_frames.new.lane c.read_piece.new.lane
    (goes_on g.S.Source g.K.Sink (kind_of c.args.lane) (received_in c.args.lane).held
    (ends g.S.Source g.K.Sink c.args.source.now c.args.sink.now) c.pieces.source c.pieces.sink c.pass_frames.new.sink
    c.pieces.lane c.pass_frames.new.lane c.pieces.invariant.1 c.in_default.field-0 c.in_default.ensures.put)
    c.in_default.ensures.part
    (subst (λ (t : Bool). Fed c.pass_frames.new.lane c.read_piece.new.lane (g.S.Source.left c.pieces.source)
    (g.S.Source.left c.read_piece.new.source) (g.S.Source.given c.pieces.source)
    (g.S.Source.given c.read_piece.new.source) (g.S.Source.faults c.pieces.source)
    (g.S.Source.faults c.read_piece.new.source) (Ok t)) c.in-Ok-false.field-0-test c.in-Ok-false.ensures.fed)

pub returns-in-Err-read_piece : goal.returns-in-Err-read_piece
returns-in-Err-read_piece g c =
    ends_reading g.S.Source g.K.Sink (kind_of c.args.lane) (received_in c.args.lane).held
    (ends g.S.Source g.K.Sink c.args.source.now c.args.sink.now) c.pieces.source c.read_piece.new.source
    c.pass_frames.new.sink c.pass_frames.new.lane c.read_piece.new.lane
    (goes_on g.S.Source g.K.Sink (kind_of c.args.lane) (received_in c.args.lane).held
    (ends g.S.Source g.K.Sink c.args.source.now c.args.sink.now) c.pieces.source c.pieces.sink c.pass_frames.new.sink
    c.pieces.lane c.pass_frames.new.lane c.pieces.invariant.1 c.in_default.field-0 c.in_default.ensures.put)
    c.in_default.ensures.part c.in-Err-read_piece.end c.in-Err-read_piece.ensures.fed

pub pieces-preserved : goal.pieces-preserved
pieces-preserved g c = (
  c.in-Ok-true.ensures.buffer ∙ c.pieces.invariant.0,
  goes_further g.S.Source g.K.Sink (kind_of c.args.lane) (received_in c.args.lane).held
      (ends g.S.Source g.K.Sink c.args.source.now c.args.sink.now) c.pieces.source c.read_piece.new.source
      c.pass_frames.new.sink c.pass_frames.new.lane c.read_piece.new.lane
      (goes_on g.S.Source g.K.Sink (kind_of c.args.lane) (received_in c.args.lane).held
      (ends g.S.Source g.K.Sink c.args.source.now c.args.sink.now) c.pieces.source c.pieces.sink
      c.pass_frames.new.sink c.pieces.lane c.pass_frames.new.lane c.pieces.invariant.1 c.in_default.field-0
      c.in_default.ensures.put)
      c.in-Ok-true.ensures.way
      (subst (λ (t : Bool). Fed c.pass_frames.new.lane c.read_piece.new.lane (g.S.Source.left c.pieces.source)
      (g.S.Source.left c.read_piece.new.source) (g.S.Source.given c.pieces.source)
      (g.S.Source.given c.read_piece.new.source) (g.S.Source.faults c.pieces.source)
      (g.S.Source.faults c.read_piece.new.source) (Ok t)) c.in-Ok-true.field-0-test c.in-Ok-true.ensures.fed),
)

pub returns : goal.returns
returns g c =
    ends_late (kind_of c.args.lane) (received_in c.args.lane).held
    (ends g.S.Source g.K.Sink c.args.source.now c.args.sink.now)
    (ends g.S.Source g.K.Sink c.pieces.source c.pieces.sink) c.pieces.lane c.pieces.invariant.1
