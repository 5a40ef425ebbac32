use Rattle.std.proofs.Common.{◌≡◌, ℕ, List, Option, Bor, take, is_err, true, false, refl, subst, sym, ◌∙◌}
use Rattle.std.specs.Io.KnownBytes.{Appends}
use Rattle.std.specs.Option.{IfSome}
use Rattle.dp_lanes.specs.Lanes.{frame}
use Rattle.dp_lanes.specs.Places.{BeginsWith, kind_of, received_in}
use Rattle.dp_relay.proofs.RunLaws.{puts_none, puts_more, puts_all, puts_bad, puts_failed, put_ok, put_err, on_err, on_ok}
use Rattle.dp_relay.proofs.lanes.pass_frames.Goals as goal

pub frames-init : goal.frames-init
frames-init g c = (refl, puts_none c.args.lane.now (g.K.Sink.taken c.args.sink.now), refl)

pub returns-then-is_err-clause-put : goal.returns-then-is_err-clause-put
returns-then-is_err-clause-put g c =
    let lane = c.frames.lane in
    let whole = subst (λ (o : Option (Bor (List ℕ))). IfSome o (λ bytes. (text : List ℕ) × (rest : List ℕ)
    × BeginsWith (kind_of lane) (received_in lane).held text rest × (bytes.now ≡ frame (kind_of lane) text)))
    c.in-Ok-Some.field-0-is c.in-Ok-Some.ensures.whole in
    let yes : is_err c.put.result ≡ true = sym c.is_err.ensures.value ∙ c.if-is_err.true in
    let front = put_err _ _ c.put.result yes c.put.ensures.taken in
    puts_failed c.args.lane.now lane (g.K.Sink.taken c.args.sink.now) (g.K.Sink.taken c.frames.sink)
    (g.K.Sink.faults c.args.sink.now) (g.K.Sink.faults c.frames.sink) c.frames.invariant.1
    (g.K.Sink.taken c.put.new.self) (g.K.Sink.faults c.put.new.self) whole.0 whole.1 front.0 whole.2
    (record {
      taken = subst (λ (l : List ℕ). Appends (g.K.Sink.taken c.frames.sink) (g.K.Sink.taken c.put.new.self)
          (take front.0 l)) whole.3 front.1;
      untold = c.put.ensures.untold;
    })
    c.frames.invariant.2 (c.put.ensures.cause.later, on_err _ c.put.result yes c.put.ensures.cause.failed)

pub returns-in-Ok-None-clause-put : goal.returns-in-Ok-None-clause-put
returns-in-Ok-None-clause-put g c =
    puts_all c.args.lane.now c.frames.lane (g.K.Sink.taken c.args.sink.now) (g.K.Sink.taken c.frames.sink)
    (g.K.Sink.faults c.args.sink.now) (g.K.Sink.faults c.frames.sink) c.frames.invariant.1 tt c.frames.invariant.2

pub returns-in-Err-clause-put : goal.returns-in-Err-clause-put
returns-in-Err-clause-put g c =
    puts_bad c.args.lane.now c.frames.lane (g.K.Sink.taken c.args.sink.now) (g.K.Sink.taken c.frames.sink)
    (g.K.Sink.faults c.args.sink.now) (g.K.Sink.faults c.frames.sink) c.frames.invariant.1 c.bad_offset-offset.result
    c.in-Err.field-0 (c.in-Err.ensures.refused.0 refl) c.in-Err.ensures.cause c.bad_offset-offset.ensures
    c.frames.invariant.2

pub frames-preserved : goal.frames-preserved
frames-preserved g c =
    let lane = c.frames.lane in
    let after = c.drop_front.new.self in
    let whole = subst (λ (o : Option (Bor (List ℕ))). IfSome o (λ bytes. (text : List ℕ) × (rest : List ℕ)
    × BeginsWith (kind_of lane) (received_in lane).held text rest × (bytes.now ≡ frame (kind_of lane) text)))
    c.in-Ok-Some.field-0-is c.in-Ok-Some.ensures.whole in
    let no_err : is_err c.put.result ≡ false = sym c.is_err.ensures.value ∙ c.if-is_err.false in
    let put = put_ok _ _ c.put.result no_err c.put.ensures.taken in (
      c.drop_front.ensures.kind ∙ c.frames.invariant.0,
      puts_more c.args.lane.now lane after (g.K.Sink.taken c.args.sink.now) (g.K.Sink.taken c.frames.sink)
          (g.K.Sink.taken c.put.new.self) whole.0 whole.1 c.frames.invariant.1 whole.2 c.drop_front.ensures.kind
          (c.drop_front.ensures.held whole.0 whole.1 whole.2) (c.drop_front.ensures.dropped whole.0 whole.1 whole.2)
          (record {
            taken = subst (λ (l : List ℕ). Appends (g.K.Sink.taken c.frames.sink) (g.K.Sink.taken c.put.new.self) l)
                whole.3 put;
            untold = c.put.ensures.untold;
          }),
      on_ok _ c.put.result no_err c.put.ensures.held ∙ c.frames.invariant.2,
    )
