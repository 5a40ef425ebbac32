use Rattle.std.proofs.Common.{arith, length-drop}
use Rattle.dp_relay.specs.inner.Reading.{source_end}
use Rattle.dp_relay.proofs.ReadLaws.{starts, comes_to_end, comes_whole, goes_on}
use Rattle.dp_relay.proofs.commands.read_command.Goals as goal

pub pieces-init : goal.pieces-init
pieces-init g c = starts (source_end g.S.Source c.args.source.now) c.args.buffer.now c.requires.room

pub returns-then-more-eq0-clause-heard : goal.returns-then-more-eq0-clause-heard
returns-then-more-eq0-clause-heard g c =
    let e = c.in-Ok.ensures in
    comes_to_end (source_end g.S.Source c.args.source.now) (source_end g.S.Source c.pieces.source)
    (source_end g.S.Source c.read_behind.new.source) c.pieces.buffer c.read_behind.new.buffer c.pieces.count
    c.pieces.invariant e.room e.front e.untold_given e.untold_left c.in-Ok.more e.given e.left.0 e.held e.within
    c.if-more-eq0.true (e.left.1 c.if-more-eq0.true
    (omega (
      arith,
      length-drop c.pieces.count c.read_behind.new.buffer,
      e.room,
      c.pieces.invariant.room,
      c.pieces-test.true,
    )))
    c.pieces-test.true

pub returns-in-Some-clause-heard : goal.returns-in-Some-clause-heard
returns-in-Some-clause-heard g c =
    let e = c.in-Ok.ensures in
    comes_whole (source_end g.S.Source c.args.source.now) (source_end g.S.Source c.pieces.source)
    (source_end g.S.Source c.read_behind.new.source) c.pieces.buffer c.read_behind.new.buffer c.pieces.count
    c.pieces.invariant e.room e.front e.untold_given e.untold_left c.in-Ok.more e.given e.left.0 e.held e.within
    c.in-Some.place c.in-Some.ensures.first c.in-Some.ensures.within

pub pieces-preserved : goal.pieces-preserved
pieces-preserved g c =
    let e = c.in-Ok.ensures in
    goes_on (source_end g.S.Source c.args.source.now) (source_end g.S.Source c.pieces.source)
    (source_end g.S.Source c.read_behind.new.source) c.pieces.buffer c.read_behind.new.buffer c.pieces.count
    c.pieces.invariant e.room e.front e.untold_given e.untold_left c.in-Ok.more e.given e.left.0 e.held e.within
    c.in_default-first_nul.ensures.first
