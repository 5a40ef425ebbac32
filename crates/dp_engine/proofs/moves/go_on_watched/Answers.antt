use Rattle.std.proofs.Common.{refl}
use Rattle.dp_engine.proofs.MachineStops.{goes-out, goes-there, passes}
use Rattle.dp_engine.proofs.UnseenMoments.{look-on, past-by}
use Rattle.dp_engine.proofs.moves.go_on_watched.Goals as goal

pub loop-passed-init : goal.loop-passed-init
loop-passed-init g c = λ bound writes n stands. (
  record {
    at = n;
    stands = stands;
    next = refl;
    found = refl;
    counted = refl;
  },
  tt,
)

pub returns-then-branch : goal.returns-then-branch
unfolding past-by
returns-then-branch g c = λ bound writes n stands.
    let ways = c.loop-passed.invariant bound writes n stands in
    let way = ways.0 in
    let are_loud = look-on _ _ _ _ _ _ _ _ way.stands ways.1 c.in_ok-look.ensures in
    let goes = rw c.in-At.is at (c.in_ok-moment.ensures c.args.depth c.args.bundle.now bound writes way.at way.stands
    are_loud) in
    let past = past-by _ _ _ _ _ _ _ _ _ _ way _ c.go_on.new.machine _ goes in
    let pass = c.in_ok-pass-in-At.ensures in
    goes-there _ _ _ _ _ _ _ _ _ past c.in-At.moment c.go_on.new.machine goes.goes_on _ goes.counted
    c.state.result.now c.state.ensures c.pass.new.breaks pass.breaks _ pass.stop c.if-branch.true

pub loop-passed-preserved : goal.loop-passed-preserved
unfolding past-by
loop-passed-preserved g c = λ bound writes n stands.
    let ways = c.loop-passed.invariant bound writes n stands in
    let way = ways.0 in
    let are_loud = look-on _ _ _ _ _ _ _ _ way.stands ways.1 c.in_ok-look.ensures in
    let goes = rw c.in-At.is at (c.in_ok-moment.ensures c.args.depth c.args.bundle.now bound writes way.at way.stands
    are_loud) in
    let past = past-by _ _ _ _ _ _ _ _ _ _ way _ c.go_on.new.machine _ goes in
    let pass = c.in_ok-pass-in-At.ensures in (
      passes _ _ _ _ _ _ _ _ _ past c.in-At.moment c.go_on.new.machine goes.goes_on _ goes.counted c.state.result.now
          c.state.ensures c.pass.new.breaks pass.breaks _ pass.stop c.if-branch.false,
      are_loud,
    )

pub returns-in-Ended : goal.returns-in-Ended
unfolding past-by
returns-in-Ended g c = λ bound writes n stands.
    let ways = c.loop-passed.invariant bound writes n stands in
    let way = ways.0 in
    let are_loud = look-on _ _ _ _ _ _ _ _ way.stands ways.1 c.in_ok-look.ensures in
    let goes = rw c.in-Ended.is at (c.in_ok-moment.ensures c.args.depth c.args.bundle.now bound writes way.at
    way.stands are_loud) in
    let past = past-by _ _ _ _ _ _ _ _ _ _ way _ c.go_on.new.machine _ goes in
    goes-out _ _ _ _ _ _ _ _ _ past c.in-Ended.outcome c.go_on.new.machine goes.goes_on _ goes.counted
