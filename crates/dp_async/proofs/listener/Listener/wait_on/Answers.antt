use Rattle.std.proofs.Common.{refl}
use Rattle.std.proofs.lemmas.Result.{err_from_is_err_and}
use Rattle.dp_async.specs.Served.{input_of}
use Rattle.dp_async.proofs.Standings.{cut_short, later_on}
use Rattle.dp_async.proofs.Waits.{waited_on}
use Rattle.dp_async.proofs.listener.Listener.wait_on.Goals as goal

pub returns-in_err-over-clause-position : goal.returns-in_err-over-clause-position
returns-in_err-over-clause-position g c =
    let p = err_from_is_err_and c.from_residual.result c.from_residual.ensures.1 in
    let f = c.in_err-over.ensures in
    λ start o s. rw (p.1, p.2)
    (cut_short start _ _ _ _ _ _ _ s.0 f.log refl refl
    (record {
      breaks =
          later_on start.before.input (input_of g.Q.Polled c.args.polled.now) (input_of g.Q.Polled c.wait.new.polled)
          s.0.agrees.later.breaks f.later;
      faults = s.0.agrees.later.faults;
      fails = s.0.agrees.later.fails;
    }))

pub returns-clause-position : goal.returns-clause-position
returns-clause-position g c =
    let f = c.in_ok-over.ensures in
    λ start o s. waited_on start _ _ c.in_ok-over.over _ _ o s.0 s.1 s.2 f.session f.moments f.brings f.looks f.later
