use Rattle.std.proofs.Common.{ap, sym, ◌∙◌}
use Rattle.dp_registry.specs.declared.entry.Entry.TheVariants.{Stop}
use Rattle.dp_registry.specs.Verdicts.{reply_of}
use Rattle.dp_desk.proofs.Entered.{grown, entered}
use Rattle.dp_desk.proofs.desk.Desk.stop.Goals as goal

pub settle-requires-clause-grown : goal.settle-requires-clause-grown
settle-requires-clause-grown g c =
    grown _ c.take-held.result.registry _ _
    (λ reply. Stop c.args.host.now c.args.key.now reply) (reply_of c.stop-answer.result)
    c.stop-answer.ensures.journal (sym (ap (λ m. m.0.seen) c.take-held.ensures.me)) (λ r e. tt)

pub returns : goal.returns
returns g c =
    let t = c.take-held.ensures in
    let n = c.settle.ensures in
    let a = c.stop-answer.ensures in
    rw (← c.clerk.view_is) record {
      at = c.take-held.result.registry;
      answer = a.verdict;
      entered = entered c.clerk.inside.seat.me.0 c.take-held.new.seat.me.0 c.settle.new.seat.me.0
          c.take-held.result.registry c.stop-answer.new.self.registry
          (λ reply. Stop c.args.host.now c.args.key.now reply)
          (reply_of c.stop-answer.result) _ _ _ _
          (n.desk ∙ t.desk) t.seen (ap (λ m. m.0) t.me) a.journal (ap (λ m. m.0) n.me) n.legal a.made;
    }
