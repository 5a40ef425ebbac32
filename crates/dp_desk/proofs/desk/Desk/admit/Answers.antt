use Rattle.std.proofs.Common.{ap, sym, ◌∙◌}
use Rattle.dp_registry.specs.declared.entry.Entry.TheVariants.{Admit}
use Rattle.dp_registry.specs.Verdicts.{admit_reply_of}
use Rattle.dp_desk.proofs.Entered.{grown, held_entered, entered, gives_hold}
use Rattle.dp_desk.proofs.desk.Desk.admit.Goals as goal

pub settle-requires-clause-grown : goal.settle-requires-clause-grown
settle-requires-clause-grown g c =
    grown _ c.take-held.result.registry _ _
    (λ reply. Admit c.args.key.now reply) (admit_reply_of c.admit-answer.result)
    c.admit-answer.ensures.journal (sym (ap (λ m. m.0.seen) c.take-held.ensures.me)) (λ r e. tt)

pub returns-clause-called : goal.returns-clause-called
returns-clause-called g c =
    let t = c.take-held.ensures in
    let n = c.settle.ensures in
    let a = c.admit-answer.ensures in
    rw (← c.clerk.view_is) record {
      at = c.take-held.result.registry;
      answer = a.verdict;
      entered = entered c.clerk.inside.seat.me.0 c.take-held.new.seat.me.0 c.settle.new.seat.me.0
          c.take-held.result.registry c.admit-answer.new.self.registry
          (λ reply. Admit c.args.key.now reply)
          (admit_reply_of c.admit-answer.result) _ _ _ _
          (n.desk ∙ t.desk) t.seen (ap (λ m. m.0) t.me) a.journal (ap (λ m. m.0) n.me) n.legal a.made;
    }

pub returns-clause-holds : goal.returns-clause-holds
returns-clause-holds g c =
    gives_hold c.clerk.inside.seat.me.0.held c.settle.new.seat.me.0.held c.args.key.now c.admit-answer.result
    (held_entered c.clerk.inside.seat.me.0 c.take-held.new.seat.me.0 c.settle.new.seat.me.0 c.take-held.result.registry
    c.admit-answer.new.self.registry (λ reply. Admit c.args.key.now reply) (admit_reply_of c.admit-answer.result)
    (ap (λ m. m.0) c.take-held.ensures.me) c.admit-answer.ensures.journal (ap (λ m. m.0) c.settle.ensures.me))
