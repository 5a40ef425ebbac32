use Rattle.std.proofs.Common.{Some, Contains, ap, sym, ◌∙◌, subst, arith}
use Rattle.std.proofs.lemmas.Option.{same_Some}
use Rattle.dp_registry.specs.declared.entry.Entry.TheVariants.{Dismiss}
use Rattle.dp_desk.specs.Desks.{Known}
use Rattle.dp_desk.proofs.Times.{is_there, is_counted}
use Rattle.dp_desk.proofs.Entered.{grown, entered}
use Rattle.dp_desk.proofs.desk.Desk.dismiss.Goals as goal

pub dismiss-requires : goal.dismiss-requires
dismiss-requires g c =
    let mine = subst (λ (k : Known). Contains k.held c.args.pass.session) (sym c.clerk.view_is) c.requires.held in
    let some = is_counted c.args.pass.session c.clerk.inside.seat.me.0.held mine in
    let part = c.take-held.ensures.live c.args.pass.session in
    is_there c.args.pass.session _ (omega arith)

pub settle-requires-clause-grown : goal.settle-requires-clause-grown
settle-requires-clause-grown g c =
    let mine = subst (λ (k : Known). Contains k.held c.args.pass.session) (sym c.clerk.view_is) c.requires.held in
    grown _ c.take-held.result.registry _ _ Dismiss (Some c.args.pass.session) c.dismiss.ensures.journal
    (sym (ap (λ m. m.0.seen) c.take-held.ensures.me))
    (λ s e. subst (λ m. Contains m.0.held s) (sym c.take-held.ensures.me)
    (subst (λ n. Contains c.clerk.inside.seat.me.0.held n) (same_Some c.args.pass.session s e) mine))

pub returns : goal.returns
returns g c =
    let t = c.take-held.ensures in
    let n = c.settle.ensures in
    let a = c.dismiss.ensures in
    rw (← c.clerk.view_is) record {
      at = c.take-held.result.registry;
      entered = entered c.clerk.inside.seat.me.0 c.take-held.new.seat.me.0 c.settle.new.seat.me.0
          c.take-held.result.registry c.dismiss.new.self.registry Dismiss (Some c.args.pass.session) _ _ _ _
          (n.desk ∙ t.desk) t.seen (ap (λ m. m.0) t.me) a.journal (ap (λ m. m.0) n.me) n.legal a.made;
    }
