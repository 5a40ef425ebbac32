use Rattle.std.proofs.Common.{List, ℕ, sym, ap, ◌∙◌, subst}
use Rattle.dp_registry.specs.Verdicts.{reply_of}
use Rattle.dp_desk.specs.Desks.{Called}
use Rattle.dp_proxy.specs.declared.calls.Call.{Call}
use Rattle.dp_proxy.specs.declared.calls.Call.TheVariants.{Register, Stop}
use Rattle.dp_proxy.specs.Replies.{verdict_on, entry_of}
use Rattle.dp_relay.proofs.registrations.make_call.Goals as goal

pub returns-in-Register : goal.returns-in-Register
returns-in-Register g c =
    subst (λ (call : Call). Called c.args.clerk.now c.register.new.clerk (λ at. verdict_on at c.args.host.now call)
    (entry_of c.args.host.now call) reply_of c.register.result)
    (ap (λ (k : List ℕ). Register c.in-Register.port k c.in-Register.multiple) c.as_slice.ensures
    ∙ sym c.in-Register.is)
    c.register.ensures

pub returns-in-Stop : goal.returns-in-Stop
returns-in-Stop g c =
    subst (λ (call : Call). Called c.args.clerk.now c.stop.new.clerk (λ at. verdict_on at c.args.host.now call)
    (entry_of c.args.host.now call) reply_of c.stop.result)
    (ap Stop c.as_slice-in-Stop.ensures ∙ sym c.in-Stop.is)
    c.stop.ensures
