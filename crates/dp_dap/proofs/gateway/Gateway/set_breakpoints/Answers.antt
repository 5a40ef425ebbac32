use Rattle.dp_dap.proofs.EffectLaws.{set_are}
use Rattle.dp_dap.proofs.gateway.Gateway.set_breakpoints.Goals as goal

pub returns : goal.returns
returns g c =
    set_are c.args.path c.args.asked c.args.self.now c.clear_breakpoints.new.self c.set_each.new.self
    c.in_ok-told.told.items c.bare.result c.in_ok-body.body
    (rw c.as_slice.ensures at c.in_ok-clear_breakpoints.ensures)
    (rw (c.as_slice-2.ensures, c.as_slice-3.ensures) at c.in_ok-told.ensures) c.bare.ensures c.in_ok-body.ensures
