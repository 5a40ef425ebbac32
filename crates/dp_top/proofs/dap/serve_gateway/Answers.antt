use Rattle.dp_dap.specs.Known.{opening}
use Rattle.std.proofs.Common.{sym, ap, ◌∙◌}
use Rattle.dp_words.specs.Commands.{invocation_seen}
use Rattle.dp_top.proofs.DapLaws.{gateway_told, good_gateway, small_gateway}
use Rattle.dp_top.proofs.dap.serve_gateway.Goals as goal

pub serve_dap-served-requires : goal.serve_dap-served-requires
serve_dap-served-requires g c = record {
  opening = c.in-Ok.ensures ∙ ap (λ k. opening k.session.bundle k.session.bound) (sym c.in-Ok.ensures);
}

pub returns-in-Ok-clause-ends : goal.returns-in-Ok-clause-ends
returns-in-Ok-clause-ends g c =
    let serves = c.serve_dap-served.ensures.serves in
    gateway_told (invocation_seen c.args.program) c.serve_dap-served.result c.args.bundle.now _ _ _ c.judge.result
    c.judge.ensures (rw c.in-Ok.ensures at serves)

pub returns-in-Ok-clause-status : goal.returns-in-Ok-clause-status
returns-in-Ok-clause-status g c =
    let serves = c.serve_dap-served.ensures.serves in
    small_gateway (invocation_seen c.args.program) c.serve_dap-served.result c.args.bundle.now _ _ _ c.judge.result
    c.judge.ensures (rw c.in-Ok.ensures at serves)

pub returns-in-Ok-clause-held : goal.returns-in-Ok-clause-held
returns-in-Ok-clause-held g c = λ made before after.
    good_gateway (invocation_seen c.args.program) c.serve_dap-served.result c.judge.result c.judge.ensures
