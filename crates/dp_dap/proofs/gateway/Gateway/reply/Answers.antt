use Rattle.std.proofs.Common.{subst, ◌∙◌}
use Rattle.std.proofs.lemmas.Result.{IfOk-weaker}
use Rattle.dp_bodies.specs.Requests.{request_seen}
use Rattle.dp_dap.specs.declared.effects.Unanswered.{Unanswered}
use Rattle.dp_dap.specs.declared.effects.Unanswered.TheVariants.{Refused}
use Rattle.dp_dap.specs.Answers.{tried}
use Rattle.dp_dap.specs.inner.Effects.{Refuses, effect_of}
use Rattle.dp_dap.proofs.FloatLaws.{body_free}
use Rattle.dp_dap.proofs.SentLaws.{answered_so, refused_so}
use Rattle.dp_dap.proofs.gateway.Gateway.reply.Goals as goal

pub tell-requires-clause-no_float : goal.tell-requires-clause-no_float
tell-requires-clause-no_float g c =
    body_free (request_seen c.args.request.now) c.args.self.now
    (effect_of c.in-Ok.effect c.try_request.new.self) c.in-Ok.ensures.ok

pub returns-in-Ok : goal.returns-in-Ok
returns-in-Ok g c =
    let effect = effect_of c.in-Ok.effect c.try_request.new.self in
    IfOk-weaker c.tell.result _ _
    (λ answer is. answered_so (request_seen c.args.request.now) c.args.self.now effect c.in-Ok.ensures.ok ∙ is)
    c.tell.ensures

pub returns-in-Err-Refused : goal.returns-in-Err-Refused
returns-in-Err-Refused g c =
    let request = request_seen c.args.request.now in
    let old = c.args.self.now in
    let new = c.try_request.new.self in
    let why : Refuses (tried request old) (Refused c.in-Err-Refused.why) old new =
    subst (λ (u : Unanswered). Refuses (tried request old) u old new) c.in-Err-Refused.field-0-is
    c.in-Err-Refused.ensures.refused in
    IfOk-weaker c.turn_down.result _ _
    (λ answer is. refused_so request old new c.in-Err-Refused.why why.0 why.1 ∙ is)
    c.turn_down.ensures
