use Rattle.std.proofs.Common.{ap, ◌∙◌}
use Rattle.dp_command.specs.Canonical.{canonical}
use Rattle.dp_engine.specs.Answers.{Turn, turn}
use Rattle.dp_engine.specs.Session.{State}
use Rattle.dp_dap.specs.Known.{Known}
use Rattle.dp_dap_messages.specs.Lines.{feature_line}
use Rattle.dp_dap.proofs.gateway.Gateway.set_feature.Goals as goal

pub returns : goal.returns
returns g c =
    let old : Known = c.args.self.now in
    let told =
    c.in_ok-tell.ensures.ok
    ∙ (ap (turn c.self.inside.session) (c.as_slice.ensures ∙ c.in_ok-line.ensures)
    ∙ ap (λ (k : Known). turn k.session (canonical (feature_line c.args.feature.now))) c.self.view_is) in
    ap (λ (k : Known). record k { session = c.tell.new.self }) c.self.view_is
    ∙ ap (λ (s : State). record old { session = s }) (ap (λ (t : Turn). t.next) told)
