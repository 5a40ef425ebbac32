use Rattle.std.proofs.Common.{Ok, ap, sym, ◌∙◌, option_map}
use Rattle.serde_json.specs.View.{view}
use Rattle.dp_command.specs.Canonical.{canonical}
use Rattle.dp_engine.specs.Answers.{Turn, turn}
use Rattle.dp_engine.specs.Session.{State}
use Rattle.dp_dap.specs.Known.{Known}
use Rattle.dp_dap_messages.specs.Lines.{finish_line}
use Rattle.dp_dap.proofs.gateway.Gateway.close.Goals as goal

pub returns : goal.returns
returns g c =
    let old : Known = c.args.self.now in
    let told =
    c.in_ok-report.ensures.ok
    ∙ (ap (turn c.self.inside.session) (c.as_slice.ensures ∙ c.in_ok-line.ensures.text)
    ∙ ap (λ (k : Known). turn k.session (canonical (finish_line c.args.detaches))) c.self.view_is) in
    let next =
    ap (λ (s : State). record old { session = s }) (sym (ap (λ (t : Turn). t.next) told))
    ∙ ap (λ (k : Known). record k { session = c.tell.new.self }) (sym c.self.view_is) in
    let bare = c.bare-effect.ensures in
    ap Ok (λ i. record {
      body = sym (ap (option_map view) bare.is_body) i;
      written = sym bare.written i;
      news = sym bare.is_news i;
      next = next i;
      ended = (sym told i).ended;
    })
