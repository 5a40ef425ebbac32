use Rattle.std.proofs.Common.{refl, ap, option_map}
use Rattle.serde_json.specs.View.{view}
use Rattle.dp_dap.proofs.EffectLaws.{gone_is}
use Rattle.dp_dap.proofs.gateway.Gateway.go_on.Goals as goal

pub returns : goal.returns
returns g c =
    gone_is c.args.mode c.args.reason (option_map view c.args.body) c.in_ok-written.written c.in_ok-news.news
    c.args.self.now c.advance.new.self c.settle.new.self _ c.in_ok-written.ensures c.in_ok-news.ensures
    (ap (option_map view) c.bare-effect.ensures.is_body) refl refl c.bare-effect.ensures.goes_on
