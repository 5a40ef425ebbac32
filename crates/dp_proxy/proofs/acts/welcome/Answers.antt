use Rattle.std.proofs.Common.{◌∙◌}
use Rattle.dp_lanes.specs.declared.lane.LaneKind.TheVariants.{Up, Down}
use Rattle.dp_proxy.specs.declared.events.Effect.TheVariants.{Admitted}
use Rattle.dp_proxy.specs.declared.kept.Kept.TheVariants as keep
use Rattle.std.proofs.Common.{Some, Ok}
use Rattle.dp_proxy.proofs.ActLaws.{fresh_follows}
use Rattle.dp_proxy.proofs.acts.welcome.Goals as goal

pub returns : goal.returns
returns c =
    let host = c.in_ok-host.ensures ∙ c.as_slice.ensures in
    record {
      up = c.new-up.result;
      down = c.new-down.result;
      packets = fresh_follows Up c.new-up.result c.new-up.ensures.kind c.new-up.ensures.held c.new-up.ensures.dropped;
      commands =
          fresh_follows Down c.new-down.result c.new-down.ensures.kind c.new-down.ensures.held
          c.new-down.ensures.dropped;
      is = λ i. record {
        kept = Some (keep.Joined c.args.pass c.new-up.result c.new-down.result);
        answer = Ok (Admitted c.args.pass.session (host i) c.args.pass.port);
      };
    }
