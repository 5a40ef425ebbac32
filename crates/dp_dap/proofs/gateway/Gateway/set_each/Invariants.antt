use Rattle.std.proofs.Common.{◌≡◌, ◌++◌, drop, map}
use Rattle.serde_json.specs.View.{view}
use Rattle.dp_dap.specs.Answers as spec
use Rattle.dp_dap.proofs.gateway.Gateway.set_each.Given as goal

abbrev pub invariant-loop-one : goal.invariant-loop-one
invariant-loop-one g l = record {
  told :
      map view l.told.items ++ (spec.set_all l.path (drop l.one-index l.asked) l.self).0
      ≡ (spec.set_all l.path l.asked l.fn.self).0;
  known :
      (spec.set_all l.path (drop l.one-index l.asked) l.self).1
      ≡ (spec.set_all l.path l.asked l.fn.self).1;
}
