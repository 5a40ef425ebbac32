use Rattle.std.proofs.Common.{◌≡◌, drop}
use Rattle.dp_dap.specs.Answers as spec
use Rattle.dp_dap.proofs.gateway.remove_all.Given as goal

abbrev pub invariant-loop-one : goal.invariant-loop-one
invariant-loop-one g l =
    spec.removed l.path (drop l.one-index l.kept) l.session ≡ spec.removed l.path l.kept l.fn.session
