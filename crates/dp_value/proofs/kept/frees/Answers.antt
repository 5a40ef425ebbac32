use Rattle.std.proofs.Common.{◌≡◌, length, arith}
use Rattle.dp_value.specs.inner.Left.{left}
use Rattle.dp_value.proofs.LeftLemmas.{left-freed}
use Rattle.dp_value.proofs.kept.frees.Goals.{After-lacks-2}
use Rattle.dp_value.proofs.kept.frees.Goals as goal

freed : (c : After-lacks-2)
    → (left c.args.start c.args.gone c.swap_remove_index.new.self.keys
    ≡ left c.args.start c.args.gone c.args.keys.now.keys)
    × (length c.swap_remove_index.new.self.keys ≡ length c.args.keys.now.keys)
freed c =
    left-freed c.args.start c.args.gone c.in-Some.row c.args.keys.now.keys c.swap_remove_index.new.self.keys
    c.spare-other.result c.swap_remove_index.result (omega (arith, c.if-row-start.false))
    (omega (arith, c.if-start-gone.false)) c.requires
    (rw c.in-Ok.ensures.ok at c.swap_remove_index.ensures.key)
    (rw c.in-Ok.ensures.ok at c.swap_remove_index.ensures.keys)

pub returns-clause-left : goal.returns-clause-left
returns-clause-left c = (freed c).0

pub returns-clause-same_length : goal.returns-clause-same_length
returns-clause-same_length c = (freed c).1
