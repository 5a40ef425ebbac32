use Rattle.std.proofs.Common.{refl, w64, ap, ◌∙◌}
use Rattle.std.proofs.lemmas.Int.{to_z-of_z}
use Rattle.dp_state.specs.inner.Parts.{with_sum}
use Rattle.dp_state.specs.Variables.{Variables, slot_of, sum_in}
use Rattle.dp_state.proofs.Homes.{top-changed, top-summed, top-vars}
use Rattle.dp_state.proofs.state.State.add.Goals as goal

pub returns-clause-sum : goal.returns-clause-sum
returns-clause-sum c =
    (rw (to_z-of_z w64 c.args.by c.ranges.by) at c.add.ensures.sum)
    ∙ ap (λ (vs : Variables). sum_in c.args.by (slot_of vs c.args.name.now))
    (top-vars c.owner_at-at.result c.args.self.now c.own_mut.result.now c.owner_at-at.ensures.owner
    c.own_mut.ensures.value)

pub returns-clause-added : goal.returns-clause-added
returns-clause-added c =
    top-changed c.owner_at-at.result c.args.self.now c.own_mut.result.now c.owner_at-at.ensures.owner
    c.own_mut.ensures.value _ c.add.new.self (with_sum c.args.name.now c.add.result) refl c.add.ensures.added
    ∙ top-summed c.owner_at-at.result c.args.self.now c.owner_at-at.ensures.owner c.owner_at-at.ensures.within
    c.args.name.now c.add.result
