use Rattle.std.proofs.Common.{◌≡◌, ◌≤◌, ℕ, List, take, sym, subst}
use Rattle.dp_state.specs.declared.state.Frame.{Frame}
use Rattle.dp_state.specs.States.{owner as owner_of}
use Rattle.dp_state.proofs.Owners.{kept-found, kept-missing, owner_within}
use Rattle.dp_state.proofs.state.Frames.owner.Goals as goal

pub returns-in-Some-clause-owner : goal.returns-in-Some-clause-owner
returns-in-Some-clause-owner c =
    let read = rw c.deref.ensures.value at c.in-Some.ensures.lookup in
    subst (λ (fs : List Frame). c.in-Some.owner.now ≡ owner_of fs c.args.at) c.self.view_is
    (kept-found (take c.self.inside.live c.self.inside.frames.items) c.self.inside.owners.items
    c.self.invariant.1 c.args.at c.in-Some.owner.now read.3.0 read.1)

pub returns-in-Some-clause-within : goal.returns-in-Some-clause-within
returns-in-Some-clause-within c =
    let read = rw c.deref.ensures.value at c.in-Some.ensures.lookup in
    let fs : List Frame = take c.self.inside.live c.self.inside.frames.items in
    subst (λ (n : ℕ). n ≤ c.args.at) (sym (kept-found fs c.self.inside.owners.items c.self.invariant.1 c.args.at
    c.in-Some.owner.now read.3.0 read.1)) (owner_within fs c.args.at)

pub returns-in-None-clause-owner : goal.returns-in-None-clause-owner
returns-in-None-clause-owner c =
    let read = rw c.deref.ensures.value at c.in-None.ensures.lookup in
    subst (λ (fs : List Frame). c.args.at ≡ owner_of fs c.args.at) c.self.view_is
    (kept-missing (take c.self.inside.live c.self.inside.frames.items) c.self.inside.owners.items
    c.self.invariant.1 c.args.at read.3)
