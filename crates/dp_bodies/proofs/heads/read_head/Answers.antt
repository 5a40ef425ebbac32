use Rattle.std.proofs.Common.{ℕ, ◌++◌, List, sym, ap, ◌∙◌, subst}
use Rattle.dp_bodies.specs.Frames.{length_name}
use Rattle.dp_bodies.specs.inner.Heads.{IsHead}
use Rattle.dp_bodies.proofs.HeadLaws.{to_end, name_front, name_bad}
use Rattle.dp_bodies.proofs.heads.read_head.Goals as goal

pub returns-in-Front : goal.returns-in-Front
returns-in-Front c = name_front c.args.bytes.now c.in-Front.ensures

pub returns-in-Differs : goal.returns-in-Differs
returns-in-Differs c = name_bad c.args.bytes.now c.in-Differs.index c.in-Differs.ensures

pub returns-in-Whole : goal.returns-in-Whole
returns-in-Whole c =
    subst (λ (b : List ℕ). IsHead b c.read_length.result)
    (ap (λ l. length_name ++ l) (to_end 16 c.args.bytes.now) ∙ sym c.in-Whole.ensures) c.read_length.ensures
