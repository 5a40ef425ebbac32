use Rattle.std.proofs.Common.{ℕ, List, subst}
use Rattle.dp_bodies.specs.Frames.{head_end}
use Rattle.dp_bodies.specs.inner.Heads.{Agrees}
use Rattle.dp_bodies.specs.declared.heads.Agreement.TheVariants.{Whole, Front, Differs}
use Rattle.dp_bodies.proofs.HeadLaws.{to_end, end_front, end_bad, end_whole}
use Rattle.dp_bodies.proofs.heads.read_end.Goals as goal

pub returns-in-Front : goal.returns-in-Front
returns-in-Front c =
    end_front c.args.bytes.now c.args.end c.args.length c.requires.digits
    (subst (λ (b : List ℕ). Agrees b head_end Front) (to_end c.args.end c.args.bytes.now) c.in-Front.ensures)

pub returns-in-Differs : goal.returns-in-Differs
returns-in-Differs c =
    end_bad c.args.bytes.now c.args.end c.args.length c.requires.digits c.in-Differs.within
    (subst (λ (b : List ℕ). Agrees b head_end (Differs c.in-Differs.within)) (to_end c.args.end c.args.bytes.now)
    c.in-Differs.ensures)

pub returns-in-Whole : goal.returns-in-Whole
returns-in-Whole c =
    end_whole c.args.bytes.now c.args.end c.args.length c.requires.digits
    (subst (λ (b : List ℕ). Agrees b head_end Whole) (to_end c.args.end c.args.bytes.now) c.in-Whole.ensures)
