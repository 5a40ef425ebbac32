use Rattle.dp_show.proofs.ApartLaws as law
use Rattle.dp_show.proofs.laws.ends_apart.Goals as goal

pub returns : goal.returns
returns c =
    record { whole_or_inside = law.whole_or_inside; whole_or_bad = law.whole_or_bad; inside_or_bad = law.inside_or_bad }
