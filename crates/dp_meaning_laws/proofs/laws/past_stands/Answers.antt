use Rattle.dp_meaning_laws.proofs.PastLaws as law
use Rattle.dp_meaning_laws.proofs.laws.past_stands.Goals as goal

pub returns : goal.returns
returns c = record { moments = law.past_stands; end = law.past_ends }
