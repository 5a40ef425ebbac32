use Rattle.dp_engine.proofs.RefusalLaws as law
use Rattle.dp_session_laws.proofs.laws.refused_exactly.Goals as goal

pub returns : goal.returns
returns c = λ state bytes. law.refused_exactly state bytes
