use Rattle.dp_proxy_laws.proofs.PlainLaws.{plainly}
use Rattle.dp_proxy_laws.proofs.laws.in_plain_words.Goals as goal

pub returns : goal.returns
returns g c = λ key pass acts each good. plainly (g.A.Engines.known c.args.engines.now) key pass acts each good
