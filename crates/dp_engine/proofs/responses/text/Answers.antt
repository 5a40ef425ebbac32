use Rattle.dp_engine.proofs.SentPackets.{response_fits, response_text_is}
use Rattle.dp_engine.proofs.responses.text.Goals as goal

pub returns-clause-value : goal.returns-clause-value
returns-clause-value c = response_text_is c.args.response c.text_of.result c.text_of.ensures

pub returns-clause-is_text : goal.returns-clause-is_text
returns-clause-is_text c = response_fits c.args.response c.text_of.result c.requires (returns-clause-value c)
