use Rattle.dp_expressions.proofs.LongestReads.{part_reads, place_reads}
use Rattle.dp_expressions.proofs.laws.reads_the_grammar.Goals as goal

pub returns-clause-expressions : goal.returns-clause-expressions
returns-clause-expressions c = part_reads

pub returns-clause-places : goal.returns-clause-places
returns-clause-places c = place_reads
