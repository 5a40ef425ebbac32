use Rattle.std.proofs.Common.{map, string_bytes}
use Rattle.dp_words.proofs.GivenLaws.{given_of, never_none}
use Rattle.dp_words.proofs.words.command_in.Goals as goal

pub command_named-requires : goal.command_named-requires
command_named-requires c = record {
  given = given_of (map string_bytes c.args.words.now) c.args.matches.now c.requires.rows c.in-Some.name.now _
      c.in-Some.ensures.name c.in-Some.ensures.rows;
}

pub returns-in-None-clause-none : goal.returns-in-None-clause-none
returns-in-None-clause-none c = λ task asks.
    never_none (map string_bytes c.args.words.now) c.args.matches.now c.requires.rows c.in-None.ensures.name
