-- What the words of a breakpoint_set command mean.
use Rattle.std.specs.Prelude.{unwrap_or}
use Rattle.dp_command.specs.declared.command.BreakpointSet.{BreakpointSet}
use Rattle.dp_packet.specs.declared.packet.BreakKind.TheVariants.{Line}
use Rattle.dp_break.specs.declared.request.Words.{Words}
use Rattle.dp_break.specs.Words.{kind_named, rule_named, state_named, flag_named, number_in, meant}

-- what the words of a command mean
abbrev pub words : BreakpointSet → Words
words set = record {
  kind = unwrap_or (kind_named set.kind) Line;
  line = meant number_in set.line;
  hit_rule = meant rule_named set.hit_rule;
  temporary = meant flag_named set.temporary;
  enabled = meant state_named set.state;
}
