-- The change that a breakpoint_update command asks for, and why it is refused: DBGp 1.0,
-- "breakpoint_update". Which case has which code, and their order, are this engine's own.
use Rattle.std.specs.Prelude.{◌&&◌, List, [], ◌∷◌, is_some}
use Rattle.dp_break.specs.Hits.{is_of_function}
use Rattle.dp_break.specs.declared.breakpoint.BreakChange.{BreakChange}
use Rattle.dp_command.specs.declared.command.BreakpointUpdate.{BreakpointUpdate}
use Rattle.dp_packet.specs.declared.error_codes.ErrorCode.TheVariants.{InvalidOptions, InvalidBreakpointState}
use Rattle.dp_packet.specs.declared.packet.BreakKind.{BreakKind}
use Rattle.dp_command.specs.Tests.{Test}
use Rattle.dp_break.specs.Words.{rule_named, state_named, has_no_meaning, meant}

-- the tests of a change of a breakpoint of this kind, in their order
abbrev pub change_tests : BreakKind → BreakpointUpdate → List Test
change_tests kind update =
    (is_of_function kind && is_some update.line, InvalidOptions)
    ∷ (has_no_meaning rule_named update.hit_rule, InvalidOptions)
    ∷ (has_no_meaning state_named update.state, InvalidBreakpointState)
    ∷ []

-- what is to change
abbrev pub change : BreakpointUpdate → BreakChange
change update = record {
  enabled = meant state_named update.state;
  line = update.line;
  hit_value = update.hit_value;
  hit_rule = meant rule_named update.hit_rule;
}
