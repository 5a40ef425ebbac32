use Rattle.std.proofs.Common.{◌∙◌, ap, sym}
use Rattle.std.specs.Prelude.{option_map}
use Rattle.dp_break.specs.Tables.{IsSound}
use Rattle.dp_break.proofs.Lookups.{found_all}
use Rattle.dp_break.proofs.notices.notice.Goals as goal

pub resolved_notice-requires-clause-sound : goal.resolved_notice-requires-clause-sound
resolved_notice-requires-clause-sound c =
    found_all c.args.id IsSound c.args.breaks.now.held c.in-Some.breakpoint.now c.get.ensures.table.sound
    (sym c.get.ensures.found ∙ ap (option_map (λ b. b.now)) c.in-Some.is)
