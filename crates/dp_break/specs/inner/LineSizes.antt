-- Lines that are listed, by their sizes.
use Rattle.std.specs.Prelude.{ℕ, ◌-◌, nat_le, if◌then◌else◌, List, [], ◌∷◌, length}
use Rattle.dp_markup.specs.Texts.{node_text}
use Rattle.dp_packet.specs.Breakpoints.{breakpoint_node}
use Rattle.dp_packet.specs.declared.packet.BreakLine.{BreakLine}

abbrev pub line_size : BreakLine → ℕ
line_size line = length (node_text (breakpoint_node line))

-- the first of these lines, up to the one for which there is no room
abbrev pub fitting : ℕ → List BreakLine → List BreakLine
fitting room [] = []
fitting room (line ∷ more) =
    if nat_le (line_size line) room then line ∷ fitting (room - line_size line) more else []
