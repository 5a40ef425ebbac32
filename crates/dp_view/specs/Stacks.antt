-- The stack: DBGp 1.0, "stack_get". Level 0 is the top frame.
use Rattle.std.specs.Prelude.{ℕ, suc, List, [], ◌∷◌, reverse, codes, Option, Some, None, option_map, ok_or, slice_get, Result, Ok}
use Rattle.std.specs.Option.{option_map_or}
use Rattle.dp_tree.specs.declared.bundle.Bundle.{Bundle}
use Rattle.dp_packet.specs.declared.error_codes.ErrorCode.{ErrorCode}
use Rattle.dp_packet.specs.declared.error_codes.ErrorCode.TheVariants.{StackDepthInvalid}
use Rattle.dp_packet.specs.declared.packet.StackLine.{StackLine}
use Rattle.dp_packet.specs.Uris.{file_uri}
use Rattle.dp_state.specs.declared.state.Frame.{Frame}
use Rattle.dp_state.specs.declared.state.FrameKind.{FrameKind}
use Rattle.dp_state.specs.declared.state.FrameKind.TheVariants as frame_kind
use Rattle.dp_state.specs.declared.state.State.{State}

-- where a frame is: the main file, a function by its name as declared, or an included file
abbrev pub place_of : FrameKind → List ℕ
place_of frame_kind.Main = codes "{main}"
place_of (frame_kind.Called name) = name
place_of frame_kind.Included = codes "include"

-- the name of a file of a bundle
abbrev pub file_name : Bundle → ℕ → List ℕ
file_name bundle file = option_map_or (λ f. f.name) (slice_get bundle.files file) []

-- the line of a frame at a level: its file, and the line of its last moment
abbrev pub stack_line : Bundle → ℕ → Frame → StackLine
stack_line bundle level frame = record {
  level = level;
  uri = file_uri (file_name bundle frame.file);
  line = frame.line;
  place = place_of frame.kind;
}

-- the lines of frames, of which the first is at this level
abbrev pub lines_from : Bundle → ℕ → List Frame → List StackLine
lines_from bundle level [] = []
lines_from bundle level (frame ∷ frames) =
    stack_line bundle level frame ∷ lines_from bundle (suc level) frames

-- the frames, the top one first
abbrev pub levels : State → List Frame
levels s = reverse s.frames

-- the whole stack, or the line of one level, or the code of a refusal: 301 where there is no such
-- level
abbrev pub stack_at : Bundle → State → Option ℕ → Result (List StackLine) ErrorCode
stack_at bundle s None = Ok (lines_from bundle 0 (levels s))
stack_at bundle s (Some level) =
    ok_or (option_map (λ frame. stack_line bundle level frame ∷ []) (slice_get (levels s) level))
    StackDepthInvalid
