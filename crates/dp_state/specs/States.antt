-- States of a program: of which bundle they are, where a program begins, whose variables a frame
-- uses, and what a step leaves.
use Rattle.std.specs.Prelude.{◌≡◌, ℕ, ◌+◌, ◌-◌, ◌<◌, ◌==◌, nat_le, false, if◌then◌else◌, List, [], ◌∷◌, ◌++◌, length, take, All, Option, slice_get, Result, Ok, Err, ⊤}
use Rattle.std.specs.Option.{option_map_or}
use Rattle.dp_tree.specs.declared.bundle.Bundle.{Bundle}
use Rattle.dp_tree.specs.Files.{function_count, functions_of}
use Rattle.dp_state.specs.declared.moments.FatalKind.{FatalKind}
use Rattle.dp_state.specs.declared.moments.FatalKind.TheVariants.{TooDeep, OutputFull}
use Rattle.dp_state.specs.declared.state.Fault.{Fault}
use Rattle.dp_state.specs.declared.state.Fault.TheVariants as fault
use Rattle.dp_state.specs.declared.state.Frame.{Frame}
use Rattle.dp_state.specs.declared.state.FrameKind.TheVariants as frame_kind
use Rattle.dp_state.specs.declared.state.State.{State}
use Rattle.dp_state.specs.declared.vars.Slot.{Slot}
use Rattle.dp_state.specs.declared.vars.Slot.TheVariants.{Held, Bound}
pub use Rattle.dp_state.specs.Sharing.{shares_at, owner}
use Rattle.dp_state.specs.Variables.{Variables, value_in}
use Rattle.dp_value.specs.declared.value.Value.{Value}

-- the most frames, the main one counted
abbrev pub frame_limit : ℕ
frame_limit = 1000

-- the most bytes that a program may write
abbrev pub output_limit : ℕ
output_limit = 16777216

-- ---- a state of a bundle

abbrev pub HasValue : Slot → Type 0
HasValue (Held value) = ⊤
HasValue Bound = ⊥

-- Its lowest frame is the main one and does not share, each global variable and each constant has a
-- value of its own, and each frame and each declared function has its place in the bundle.
pub record IsOf (bundle : Bundle) (s : State) : Type 0 where
  pub main : Frame
  pub above : List Frame
  pub frames : s.frames ≡ main ∷ above
  pub lowest : main.kind ≡ frame_kind.Main
  pub apart : main.shares ≡ false
  pub globals : All (λ variable. HasValue variable.1) s.globals
  pub constants : All (λ constant. HasValue constant.1) s.constants
  pub files : All (λ frame. frame.file < length bundle.files) s.frames
  pub declared : All (λ f. f.function < function_count bundle f.file) s.declared

-- the frame of the main file, on line 1
abbrev pub first_frame : Frame
first_frame = record { kind = frame_kind.Main; file = 0; line = 1; shares = false; vars = [] }

-- where a program begins: in the main file, whose functions are declared
abbrev pub opening : Bundle → State
opening bundle = record {
  frames = first_frame ∷ [];
  globals = [];
  constants = [];
  declared = functions_of bundle 0;
  output = [];
  moments = 0;
}

-- ---- the variables of a frame

-- the own variables of the frame at this position; those of the lowest are the global ones
abbrev pub own_variables : State → ℕ → Variables
own_variables s at =
    if at == 0 then s.globals else option_map_or (λ f. f.vars) (slice_get s.frames at) s.globals

-- the position of a level: level 0 is the top frame
abbrev pub position_of : State → ℕ → ℕ
position_of s level = length s.frames - 1 - level

-- the position of the frame whose variables the frame at this level uses: 0 where they are the
-- global ones
abbrev pub owner_at : State → ℕ → ℕ
owner_at s level = owner s.frames (position_of s level)

-- the variables that the frame at this level uses
abbrev pub variables_at : State → ℕ → Variables
variables_at s level = own_variables s (owner_at s level)

-- the value of a variable at a level; one that is bound has that of the global variable
abbrev pub read_at : State → ℕ → List ℕ → Option Value
read_at s level name = value_in s.globals (variables_at s level) name

-- the value of a variable of the top frame
abbrev pub read : State → List ℕ → Option Value
read s name = read_at s 0 name

-- ---- the top frame

abbrev pub top_frame : State → Option Frame
top_frame s = slice_get s.frames (length s.frames - 1)

-- the number of its file
abbrev pub file_of : State → ℕ
file_of s = option_map_or (λ f. f.file) (top_frame s) 0

abbrev pub line_of : State → ℕ
line_of s = option_map_or (λ f. f.line) (top_frame s) 0

-- ---- steps

-- with a line for the top frame
abbrev pub with_line : ℕ → List Frame → List Frame
with_line line [] = []
with_line line (f ∷ []) = (record f { line = line }) ∷ []
with_line line (f ∷ g ∷ fs) = f ∷ with_line line (g ∷ fs)

abbrev pub on_line : ℕ → State → State
on_line line s = record s { frames = with_line line s.frames }

-- with one moment more
abbrev pub counted : State → State
counted s = record s { moments = s.moments + 1 }

-- with a piece behind what was written
abbrev pub printed : List ℕ → State → Result State FatalKind
printed piece s =
    if nat_le (length s.output + length piece) output_limit
    then Ok (record s { output = s.output ++ piece }) else Err OutputFull

-- with a new top frame
abbrev pub entered : Frame → State → Result State FatalKind
entered frame s =
    if nat_le (length s.frames + 1) frame_limit
    then Ok (record s { frames = s.frames ++ frame ∷ [] }) else Err TooDeep

-- without the top frame
abbrev pub left : State → State
left s = record s { frames = take (length s.frames - 1) s.frames }

-- why a step is not made: as it is asked, or out of memory
abbrev pub IsCause : Result State FatalKind → Fault → Type 0
IsCause asked fault.Memory = ⊤
IsCause asked (fault.Fatal kind) = asked ≡ Err kind

-- a step that is refused by what is asked is refused so, whatever memory there is
abbrev pub IsSure : {A : Type 0} → Result State FatalKind → Result A Fault → Type 0
IsSure asked result = (kind : FatalKind) → asked ≡ Err kind → result ≡ Err (fault.Fatal kind)

-- refused, and not because memory ran out
abbrev pub IsFatal : {A : Type 0} → Result A Fault → Type 0
IsFatal (Ok done) = ⊥
IsFatal (Err fault.Memory) = ⊥
IsFatal (Err (fault.Fatal kind)) = ⊤
