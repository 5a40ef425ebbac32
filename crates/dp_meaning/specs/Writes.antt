-- What writes from outside do with a state at a moment. One that fails changes nothing.
use Rattle.std.specs.Prelude.{ℕ, zero, suc, ◌-◌, false, nat_lt, nat_eq, if◌then◌else◌, List, [], ◌∷◌, length, Option, Some, None, Result, Ok, Err}
use Rattle.dp_tree.specs.declared.tree.Expression.{Expression}
use Rattle.dp_tree.specs.declared.bundle.Bundle.{Bundle}
use Rattle.dp_state.specs.declared.moments.FatalKind.{FatalKind}
use Rattle.dp_state.specs.declared.moments.Path.{Path}
use Rattle.dp_state.specs.declared.state.State.{State}
use Rattle.dp_state.specs.Places.{assigned, given_keys}
use Rattle.dp_state.specs.States.{counted, frame_limit, on_line}
use Rattle.dp_value.specs.declared.value.Value.{Value}
use Rattle.dp_meaning.specs.declared.writes.NumberedWrite.{NumberedWrite}
use Rattle.dp_meaning.specs.declared.writes.Write.{Write}
use Rattle.dp_meaning.specs.declared.writes.Write.TheVariants.{Place, Evaluate}
use Rattle.dp_meaning.specs.declared.writes.WriteAnswer.{WriteAnswer}
use Rattle.dp_meaning.specs.declared.writes.WriteAnswer.TheVariants as answer
use Rattle.dp_meaning.specs.declared.writes.WriteFault.{WriteFault}
use Rattle.dp_meaning.specs.declared.writes.WriteFault.TheVariants.{NoFrame, NoPlace}
use Rattle.dp_actions.specs.Expressions.{evaluation}
use Rattle.dp_meaning.specs.Programs.{setting_of}
use Rattle.dp_actions.specs.Run.{Run, Done, Over, At}
use Rattle.dp_actions.specs.Setting.{Setting}

-- ---- places

abbrev pub place_or_fault : Result State FatalKind → Result State WriteFault
place_or_fault (Ok s) = Ok s
place_or_fault (Err kind) = Err NoPlace

-- the context 0 is that of the frame at a level, the context 1 that of the lowest frame: the global
-- variables
abbrev pub in_context : ℕ → ℕ → Path → Value → State → Result State WriteFault
in_context zero level path value s =
    place_or_fault (assigned level path.name (given_keys path.keys) false value s)
in_context (suc zero) level path value s =
    place_or_fault (assigned (length s.frames - 1) path.name (given_keys path.keys) false value s)
in_context (suc (suc context)) level path value s = Err NoPlace

-- what a write of a place leaves
abbrev pub with_place : ℕ → ℕ → Path → Value → State → Result State WriteFault
with_place level context path value s =
    if nat_lt level (length s.frames) then in_context context level path value s else Err NoFrame

-- what a write of a place answers
abbrev pub place_answer : Result State WriteFault → WriteAnswer
place_answer (Ok s) = answer.Set
place_answer (Err NoFrame) = answer.NoFrame
place_answer (Err NoPlace) = answer.NoPlace

-- ---- evaluations

-- how many moments an evaluation may have
abbrev pub evaluation_limit : ℕ
evaluation_limit = 10000

-- a moment comes: its line is that of the top frame, and it is counted
abbrev pub arrived : ℕ → State → State
arrived line s = counted (on_line line s)

-- a run by itself, at whose moments nothing is written: what it gives, unless it ends the program
-- or passes the bound
abbrev pub alone : {A : Type 0} → ℕ → Run A → Option (A × State)
alone bound (Done a s) = Some (a, s)
alone bound (Over outcome s) = None
alone bound (At kind line s go) =
    if nat_lt s.moments bound then alone bound (go (arrived line s)) else None

-- with the number of moments of before
abbrev pub recounted : ℕ → Option (Value × State) → Option (Value × State)
recounted moments None = None
recounted moments (Some end) = Some (end.0, record end.1 { moments = moments })

-- an evaluation in the top frame: its value and what it leaves, where it holds. Its moments are
-- counted apart
abbrev pub evaluated : Setting → Expression → State → Option (Value × State)
evaluated setting e s =
    recounted s.moments (alone evaluation_limit (evaluation e setting (record s { moments = 0 })))

-- what an evaluation answers
abbrev pub value_answer : Option (Value × State) → WriteAnswer
value_answer None = answer.Fatal
value_answer (Some end) = answer.Value end.0

-- ---- the writes of a moment

-- what evaluations go by
abbrev pub evaluation_setting : Bundle → Setting
evaluation_setting bundle = setting_of bundle evaluation_limit frame_limit

abbrev pub or_unchanged : State → Result State WriteFault → State
or_unchanged s (Ok t) = t
or_unchanged s (Err fault) = s

abbrev pub left_by : State → Option (Value × State) → State
left_by s None = s
left_by s (Some end) = end.1

abbrev pub one_write : Setting → Write → State → State
one_write setting (Place level context path value) s =
    or_unchanged s (with_place level context path value s)
one_write setting (Evaluate e) s = left_by s (evaluated setting e s)

-- what one write answers in a state
abbrev pub answer_in : Setting → Write → State → WriteAnswer
answer_in setting (Place level context path value) s =
    place_answer (with_place level context path value s)
answer_in setting (Evaluate e) s = value_answer (evaluated setting e s)

-- the writes of a number, in their order
abbrev pub of_number : ℕ → List NumberedWrite → List NumberedWrite
of_number n [] = []
of_number n (w ∷ ws) = if nat_eq w.moment n then w ∷ of_number n ws else of_number n ws

abbrev pub written_by : Setting → List NumberedWrite → ℕ → State → State
written_by setting [] n s = s
written_by setting (w ∷ ws) n s =
    written_by setting ws n (if nat_eq w.moment n then one_write setting w.write s else s)

-- numbered writes, and what their evaluations go by
pub record Writes : Type 0 where
  pub setting : Setting
  pub list : List NumberedWrite

-- the state after the writes of a number, in their order
abbrev pub written : Writes → ℕ → State → State
written writes n s = written_by writes.setting writes.list n s

abbrev pub writes_of : Bundle → List NumberedWrite → Writes
writes_of bundle list = record { setting = evaluation_setting bundle; list = list }
