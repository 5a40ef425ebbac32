-- What becomes of a session's bytes: what each event hands out by those before it.
use Rattle.std.specs.Prelude.{ℕ, Bool, true, ◌||◌, if◌then◌else◌, List, [], ◌∷◌, ◌++◌}
use Rattle.std.specs.Prelude.{length, drop, flat_map, Option, Some, None, is_none}
use Rattle.dp_proxy.specs.declared.events.Act.{Act}
use Rattle.dp_proxy.specs.declared.events.Act.TheVariants.{Ide, Engine, Given, Moved, Closed}
use Rattle.dp_proxy.specs.declared.events.Effect.{Effect}
use Rattle.dp_proxy.specs.declared.events.Effect.TheVariants.{Nothing, ToEngine, ToIde}
use Rattle.dp_lanes.specs.declared.lane.LaneKind.{LaneKind}
use Rattle.dp_lanes.specs.declared.lane.LaneKind.TheVariants.{Up, Down}
use Rattle.dp_lanes.specs.Lanes.{frame, texts_in, is_bad}

-- the bytes that came in a lane: those read of the engine go up, those that the IDE gave go down
abbrev pub brought : LaneKind → Act → List ℕ
brought Up (Moved bytes) = bytes
brought Down (Given bytes) = bytes
brought kind other = []

abbrev pub stream : LaneKind → List Act → List ℕ
stream kind acts = flat_map (brought kind) acts

-- the texts whose frames the act completes, and what is handed out of them: their frames
abbrev pub completed : LaneKind → List Act → Act → List (List ℕ)
completed kind acts act =
    drop (length (texts_in kind (stream kind acts)))
    (texts_in kind (stream kind (acts ++ act ∷ [])))

abbrev pub handed : LaneKind → List Act → Act → List ℕ
handed kind acts act = flat_map (frame kind) (completed kind acts act)

-- in one of the lanes no frame begins the rest
abbrev pub is_broken : List Act → Bool
is_broken acts = is_bad Down (stream Down acts) || is_bad Up (stream Up acts)

-- what is handed out; where that is nothing and the link is broken, no effect but an end
abbrev pub effect_of : (List ℕ → Effect) → List ℕ → Bool → Option Effect
effect_of out [] broken = if broken then None else Some Nothing
effect_of out (byte ∷ bytes) broken = Some (out (byte ∷ bytes))

-- what an act leads to, after these
abbrev pub passed : List Act → Act → Option Effect
passed acts (Given bytes) =
    effect_of ToEngine (handed Down acts (Given bytes)) (is_broken (acts ++ Given bytes ∷ []))
passed acts (Moved bytes) =
    effect_of ToIde (handed Up acts (Moved bytes)) (is_broken (acts ++ Moved bytes ∷ []))
passed acts Closed = effect_of ToIde [] (is_broken acts)
passed acts (Ide host) = Some Nothing
passed acts (Engine key) = Some Nothing

-- the session ends with this act: the link closes, or it is broken and nothing is handed out
abbrev pub ends : List Act → Act → Bool
ends acts Closed = true
ends acts act = is_none (passed acts act)

-- ---- what all acts hand out

-- the bytes that an effect hands out in a lane
abbrev pub bytes_of : LaneKind → Option Effect → List ℕ
bytes_of Up (Some (ToIde frames)) = frames
bytes_of Down (Some (ToEngine commands)) = commands
bytes_of kind other = []

-- what these acts lead to in a lane, one after another, behind those before them
abbrev pub handed_behind : LaneKind → List Act → List Act → List ℕ
handed_behind kind before [] = []
handed_behind kind before (act ∷ acts) =
    bytes_of kind (passed before act) ++ handed_behind kind (before ++ act ∷ []) acts

-- all that is handed out in a lane
abbrev pub all_handed : LaneKind → List Act → List ℕ
all_handed kind acts = handed_behind kind [] acts
