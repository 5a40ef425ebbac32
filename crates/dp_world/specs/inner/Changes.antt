-- What one event changes of what is kept of its link.
use Rattle.std.specs.Prelude.{◌≡◌, ℕ, ◌+◌, ◌≤◌, ◌==◌, false, if◌then◌else◌, List, [], ◌∷◌, ◌++◌}
use Rattle.std.specs.Prelude.{length, take, drop, is_some, Option, Some, None}
use Rattle.std.specs.Map.{keys_of}
use Rattle.dp_wire.specs.Frames.{commands_in, rest_of}
use Rattle.dp_proxy.specs.declared.events.Act.{Act as ProxyAct}
use Rattle.dp_proxy.specs.declared.events.Effect.{Effect}
use Rattle.dp_proxy.specs.declared.events.Effect.TheVariants.{Nothing, Reply, Admitted, Turned}
use Rattle.dp_proxy.specs.declared.events.Effect.TheVariants.{ToEngine, ToIde}
use Rattle.dp_proxy.specs.Pasts.{Link}
use Rattle.dp_proxy.specs.Steps.{HasHost, ComesWithKey}
use Rattle.dp_world.specs.Alone.{Engines}
use Rattle.dp_world.specs.declared.engine.Engine.{Engine}
use Rattle.dp_world.specs.declared.shown.Shown.{Shown}
use Rattle.dp_world.specs.declared.shown.Shown.TheVariants.{Registration, Refused, Session}
use Rattle.dp_world.specs.inner.KeptLinks.{IsShownAt, kept_at}
use Rattle.dp_world.specs.inner.EngineStates.{Serves}

-- ---- what is read

-- no more was read of an engine than it has sent
abbrev pub IsReadable : {S E : Type 0} → Shown S E → Type 0
IsReadable (Session key host port engine) = engine.read ≤ length engine.sent.items
IsReadable kept = Unit {0}

abbrev pub IsReadableAt : {S E : Type 0} → Option (Shown S E) → Type 0
IsReadableAt None = Unit {0}
IsReadableAt (Some kept) = IsReadable kept

-- the next bytes are read of an engine, at most so many; nothing of what is none
abbrev pub Reads : {S E : Type 0} → Shown S E → ℕ → List ℕ → Shown S E → Type 0
Reads (Session key host port engine) count bytes after =
    (bytes ≡ take count (drop engine.read engine.sent.items))
    × (after ≡ Session key host port (record engine { read = engine.read + length bytes }))
Reads kept count bytes after = (bytes ≡ []) × (after ≡ kept)

abbrev pub ReadsAt : {S E : Type 0} → Option (Shown S E) → ℕ → List ℕ → Option (Shown S E) → Type 0
ReadsAt {S} {E} None count bytes after = (bytes ≡ []) × (after ≡ None)
ReadsAt {S} {E} (Some kept) count bytes after =
    (now : Shown S E) × (after ≡ Some now) × Reads kept count bytes now

-- the condition of a step, and its engine comes with a key
pub record IsFormedFor (act : ProxyAct) : Type 0 where
  pub host : HasHost act
  pub key : (link : Link) → ComesWithKey link act

-- ---- what is passed on

-- an IDE that asked was sent this
abbrev pub replied : {S E : Type 0} → Shown S E → List ℕ → Shown S E
replied (Registration host reply) frame = Registration host frame
replied (Refused key why) frame = Refused key why
replied (Session key host port engine) frame = Session key host port engine

-- an IDE receives these frames
abbrev pub received : {S E : Type 0} → Shown S E → List ℕ → Shown S E
received (Registration host reply) frames = Registration host reply
received (Refused key why) frames = Refused key why
received (Session key host port engine) frames =
    Session key host port (record engine { received = engine.received + length frames })

-- an engine takes these whole commands
pub record EngineTakes {S E : Type 0} (engines : Engines S E) (engine : Engine S E)
    (commands : List ℕ) (after : Engine S E) : Type 0 where
  pub serves : (key : List ℕ) (lines : List (List ℕ))
      → Serves engines key lines engine
      → Serves engines key (lines ++ commands_in commands) after
  pub read : after.read ≡ engine.read
  pub received : after.received ≡ engine.received

abbrev pub Takes : {S E : Type 0} → Engines S E → Shown S E → List ℕ → Shown S E → Type 0
Takes {S} {E} engines (Session key host port engine) commands after =
    (now : Engine S E) × (after ≡ Session key host port now)
    × EngineTakes engines engine commands now
Takes {S} {E} engines kept commands after = after ≡ kept

-- the condition of what is passed on
abbrev pub IsTaken : {S E : Type 0} → Shown S E → Effect → Type 0
IsTaken (Session key host port engine) (ToIde frames) =
    engine.received + length frames ≤ engine.read
IsTaken (Session key host port engine) (ToEngine commands) = rest_of commands ≡ []
IsTaken kept effect = Unit {0}

-- what is kept then, where an act has this effect
abbrev pub After : {S E : Type 0} → Engines S E → Shown S E → Effect → Shown S E → Type 0
After engines kept (Reply frame) after = after ≡ replied kept frame
After engines kept (ToIde frames) after = after ≡ received kept frames
After engines kept (ToEngine commands) after = Takes engines kept commands after
After engines kept Nothing after = after ≡ kept
After engines kept (Admitted session host port) after = after ≡ kept
After engines kept (Turned why) after = after ≡ kept

abbrev pub IsTakenAt : {S E : Type 0} → Option (Shown S E) → Effect → Type 0
IsTakenAt None effect = Unit {0}
IsTakenAt (Some kept) effect = IsTaken kept effect

abbrev pub AfterAt : {S E : Type 0} → Engines S E → Option (Shown S E) → Effect
    → Option (Shown S E) → Type 0
AfterAt {S} {E} engines None effect after = after ≡ None
AfterAt {S} {E} engines (Some kept) effect after =
    (now : Shown S E) × (after ≡ Some now) × After engines kept effect now

-- ---- a link that is made

-- what is kept of it is put behind the others, where something is
pub record IsAppended {S E : Type 0} (links after : List (ℕ × Shown S E)) (number : ℕ)
    (kept : Option (Shown S E)) : Type 0 where
  pub keys : keys_of after ≡ keys_of links ++ (if is_some kept then number ∷ [] else [])
  pub here : kept_at after number ≡ kept
  pub others : (other : ℕ) → (number == other) ≡ false → kept_at after other ≡ kept_at links other

-- the link was made, and this is known of it
pub record IsMadeIn {S E : Type 0} (engines : Engines S E) (links after : List (ℕ × Shown S E))
    (number : ℕ) (link : Link) : Type 0 where
  pub keys : keys_of after ≡ keys_of links ++ number ∷ []
  pub here : IsShownAt engines link (kept_at after number)
  pub others : (other : ℕ) → (number == other) ≡ false → kept_at after other ≡ kept_at links other
