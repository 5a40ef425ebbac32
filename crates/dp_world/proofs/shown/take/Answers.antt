use Rattle.std.proofs.Common.{◌≡◌, ℕ, List, ◌++◌, Result, Ok, Err, OnOk, refl, sym, subst}
use Rattle.dp_wire.specs.Frames.{commands_in}
use Rattle.dp_world.specs.Alone.{Engines}
use Rattle.dp_world.specs.declared.engine.Engine.{Engine}
use Rattle.dp_world.specs.declared.shown.Shown.{Shown}
use Rattle.dp_world.specs.declared.shown.Shown.TheVariants.{Session}
use Rattle.dp_world.specs.inner.EngineStates.{Serves}
use Rattle.dp_world.specs.inner.Changes.{Takes}
use Rattle.dp_world.proofs.shown.take.Goals as goal

taken : {S E T F : Type 0} (engines : Engines S E) (r : Result T F) (kept : Shown S E) (key host : List ℕ) (port : ℕ)
    (engine now : Engine S E) (commands : List ℕ)
    → kept ≡ Session key host port engine
    → ((name : List ℕ) (lines : List (List ℕ)) → Serves engines name lines engine
    → OnOk r (Serves engines name (lines ++ commands_in commands) now))
    → OnOk r (now.read ≡ engine.read) → OnOk r (now.received ≡ engine.received)
    → OnOk r (Takes engines kept commands (Session key host port now))
taken engines (Err why) kept key host port engine now commands is serves read received = tt
taken {S} {E} engines (Ok done) kept key host port engine now commands is serves read received =
    subst (λ (k : Shown S E). Takes engines k commands (Session key host port now)) (sym is)
    (now, refl, record { serves = serves; read = read; received = received })

pub returns-in-Session : goal.returns-in-Session
returns-in-Session g c =
    taken (g.A.Engines.known c.args.engines.now) c.take_in.result c.args.shown.now c.in-Session.key c.in-Session.host
    c.in-Session.port c.in-Session.engine c.take_in.new.engine c.args.commands.now c.in-Session.is
    c.take_in.ensures.serves c.take_in.ensures.read c.take_in.ensures.received
