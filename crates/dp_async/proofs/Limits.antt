-- Where a session that listens stands once a limit was passed, or no more is read.
use Rattle.std.proofs.Common.{◌≡◌, ℕ, ◌≤◌, false, List, length, Option, Some, None, refl, sym, ap, subst, ◌∙◌, arith, inl, inr}
use Rattle.std.specs.Io.KnownBytes.{IsAtEnd}
use Rattle.dp_outside.specs.Causes.{Rose}
use Rattle.dp_wire.specs.Frames.{BeginsNoCommand}
use Rattle.dp_conversation.specs.declared.link.SessionOver.{SessionOver}
use Rattle.dp_conversation.specs.declared.link.SessionOver.TheVariants as over
use Rattle.dp_engine.specs.declared.session.SessionEnd.{SessionEnd}
use Rattle.dp_engine.specs.Session.{State}
use Rattle.dp_async.specs.declared.arrival.Arrival.{Arrival}
use Rattle.dp_async.specs.Heard.{HoldsNone, IsTooMuch, at_end, bytes_of, standing}
use Rattle.dp_async.specs.Served.{HasSaidOver, Input, ends_empty}
use Rattle.dp_async.specs.declared.listener.Listener.{Listener}
use Rattle.dp_async.specs.inner.Standing.{HeldAnswered, StandsAt, EndsWith, IsOverBy, IsTooMuchBy, Objects, Start, IsAt}
use Rattle.dp_async.proofs.Turns.{ends_full, ends_left}

pub too_much_is : (reason : SessionOver SessionEnd) (log : List Arrival) (held : List ℕ) (count : ℕ)
    → count ≡ length (bytes_of log) → IsTooMuchBy (Some reason) held count → IsTooMuch log held
too_much_is (over.Ended end) log held count counted t = absurd t
too_much_is over.LinkEnd log held count counted t = absurd t
too_much_is over.ReadFault log held count counted t = absurd t
too_much_is (over.BadCommandFrame offset) log held count counted t = inl t.0
too_much_is over.ByteLimit log held count counted t = inr (omega (arith, counted, t))

-- why no more is read then
pub limit_why : (start : Start) (reason : SessionOver SessionEnd) (log : List Arrival) (held : List ℕ) (count : ℕ)
    (o : Objects) → ends_empty log ≡ false → length held ≤ count → IsTooMuchBy (Some reason) held count
    → IsOverBy reason start log held count o
limit_why start (over.Ended end) log held count o on fits t = absurd t
limit_why start over.LinkEnd log held count o on fits t = absurd t
limit_why start over.ReadFault log held count o on fits t = absurd t
limit_why start (over.BadCommandFrame offset) log held count o on fits t = (on, t.0, omega (arith, t.1, fits))
limit_why start over.ByteLimit log held count o on fits t = (on, t)

-- the reason stays where the log, what is held and the input stay
pub over_after : (start : Start) (reason : SessionOver SessionEnd) (log log' : List Arrival) (held held' : List ℕ)
    (count count' : ℕ) (o o' : Objects) → log' ≡ log → held' ≡ held → count' ≡ count → o'.input ≡ o.input
    → IsOverBy reason start log held count o → IsOverBy reason start log' held' count' o'
over_after start (over.Ended end) log log' held held' count count' o o' e f g l why = absurd why
over_after start over.LinkEnd log log' held held' count count' o o' e f g l why = (
  ap ends_empty e ∙ why.0,
  subst (λ (i : Input). IsAtEnd i.left) (sym l) why.1,
  subst (λ (i : Input). HasSaidOver i.over) (sym l) why.2,
)
over_after start over.ReadFault log log' held held' count count' o o' e f g l why = (
  ap ends_empty e ∙ why.0,
  subst (λ (i : Input). Rose start.before.input.faults i.faults) (sym l) why.1,
  subst (λ (i : Input). HasSaidOver i.over) (sym l) why.2,
)
over_after start (over.BadCommandFrame offset) log log' held held' count count' o o' e f g l why = (
  ap ends_empty e ∙ why.0,
  subst BeginsNoCommand (sym f) why.1,
  omega (arith, why.2, ap length f, g),
)
over_after start over.ByteLimit log log' held held' count count' o o' e f g l why =
    (ap ends_empty e ∙ why.0, omega (arith, why.1, g))

-- so it is over once nothing is on its way
pub over_left : (start : Start) (reason : SessionOver SessionEnd) (log : List Arrival) (state : State) (moments : ℕ)
    (held : List ℕ) (count : ℕ) (o : Objects) → IsAt start log (at_end None state moments held) count o
    → IsOverBy reason start log held count o → EndsWith reason start log state held count o
over_left start (over.Ended end) log state moments held count o stands why = absurd why
over_left start over.LinkEnd log state moments held count o stands why =
    (ends_left start log count o state moments held stands, why)
over_left start over.ReadFault log state moments held count o stands why =
    (ends_left start log count o state moments held stands, why)
over_left start (over.BadCommandFrame offset) log state moments held count o stands why =
    (ends_left start log count o state moments held stands, why)
over_left start over.ByteLimit log state moments held count o stands why =
    (ends_left start log count o state moments held stands, why)

-- or where no whole command is held
pub over_full : (start : Start) (reason : SessionOver SessionEnd) (log : List Arrival) (state : State) (moments : ℕ)
    (held : List ℕ) (count : ℕ) (o : Objects) → IsAt start log (standing None state moments held) count o
    → HoldsNone held → IsTooMuchBy (Some reason) held count → EndsWith reason start log state held count o
over_full start (over.Ended end) log state moments held count o stands none t = absurd t
over_full start over.LinkEnd log state moments held count o stands none t = absurd t
over_full start over.ReadFault log state moments held count o stands none t = absurd t
over_full start (over.BadCommandFrame offset) log state moments held count o stands none t = (
  ends_full start log count o state moments held stands none (inl t.0),
  limit_why start (over.BadCommandFrame offset) log held count o (stands.reads_on refl) stands.fits t,
)
over_full start over.ByteLimit log state moments held count o stands none t = (
  ends_full start log count o state moments held stands none (inr (omega (arith, stands.counted, t))),
  limit_why start over.ByteLimit log held count o (stands.reads_on refl) stands.fits t,
)

-- all were answered
pub held_over : (start : Start) (l : Listener) (o : Objects) (reason : Option (SessionOver SessionEnd))
    → StandsAt start None l o → HoldsNone l.held.held → IsTooMuchBy reason l.held.held l.count
    → HeldAnswered reason start l o
held_over start l o None stands (inl partial) t = (stands, partial, t.1)
held_over start l o None stands (inr none) t = absurd (t.0 none)
held_over start l o (Some reason) stands none t =
    over_full start reason l.log.items l.session l.moments l.held.held l.count o stands none t
