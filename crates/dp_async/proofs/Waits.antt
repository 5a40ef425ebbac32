-- Where a session that listens stands once its first packet was sent, and after each wait.
use Rattle.std.proofs.Common.{◌≡◌, ◌≢◌, ℕ, ◌+◌, ◌≤◌, ◌<◌, true, List, [], ◌∷◌, ◌++◌, Option, Some, None, refl, sym, ap, subst, ◌∙◌, append-nil, arith, inl}
use Rattle.std.specs.Io.KnownBytes.{Appends}
use Rattle.std.proofs.KnownBytes.{Appends-nil}
use Rattle.dp_outside.specs.Changes.{Change}
use Rattle.dp_outside.specs.Streams.{AppendsFront}
use Rattle.dp_wire.specs.Frames.{BeginsNoCommand, IsPartialCommand, command_frame}
use Rattle.dp_conversation.specs.declared.link.Fault.{Fault}
use Rattle.dp_conversation.specs.declared.link.Fault.TheVariants.{Write, Out, Memory}
use Rattle.dp_conversation.proofs.FrontLaws.{front_all}
use Rattle.dp_conversation.specs.declared.link.SessionOver.{SessionOver}
use Rattle.dp_conversation.specs.declared.link.SessionOver.TheVariants as over
use Rattle.dp_conversation.specs.Deliveries.{SendFault}
use Rattle.dp_engine.specs.declared.session.SessionEnd.{SessionEnd}
use Rattle.dp_engine.specs.Session.{State, opening}
use Rattle.dp_async.specs.declared.arrival.Arrival.{Arrival}
use Rattle.dp_async.specs.Heard.{Begins, IsFree, before_all, byte_limit, bytes_of, nothing, number_of_arrival, standing}
use Rattle.dp_async.specs.Served.{Input, IsLater, Reads, ends_empty}
use Rattle.dp_async.specs.declared.listener.Listener.{Listener}
use Rattle.dp_async.specs.inner.Standing.{Notes, Obeyed, StandsAt, WaitBrings, IsCut, IsCutBy, IsEnded, Objects, Start, with_input, with_link}
use Rattle.dp_async.proofs.Standings.{reads_no_more, reads_none, agrees_first}
use Rattle.dp_async.proofs.Turns.{ends_come, stands_as, stands_come}

-- ---- a wait

-- more of a command has to come: one may begin what is held
pub no_command_partial : (held : List ℕ) → IsPartialCommand held → BeginsNoCommand held → ⊥
no_command_partial held partial none =
    none partial.text [] partial.more partial.is_text (partial.whole ∙ sym (append-nil (command_frame partial.text)))

-- what it brought is held; or nothing comes any more
pub waited_on : (start : Start) (old new : Listener) (reason : Option (SessionOver SessionEnd))
    (input input' : Input) (o : Objects)
    → StandsAt start None old (with_input input o) → IsPartialCommand old.held.held
    → old.count < byte_limit → new.session ≡ old.session → new.moments ≡ old.moments
    → WaitBrings reason (number_of_arrival old.session old.moments) old new input input'
    → input'.looks ≡ input.looks → IsLater input input'
    → Obeyed reason start new (with_input input' o)
waited_on start old new reason input input' o stands partial less session moments brings same
    later = by reason brings where
      free : IsFree old.log.items old.held.held
      free = (λ none. no_command_partial old.held.held partial none, omega (arith, stands.counted, less))

      a : List ℕ → Arrival
      a piece = record { moment = number_of_arrival old.session old.moments; bytes = piece }

      came : (piece : List ℕ) → piece ≢ [] → Reads input input' piece
          → Notes (number_of_arrival old.session old.moments) piece old new
          → StandsAt start None new (with_input input' o)
      came piece some read n =
          stands_as start _ _ _ _ _ _ _ (sym n.log)
          (λ i. standing None (sym session i) (sym moments i) (sym n.held i)) (sym n.count)
          (stands_come start old.log.items old.count (with_input input o) old.session old.moments
          old.held.held stands partial free (a piece) refl input' read later same some)

      ends : Reads input input' [] → Notes (number_of_arrival old.session old.moments) [] old new
          → IsEnded start new.log.items None new.session new.held.held new.count (with_input input' o)
      ends read n =
          let held : new.held.held ≡ old.held.held = n.held ∙ append-nil old.held.held in
          let count : new.count ≡ old.count = omega (arith, n.count) in
          subst (λ (l : List Arrival). IsEnded start l None new.session new.held.held new.count
          (with_input input' o)) (sym n.log)
          (subst (λ (s : State). IsEnded start (old.log.items ++ a [] ∷ []) None s new.held.held new.count
          (with_input input' o)) (sym session)
          (subst (λ (h : List ℕ). IsEnded start (old.log.items ++ a [] ∷ []) None old.session h new.count
          (with_input input' o)) (sym held)
          (subst (λ (c : ℕ). IsEnded start (old.log.items ++ a [] ∷ []) None old.session old.held.held c
          (with_input input' o)) (sym count)
          (ends_come start old.log.items old.count (with_input input o) old.session old.moments
          old.held.held stands partial free (a []) refl input' read later same refl))))

      none : Notes (number_of_arrival old.session old.moments) [] old new → ends_empty new.log.items ≡ true
      none n = ap ends_empty n.log ∙ reads_no_more old.log.items (a []) refl

      by : (r : Option (SessionOver SessionEnd))
          → WaitBrings r (number_of_arrival old.session old.moments) old new input input'
          → Obeyed r start new (with_input input' o)
      by None b = came b.0 b.1 b.2 b.3
      by (Some over.LinkEnd) b = (ends b.0 b.3, (none b.3, b.1, b.2))
      by (Some over.ReadFault) b =
          (ends b.0 b.3, (none b.3, omega (arith, b.1, stands.agrees.later.breaks.0), b.2))
      by (Some (over.Ended end)) b = absurd b
      by (Some (over.BadCommandFrame offset)) b = absurd b
      by (Some over.ByteLimit) b = absurd b

-- ---- the first packet

pub first_stands : (start : Start) (l : Listener) (taken : Option (List ℕ)) (faults : ℕ)
    → Appends start.before.taken taken start.first → start.before.faults ≤ faults
    → l.session ≡ opening start.bundle start.bound → l.log.items ≡ [] → l.held.held ≡ [] → l.moments ≡ 0
    → l.count ≡ 0 → StandsAt start None l (with_link taken faults start.before)
first_stands start l taken faults sent later opens log held moments count =
    stands_as start [] _ (before_all start.bundle start.bound) _ 0 _ (with_link taken faults start.before) (sym log)
    (λ i. standing None (sym opens i) (sym moments i) (sym held i)) (sym count)
    (record {
      done = nothing;
      heard = Begins;
      agrees = agrees_first start taken faults sent later;
      counted = refl;
      fits = omega arith;
      reads_on = λ _. refl;
    })

pub first_cut : (start : Start) (l : Listener) (taken : Option (List ℕ)) (faults : ℕ) (fault : Fault SessionEnd)
    (sink : Change) → sink.faults_before ≡ start.before.faults → sink.faults ≡ faults
    → AppendsFront start.before.taken taken start.first → start.before.faults ≤ faults
    → l.session ≡ opening start.bundle start.bound → l.log.items ≡ [] → SendFault fault sink
    → IsCut start fault l.log.items l.session (with_link taken faults start.before)
first_cut start l taken faults fault sink was is sent later opens log why = record {
  front = [];
  behind = [];
  first = log;
  done = nothing;
  ended = None;
  reached = opening start.bundle start.bound;
  heard = inl (before_all start.bundle start.bound, Begins, refl, refl);
  sent = subst (AppendsFront start.before.taken taken) (sym (append-nil start.first)) sent;
  later = record { breaks = (omega arith, refl); faults = later; fails = omega arith };
  by = by fault why;
} where
  by : (f : Fault SessionEnd) → SendFault f sink
      → IsCutBy f start l.log.items nothing None (opening start.bundle start.bound) l.session
      (with_link taken faults start.before)
  by (Write end) why = (
    omega (arith, why.0, was, is),
    subst (λ (a : List Arrival). Reads start.before.input start.before.input (bytes_of a)) (sym log)
        (reads_none start.before.input),
    why.1,
    opens,
    Appends-nil start.before.printed,
  )
  by Out why = absurd why
  by Memory why = front_all start.before.printed start.before.printed [] (Appends-nil start.before.printed)

-- the same over what the objects told before
pub first_stands_at : (start : Start) (frame : List ℕ) (o : Objects) (l : Listener) (taken : Option (List ℕ))
    (faults : ℕ) → start.first ≡ frame → start.before ≡ o → Appends o.taken taken frame → o.faults ≤ faults
    → l.session ≡ opening start.bundle start.bound → l.log.items ≡ [] → l.held.held ≡ [] → l.moments ≡ 0
    → l.count ≡ 0 → StandsAt start None l (with_link taken faults o)
first_stands_at start frame o l taken faults first before sent later opens log held moments count =
    let same : start.before.faults ≡ o.faults = ap (λ (x : Objects). x.faults) before in
    subst (λ (x : Objects). StandsAt start None l (with_link taken faults x)) before
    (first_stands start l taken faults
    (subst (λ (x : Objects). Appends x.taken taken start.first) (sym before)
    (subst (λ (f : List ℕ). Appends o.taken taken f) (sym first) sent))
    (omega (arith, later, same)) opens log held moments count)

pub first_cut_at : (start : Start) (frame : List ℕ) (o : Objects) (l : Listener) (taken : Option (List ℕ)) (faults : ℕ)
    (fault : Fault SessionEnd) (sink : Change) → start.first ≡ frame → start.before ≡ o
    → sink.faults_before ≡ o.faults → sink.faults ≡ faults → AppendsFront o.taken taken frame → o.faults ≤ faults
    → l.session ≡ opening start.bundle start.bound → l.log.items ≡ [] → SendFault fault sink
    → IsCut start fault l.log.items l.session (with_link taken faults o)
first_cut_at start frame o l taken faults fault sink first before was is sent later opens log why =
    let same : start.before.faults ≡ o.faults = ap (λ (x : Objects). x.faults) before in
    subst (λ (x : Objects). IsCut start fault l.log.items l.session (with_link taken faults x)) before
    (first_cut start l taken faults fault sink (was ∙ sym same) is
    (subst (λ (x : Objects). AppendsFront x.taken taken start.first) (sym before)
    (subst (λ (f : List ℕ). AppendsFront o.taken taken f) (sym first) sent))
    (omega (arith, later, same)) opens log why)
