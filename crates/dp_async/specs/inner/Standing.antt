-- Where a session that listens stands while it is served: what arrived has led it there, and what
-- was done on the way is what its objects tell.
use Rattle.std.specs.Prelude.{◌≡◌, ◌≢◌, ◌⊎◌, ℕ, ◌+◌, ◌-◌, ◌≤◌, ◌<◌, Bool, true, false, List, [], ◌∷◌, ◌++◌, length, Option, Some, None, is_none}
use Rattle.std.specs.List.{flat_map}
use Rattle.std.specs.Io.KnownBytes.{Appends, IsAtEnd}
use Rattle.dp_outside.specs.Causes.{Rose}
use Rattle.dp_outside.specs.Streams.{AppendsFront}
use Rattle.dp_outside.specs.declared.sinks.Sink as sink_of
use Rattle.dp_polled.specs.declared.polled.Polled as polled_of
use Rattle.dp_tree.specs.declared.bundle.Bundle.{Bundle}
use Rattle.dp_command.specs.declared.line.Line.{Line}
use Rattle.dp_command.specs.Lines.{line_of}
use Rattle.dp_packet.specs.declared.packet.Response.{Response}
use Rattle.dp_packet.specs.Parts.{Text}
use Rattle.dp_wire.specs.Frames.{BeginsNoCommand, IsPartialCommand, packet_frame}
use Rattle.dp_conversation.specs.declared.link.Fault.{Fault}
use Rattle.dp_conversation.specs.declared.link.Fault.TheVariants as fault
use Rattle.dp_conversation.specs.declared.link.SessionOver.{SessionOver}
use Rattle.dp_conversation.specs.declared.link.SessionOver.TheVariants as over
use Rattle.dp_conversation.specs.declared.responder.Answer.{Answer}
use Rattle.dp_conversation.specs.Folds.{reply_of}
use Rattle.dp_engine.specs.declared.passes.Departure.{Departure}
use Rattle.dp_engine.specs.declared.passes.Departure.TheVariants.{Answered as AnsweredWith, Goes as SetsOutWith}
use Rattle.dp_engine.specs.declared.passes.Going.{Going}
use Rattle.dp_engine.specs.declared.passes.Passing.{Passing}
use Rattle.dp_engine.specs.declared.passes.Passing.TheVariants.{On, Stop, End}
use Rattle.dp_engine.specs.declared.session.SessionEnd.{SessionEnd}
use Rattle.dp_engine.specs.Answers.{answer as answer_to}
use Rattle.dp_engine.specs.Passes.{SetsOut, departing}
use Rattle.dp_engine.specs.Responses.{response_text}
use Rattle.dp_engine.specs.Session.{State}
use Rattle.dp_async.specs.declared.answers.RunningAnswer.{RunningAnswer}
use Rattle.dp_async.specs.declared.arrival.Arrival.{Arrival}
use Rattle.dp_async.specs.declared.listener.Came.{Came}
use Rattle.dp_async.specs.declared.listener.Came.TheVariants.{NotYet, More, Ceased, Failed}
use Rattle.dp_async.specs.declared.listener.Hearing.{Hearing}
use Rattle.dp_async.specs.declared.listener.Hearing.TheVariants.{Answered, Stops, Stays}
use Rattle.dp_async.specs.declared.listener.Listener.{Listener}
use Rattle.dp_async.specs.declared.listener.Moment.{Moment}
use Rattle.dp_async.specs.declared.listener.Moment.TheVariants.{Goes, Halts, Over}
use Rattle.dp_async.specs.Heard.{Done, Heard, HeardTo, HearsNone, OnItsWay, Situation, Stage, SetOut, GoesOn, Stopped, at_end, byte_limit, bytes_of, on_its_way, standing}
use Rattle.dp_async.specs.Listens.{asks_for_status, asks_to_break, break_refusal, break_response, is_heard, own_response, running_response}
use Rattle.dp_async.specs.Served.{HasSaidOver, HeardUpTo, Input, IsLater, Reads, ends_empty, input_of}

-- what the objects of the outside tell: the input, the link and the program's own output
pub record Objects : Type 0 where
  pub input : Input
  pub taken : Option (List ℕ)
  pub faults : ℕ
  pub printed : Option (List ℕ)
  pub fails : ℕ

-- the same with another link, with other outputs, and with another input
abbrev pub with_link : Option (List ℕ) → ℕ → Objects → Objects
with_link taken faults o = record o { taken = taken; faults = faults }

abbrev pub with_sinks : Option (List ℕ) → ℕ → Option (List ℕ) → ℕ → Objects → Objects
with_sinks taken faults printed fails o =
    record o { taken = taken; faults = faults; printed = printed; fails = fails }

abbrev pub with_input : Input → Objects → Objects
with_input input o = record o { input = input }

-- what these objects tell
abbrev pub objects_of : {Q K E : Type 0} → polled_of.Ghosts Q → sink_of.Ghosts K → sink_of.Ghosts E
    → Q → K → E → Objects
objects_of q k e polled sink out = record {
  input = input_of q polled;
  taken = k.taken sink;
  faults = k.faults sink;
  printed = e.taken out;
  fails = e.faults out;
}

-- what all tell where these of them tell so
abbrev pub over_link : {K : Type 0} → sink_of.Ghosts K → K → Objects → Objects
over_link k sink o = with_link (k.taken sink) (k.faults sink) o

abbrev pub over_sinks : {K E : Type 0} → sink_of.Ghosts K → sink_of.Ghosts E → K → E → Objects
    → Objects
over_sinks k e sink out o =
    with_sinks (k.taken sink) (k.faults sink) (e.taken out) (e.faults out) o

abbrev pub over_polled : {Q : Type 0} → polled_of.Ghosts Q → Q → Objects → Objects
over_polled q polled o = with_input (input_of q polled) o

abbrev pub over_input : {Q K : Type 0} → polled_of.Ghosts Q → sink_of.Ghosts K → Q → K → Objects
    → Objects
over_input q k polled sink o = over_polled q polled (over_link k sink o)

-- a session before it was served: its program, the bytes of its first packet, and its objects
pub record Start : Type 0 where
  pub bundle : Bundle
  pub bound : ℕ
  pub first : List ℕ
  pub before : Objects

-- the counts of faults never fall
pub record AreLater (before now : Objects) : Type 0 where
  pub breaks : IsLater before.input now.input
  pub faults : before.faults ≤ now.faults
  pub fails : before.fails ≤ now.fails

-- what was done so far is what the objects tell, and the log has exactly what was read
pub record Agrees (start : Start) (log : List Arrival) (done : Done) (now : Objects) : Type 0 where
  pub read : Reads start.before.input now.input (bytes_of log)
  pub sent : Appends start.before.taken now.taken
      (start.first ++ flat_map packet_frame done.packets)
  pub printed : Appends start.before.printed now.printed done.program
  pub looked : now.input.looks ≡ start.before.input.looks + done.looks
  pub later : AreLater start.before now

-- What arrived has led it there. So many bytes have come, some of which are held, and the end of
-- the input has not, unless no more is read.
pub record IsAt (start : Start) (log : List Arrival) (s : Situation) (count : ℕ) (now : Objects)
    : Type 0 where
  pub done : Done
  pub heard : Heard start.bundle start.bound log done s
  pub agrees : Agrees start log done now
  pub counted : count ≡ length (bytes_of log)
  pub fits : length s.held ≤ count
  pub reads_on : s.over ≡ false → ends_empty log ≡ false

-- a listener stands so while it reads on, with this continuation on its way
abbrev pub StandsAt : Start → Option OnItsWay → Listener → Objects → Type 0
StandsAt start way l now =
    IsAt start l.log.items (standing way l.session l.moments l.held.held) l.count now

-- or where no more is read
abbrev pub StandsOver : Start → Option OnItsWay → Listener → Objects → Type 0
StandsOver start way l now =
    IsAt start l.log.items (at_end way l.session l.moments l.held.held) l.count now

abbrev pub stage_of : Bool → Stage
stage_of true = SetOut
stage_of false = GoesOn

-- why no more is read: the end of the input, its failure, or a limit
abbrev pub IsOverBy : SessionOver SessionEnd → Start → List Arrival → List ℕ → ℕ → Objects → Type 0
IsOverBy (over.Ended end) start log held count now = ⊥
IsOverBy over.LinkEnd start log held count now =
    (ends_empty log ≡ true) × IsAtEnd now.input.left × HasSaidOver now.input.over
IsOverBy over.ReadFault start log held count now =
    (ends_empty log ≡ true) × Rose start.before.input.faults now.input.faults
    × HasSaidOver now.input.over
IsOverBy (over.BadCommandFrame offset) start log held count now =
    (ends_empty log ≡ false) × BeginsNoCommand held × (offset + length held ≡ count)
IsOverBy over.ByteLimit start log held count now =
    (ends_empty log ≡ false) × (byte_limit ≤ count)

-- it is over: a command has ended it, or no more is read and nothing is on its way
pub record IsEnded (start : Start) (log : List Arrival) (ended : Option SessionEnd) (state : State)
    (rest : List ℕ) (count : ℕ) (now : Objects) : Type 0 where
  pub done : Done
  pub heard : HeardTo start.bundle start.bound log done ended state rest
  pub agrees : Agrees start log done now
  pub counted : count ≡ length (bytes_of log)

abbrev pub EndsWith : SessionOver SessionEnd → Start → List Arrival → State → List ℕ → ℕ → Objects
    → Type 0
EndsWith (over.Ended end) start log state held count now =
    IsEnded start log (Some end) state held count now × (ends_empty log ≡ false)
EndsWith over.LinkEnd start log state held count now =
    IsEnded start log None state held count now × IsOverBy over.LinkEnd start log held count now
EndsWith over.ReadFault start log state held count now =
    IsEnded start log None state held count now × IsOverBy over.ReadFault start log held count now
EndsWith (over.BadCommandFrame offset) start log state held count now =
    IsEnded start log None state held count now
    × IsOverBy (over.BadCommandFrame offset) start log held count now
EndsWith over.ByteLimit start log state held count now =
    IsEnded start log None state held count now × IsOverBy over.ByteLimit start log held count now

abbrev pub EndsAt : SessionOver SessionEnd → Start → Listener → Objects → Type 0
EndsAt reason start l now =
    EndsWith reason start l.log.items l.session l.held.held l.count now

-- ---- a fault

-- where the sink failed it is known what was done, and that the program's own output has all of it
abbrev pub IsCutBy : Fault SessionEnd → Start → List Arrival → Done → Option SessionEnd → State
    → State → Objects → Type 0
IsCutBy (fault.Write end) start log done ended reached state now =
    Rose start.before.faults now.faults × Reads start.before.input now.input (bytes_of log)
    × (end ≡ ended) × (state ≡ reached) × Appends start.before.printed now.printed done.program
IsCutBy fault.Out start log done ended reached state now =
    Rose start.before.fails now.fails × Reads start.before.input now.input (bytes_of log)
    × AppendsFront start.before.printed now.printed done.program
IsCutBy fault.Memory start log done ended reached state now =
    AppendsFront start.before.printed now.printed done.program

-- a fault has cut it short: the first arrivals have led it so far
pub record IsCut (start : Start) (fault : Fault SessionEnd) (log : List Arrival) (state : State)
    (now : Objects) : Type 0 where
  pub front : List Arrival
  pub behind : List Arrival
  pub first : log ≡ front ++ behind
  pub done : Done
  pub ended : Option SessionEnd
  pub reached : State
  pub heard : HeardUpTo start.bundle start.bound front done ended reached
  pub sent : AppendsFront start.before.taken now.taken
      (start.first ++ flat_map packet_frame done.packets)
  pub later : AreLater start.before now
  pub by : IsCutBy fault start log done ended reached state now

-- ---- what comes

-- these bytes are noted as what came at a moment, and held
pub record Notes (number : ℕ) (piece : List ℕ) (old new : Listener) : Type 0 where
  pub log : new.log.items ≡ old.log.items ++ (record { moment = number; bytes = piece }) ∷ []
  pub held : new.held.held ≡ old.held.held ++ piece
  pub count : new.count ≡ old.count + length piece

-- the listener is as it was, but for its session and its count of moments
pub record IsSame (old new : Listener) : Type 0 where
  pub log : new.log.items ≡ old.log.items
  pub held : new.held.held ≡ old.held.held
  pub count : new.count ≡ old.count

-- its log may have grown
abbrev pub LogGrows : Listener → Listener → Type 0
LogGrows old new = (more : List Arrival) × (new.log.items ≡ old.log.items ++ more)

-- what a look or a wait has brought
abbrev pub Brings : Came → ℕ → Listener → Listener → Input → Input → Type 0
Brings NotYet number old new before now = Reads before now [] × IsSame old new
Brings More number old new before now =
    (piece : List ℕ) × (piece ≢ []) × Reads before now piece × Notes number piece old new
Brings Ceased number old new before now =
    Reads before now [] × IsAtEnd now.left × HasSaidOver now.over × Notes number [] old new
Brings Failed number old new before now =
    Reads before now [] × Rose before.faults now.faults × HasSaidOver now.over
    × Notes number [] old new

-- a wait brings something, or says why nothing comes
abbrev pub WaitBrings : Option (SessionOver SessionEnd) → ℕ → Listener → Listener → Input → Input
    → Type 0
WaitBrings None number old new before now = Brings More number old new before now
WaitBrings (Some over.LinkEnd) number old new before now = Brings Ceased number old new before now
WaitBrings (Some over.ReadFault) number old new before now =
    Brings Failed number old new before now
WaitBrings (Some other) number old new before now = ⊥

-- whether a limit was passed
abbrev pub IsTooMuchBy : Option (SessionOver SessionEnd) → List ℕ → ℕ → Type 0
IsTooMuchBy None held count = (BeginsNoCommand held → ⊥) × (count < byte_limit)
IsTooMuchBy (Some (over.BadCommandFrame offset)) held count =
    BeginsNoCommand held × (offset ≡ count - length held)
IsTooMuchBy (Some over.ByteLimit) held count = byte_limit ≤ count
IsTooMuchBy (Some other) held count = ⊥

-- how many moments have come then
abbrev pub moments_past : Passing → ℕ → ℕ
moments_past On moments = moments + 1
moments_past Stop moments = moments + 1
moments_past End moments = moments

-- ---- what is heard

-- what a running program answers to a line, if it hears it
abbrev pub IsRunningAnswer : Option Line → Option RunningAnswer → Type 0
IsRunningAnswer line None = is_heard line ≡ false
IsRunningAnswer line (Some told) =
    ((asks_to_break line ≡ true) × (told.text ≡ response_text (break_response true line))
    × (told.stops ≡ is_none (break_refusal true line)))
    ⊎ ((asks_to_break line ≡ false) × (asks_for_status line ≡ true)
    × (told.text ≡ response_text (running_response line)) × (told.stops ≡ false))

abbrev pub HearsAt : Hearing → Start → Going → Listener → Objects → Type 0
HearsAt Answered start going l now = StandsAt start (on_its_way going GoesOn) l now
HearsAt Stops start going l now = StandsAt start (on_its_way going Stopped) l now
HearsAt Stays start going l now =
    StandsAt start (on_its_way going GoesOn) l now × HearsNone l.held.held

abbrev pub hearing_of : Bool → Hearing
hearing_of true = Stops
hearing_of false = Answered

abbrev pub IsHeardOut : List ℕ → Type 0
IsHeardOut held = HearsNone held

abbrev pub HearsAllAt : Bool → Start → Going → Listener → Objects → Type 0
HearsAllAt true start going l now = StandsAt start (on_its_way going Stopped) l now
HearsAllAt false start going l now =
    StandsAt start (on_its_way going GoesOn) l now × HearsNone l.held.held

abbrev pub MomentAt : Moment → Start → Going → Listener → Objects → Type 0
MomentAt Goes start going l now =
    StandsAt start (on_its_way going GoesOn) l now × HearsNone l.held.held
MomentAt Halts start going l now = StandsAt start (on_its_way going Stopped) l now
MomentAt (Over over) start going l now =
    StandsOver start (on_its_way going GoesOn) l now
    × IsOverBy over start l.log.items l.held.held l.count now

-- ---- what is answered

abbrev pub with_answer : Answer SessionEnd → Done → Done
with_answer answer done = record done {
  packets = done.packets ++ answer.packets;
  program = done.program ++ answer.program;
}

-- a packet of this text was sent
abbrev pub with_text : Text → Done → Done
with_text text done = record done { packets = done.packets ++ text ∷ [] }

-- what a session that listens gives of a line: its own answer, that of every session, or a
-- continuation
abbrev pub DepartsAt : Departure → State → State → List ℕ → Type 0
DepartsAt (SetsOutWith going) state next line =
    (own_response (line_of line) ≡ None) × SetsOut state (line_of line) going × (next ≡ state)
DepartsAt (AnsweredWith answer) state next line =
    ((r : Response) × (own_response (line_of line) ≡ Some r)
    × (answer ≡ record { packets = response_text r ∷ []; program = []; ended = None })
    × (next ≡ state))
    ⊎ ((own_response (line_of line) ≡ None) × (departing state (line_of line) ≡ None)
    × (reply_of answer next ≡ answer_to state line))

-- it is to be obeyed: where a continuation has set out the session stands so, and where there is an
-- answer it stands so once that was delivered
abbrev pub AnswerLeads : Option SessionEnd → Start → Done → List Arrival → State → ℕ → List ℕ
    → Type 0
AnswerLeads None start done log state moments held =
    Heard start.bundle start.bound log done (standing None state moments held)
AnswerLeads (Some end) start done log state moments held =
    HeardTo start.bundle start.bound log done (Some end) state held

pub record AnswerIsDue (start : Start) (answer : Answer SessionEnd) (log : List Arrival)
    (state : State) (moments : ℕ) (held : List ℕ) (count : ℕ) (now : Objects) : Type 0 where
  pub done : Done
  pub leads : AnswerLeads answer.ended start (with_answer answer done) log state moments held
  pub agrees : Agrees start log done now
  pub counted : count ≡ length (bytes_of log)
  pub fits : length held ≤ count
  pub reads_on : ends_empty log ≡ false

abbrev pub IsDue : Departure → Start → Listener → Objects → Type 0
IsDue (SetsOutWith going) start l now = StandsAt start (on_its_way going SetOut) l now
IsDue (AnsweredWith answer) start l now =
    AnswerIsDue start answer l.log.items l.session l.moments l.held.held l.count now

-- a session goes on with nothing on its way, or is over
abbrev pub ObeyedBy : Option (SessionOver SessionEnd) → Start → List Arrival → State → ℕ → List ℕ
    → ℕ → Objects → Type 0
ObeyedBy None start log state moments held count now =
    IsAt start log (standing None state moments held) count now
ObeyedBy (Some reason) start log state moments held count now =
    EndsWith reason start log state held count now

abbrev pub Obeyed : Option (SessionOver SessionEnd) → Start → Listener → Objects → Type 0
Obeyed over start l now =
    ObeyedBy over start l.log.items l.session l.moments l.held.held l.count now

-- all whole commands were answered, and more may come; or it is over
abbrev pub HeldAnswered : Option (SessionOver SessionEnd) → Start → Listener → Objects → Type 0
HeldAnswered None start l now =
    StandsAt start None l now × IsPartialCommand l.held.held × (l.count < byte_limit)
HeldAnswered (Some over) start l now = EndsAt over start l now
