-- The numbers of a list of events: the engines that connected, those of them that were refused, the
-- whole packets to IDEs, the whole commands to engines, and the bytes of the programs' own outputs.
use Rattle.std.specs.Prelude.{ℕ, ◌+◌, ◌-◌, ◌^◌, min, if◌then◌else◌, List, [], ◌∷◌, length, take}
use Rattle.dp_world.specs.Alone.{Engines, alone, own}
use Rattle.dp_wire.specs.Frames.{commands_in, packets_in}
use Rattle.dp_lanes.specs.declared.lane.LaneKind.TheVariants.{Up, Down}
use Rattle.dp_proxy.specs.Links.{stream}
use Rattle.dp_proxy.specs.Pasts.{Link, New, Asking, Settled, Joined, Ended, Refused, Past}
use Rattle.dp_events.specs.declared.event.Event.{Event}
use Rattle.dp_events.specs.Lists.{makes}
use Rattle.dp_world.specs.declared.numbers.Tally.{Tally}
use Rattle.dp_world.specs.Engines.{past_of}

abbrev pub nothing : Tally
nothing = record { sessions = 0; refused = 0; packets = 0; commands = 0; output = 0 }

abbrev pub one_refused : Tally
one_refused = record { sessions = 1; refused = 1; packets = 0; commands = 0; output = 0 }

-- an engine that was served, as its lines of the transcript say it: `ide`, `engine` and `output`
abbrev pub one_served : {S E : Type 0} → Engines S E → List ℕ → List ℕ → ℕ → Tally
one_served engines key given read = record {
  sessions = 1;
  refused = 0;
  packets = length (packets_in (take read (alone engines key given)));
  commands = length (commands_in given);
  output = length (own engines given);
}

abbrev pub tally_on : {S E : Type 0} → Engines S E → Link → Tally
tally_on engines New = nothing
tally_on engines (Asking host heard) = nothing
tally_on engines (Settled host reply) = nothing
tally_on engines (Refused key why) = one_refused
tally_on engines (Joined key pass acts) =
    one_served engines key (stream Down acts) (length (stream Up acts))
tally_on engines (Ended key pass acts) =
    one_served engines key (stream Down acts) (length (stream Up acts))

abbrev pub plus : Tally → Tally → Tally
plus a b = record {
  sessions = a.sessions + b.sessions;
  refused = a.refused + b.refused;
  packets = a.packets + b.packets;
  commands = a.commands + b.commands;
  output = a.output + b.output;
}

-- of these events, where so much has come of all
abbrev pub tally_in : {S E : Type 0} → Engines S E → Past → List Event → Tally
tally_in engines past [] = nothing
tally_in engines past (e ∷ events) =
    if makes e.act
    then plus (tally_on engines (past.link e.link)) (tally_in engines past events)
    else tally_in engines past events

abbrev pub tally_of : {S E : Type 0} → Engines S E → List Event → Tally
tally_of engines events = tally_in engines (past_of engines events) events

-- the numbers of 64 bits: 2^64 - 1 stands for all that pass it
abbrev pub kept : ℕ → ℕ
kept number = min number (2 ^ 64 - 1)

abbrev pub in_words : Tally → Tally
in_words t = record {
  sessions = kept t.sessions;
  refused = kept t.refused;
  packets = kept t.packets;
  commands = kept t.commands;
  output = kept t.output;
}
