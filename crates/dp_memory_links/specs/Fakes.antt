-- What contracts see of the dialers, gates and nets in memory.
use Rattle.std.specs.Prelude.{◌≡◌, ℕ, Bool, List, [], ◌∷◌, All, Some}
use Rattle.dp_outside.specs.Fakes.{Plan, SinkState, SourceState, first_plan}
use Rattle.dp_outside.specs.Links.{Dial, Door, Link}

-- a link in memory: its source and its sink
abbrev pub LinkState : Type 0
LinkState = SourceState × SinkState

-- what it tells
abbrev pub link_seen : LinkState → Link
link_seen link =
    record {
      left = Some link.0.tape.left;
      given = Some link.0.tape.given;
      taken = Some link.1.taken;
    }

-- nothing has failed, and nothing was given
pub record IsFresh (link : LinkState) : Type 0 where
  pub source : link.0.plan.faults ≡ 0
  pub unread : link.0.tape.given ≡ []
  pub sink : link.1.plan.faults ≡ 0

-- the links that a dialer has to give, and the numbers of its calls that fail
pub record DialPartState : Type 0 where
  pub links : List LinkState
  pub fails : List ℕ

abbrev pub AreFresh : List DialPartState → Type 0
AreFresh parts = All (λ part. All IsFresh part.links) parts

-- a dialer in memory: the links that are left, which of its calls fail, what its twins get, and
-- what it tells
pub record DialerState : Type 0 where
  pub links : List LinkState
  pub plan : Plan
  pub parts : List DialPartState
  pub returned : ℕ
  pub dials : List Dial
  pub retired : List Link

-- one that works by this part and gives away these
abbrev pub dialer_of : DialPartState → List DialPartState → DialerState
dialer_of part parts =
    record {
      links = part.links;
      plan = first_plan part.fails;
      parts = parts;
      returned = 0;
      dials = [];
      retired = [];
    }

-- a part without a link
abbrev pub no_dial_part : DialPartState
no_dial_part = record { links = []; fails = [] }

-- the first part, where there is one
abbrev pub first_part : {A : Type 0} → A → List A → A
first_part none [] = none
first_part none (part ∷ parts) = part

-- the parts behind the first
abbrev pub later_parts : {A : Type 0} → List A → List A
later_parts [] = []
later_parts (part ∷ parts) = parts

-- one that works by the first part, and gives away the others
abbrev pub first_dialer : List DialPartState → DialerState
first_dialer parts = dialer_of (first_part no_dial_part parts) (later_parts parts)

-- a link that a gate has to give: its source, its sink, and the host at its other end
abbrev pub CallState : Type 0
CallState = SourceState × SinkState × List ℕ

abbrev pub call_seen : CallState → Link
call_seen call = link_seen (call.0, call.1)

abbrev pub IsFreshCall : CallState → Type 0
IsFreshCall call = IsFresh (call.0, call.1)

-- the links that a gate has to give, and the numbers of its calls that fail
pub record GatePartState : Type 0 where
  pub links : List CallState
  pub fails : List ℕ

abbrev pub AreFreshCalls : List GatePartState → Type 0
AreFreshCalls parts = All (λ part. All IsFreshCall part.links) parts

-- a gate in memory: its port, the links that are left, which of its calls fail, what its twins get,
-- and what it tells
pub record GateState : Type 0 where
  pub port : ℕ
  pub links : List CallState
  pub plan : Plan
  pub parts : List GatePartState
  pub returned : ℕ
  pub accepts : List Bool
  pub accepted : List Link
  pub retired : List Link

-- what a gate tells
abbrev pub door_seen : GateState → Door
door_seen gate =
    record {
      port = gate.port;
      accepts = Some gate.accepts;
      accepted = Some gate.accepted;
      retired = Some gate.retired;
    }

-- nothing has failed, nothing came back that had, and nothing was asked for, given or came back
pub record IsFreshGate (gate : GateState) : Type 0 where
  pub faults : gate.plan.faults ≡ 0
  pub returned : gate.returned ≡ 0
  pub accepts : gate.accepts ≡ []
  pub accepted : gate.accepted ≡ []
  pub retired : gate.retired ≡ []

abbrev pub gate_of : ℕ → GatePartState → List GatePartState → GateState
gate_of port part parts =
    record {
      port = port;
      links = part.links;
      plan = first_plan part.fails;
      parts = parts;
      returned = 0;
      accepts = [];
      accepted = [];
      retired = [];
    }

abbrev pub no_gate_part : GatePartState
no_gate_part = record { links = []; fails = [] }

abbrev pub first_gate : ℕ → List GatePartState → GateState
first_gate port parts = gate_of port (first_part no_gate_part parts) (later_parts parts)

-- the links and gates that a net has to give, and the numbers of its calls that fail
pub record NetPartState : Type 0 where
  pub links : List LinkState
  pub gates : List GateState
  pub fails : List ℕ

pub record IsFreshPart (part : NetPartState) : Type 0 where
  pub links : All IsFresh part.links
  pub gates : All IsFreshGate part.gates

-- a net in memory: the dialer in it, whose twins get nothing; the gates that are left, what its
-- twins get, the gates that it was asked for, and those that were shut
pub record NetState : Type 0 where
  pub dialer : DialerState
  pub gates : List GateState
  pub parts : List NetPartState
  pub asked_gates : List (ℕ × Bool)
  pub shut_doors : List Door

abbrev pub net_of : NetPartState → List NetPartState → NetState
net_of part parts =
    record {
      dialer = dialer_of (record { links = part.links; fails = part.fails }) [];
      gates = part.gates;
      parts = parts;
      asked_gates = [];
      shut_doors = [];
    }

abbrev pub no_net_part : NetPartState
no_net_part = record { links = []; gates = []; fails = [] }

abbrev pub first_net : List NetPartState → NetState
first_net parts = net_of (first_part no_net_part parts) (later_parts parts)
