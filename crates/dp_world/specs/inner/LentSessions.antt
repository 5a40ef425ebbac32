-- What is seen of a session that is lent: its engines, what it knows, and which session it is.
use Rattle.std.specs.Borrow.{GName}
use Rattle.dp_conversation.specs.Folds.{Reply}

-- a reply of the session, where it is lent
abbrev pub lent : {G S E : Type 0} → G → GName → Reply S E → Reply (G × (S × GName)) E
lent engines name r = record {
  packets = r.packets;
  program = r.program;
  state = (engines, (r.state, name));
  ended = r.ended;
}
