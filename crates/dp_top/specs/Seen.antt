-- What the objects of the outside that `top` is lent tell, and how often each has failed.
use Rattle.std.specs.Prelude.{ℕ, Bool, List, Option}
use Rattle.dp_outside.specs.Causes.{Rose}
use Rattle.dp_outside.specs.Changes.{Change}
use Rattle.dp_outside.specs.Links.{Dial, Door, Link}
use Rattle.dp_outside.specs.declared.jobs.Spawner as spawner_of
use Rattle.dp_outside.specs.declared.links.Dialer as dialer_of
use Rattle.dp_outside.specs.declared.shelves.Shelf as shelf_of
use Rattle.dp_outside.specs.declared.sinks.Sink as sink_of
use Rattle.dp_outside.specs.declared.sources.Source as source_of
use Rattle.dp_program.specs.Programs.{Files, RequestedNames}

-- the bytes that a source still gives or that a sink has taken, where it tells them
pub record Stream : Type 0 where
  pub told : Option (List ℕ)
  pub faults : ℕ

pub record Shelf : Type 0 where
  pub files : Files
  pub fetched : RequestedNames
  pub faults : ℕ

-- the network: its dials, the links that came back, the gates that it was asked for (the port of
-- each, and whether it was opened) and those that were shut, where it tells them; how often it has
-- failed, and how often something came back that had
pub record Net : Type 0 where
  pub dials : Option (List Dial)
  pub retired : Option (List Link)
  pub requested : Option (List (ℕ × Bool))
  pub shut : Option (List Door)
  pub faults : ℕ
  pub returned : ℕ

-- what starts threads: of each start that was asked for, whether it was granted, where it tells
-- that, and how often it has failed
pub record Spawner : Type 0 where
  pub starts : Option (List Bool)
  pub faults : ℕ

pub record Seen : Type 0 where
  pub shelf : Shelf
  pub input : Stream
  pub out : Stream
  pub err : Stream
  pub net : Net
  pub spawner : Spawner

abbrev pub net_seen : {N In Out : Type 0} → dialer_of.Ghosts N In Out → N → Net
net_seen d net = record {
  dials = d.dials net;
  retired = d.retired net;
  requested = d.asked_gates net;
  shut = d.shut_doors net;
  faults = d.faults net;
  returned = d.returned net;
}

abbrev pub seen : {H S K E N In Out P Rt : Type 0}
    → shelf_of.Ghosts H → source_of.Ghosts S → sink_of.Ghosts K → sink_of.Ghosts E
    → dialer_of.Ghosts N In Out → spawner_of.Ghosts P Rt → H → S → K → E → N → P → Seen
seen h s k e d p shelf input out err net spawner = record {
  shelf = record { files = h.files shelf; fetched = h.fetched shelf; faults = h.faults shelf };
  input = record { told = s.left input; faults = s.faults input };
  out = record { told = k.taken out; faults = k.faults out };
  err = record { told = e.taken err; faults = e.faults err };
  net = net_seen d net;
  spawner = record { starts = p.starts spawner; faults = p.faults spawner };
}

-- what became of a source or a sink
abbrev pub changed : Stream → Stream → Change
changed old new = record {
  told_before = old.told;
  told = new.told;
  faults_before = old.faults;
  faults = new.faults;
}

-- no count of faults rose
pub record NoneRose (old new : Seen) : Type 0 where
  pub shelf : Rose old.shelf.faults new.shelf.faults → ⊥
  pub input_not : Rose old.input.faults new.input.faults → ⊥
  pub out_not : Rose old.out.faults new.out.faults → ⊥
  pub err_not : Rose old.err.faults new.err.faults → ⊥
  pub net_not : Rose old.net.faults new.net.faults → ⊥
  pub returned_not : Rose old.net.returned new.net.returned → ⊥
  pub spawner_not : Rose old.spawner.faults new.spawner.faults → ⊥
