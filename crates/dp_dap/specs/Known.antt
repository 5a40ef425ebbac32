-- What the gateway knows.
use Rattle.std.specs.Prelude.{ℕ, Bool, false, List, [], Option, None}
use Rattle.dp_tree.specs.declared.bundle.Bundle.{Bundle}
use Rattle.dp_engine.specs.declared.session.SessionEnd.{SessionEnd}
use Rattle.dp_engine.specs.Session as session
use Rattle.dp_dap.specs.declared.breakpoints.Kept.{Kept}
use Rattle.dp_dap_messages.specs.declared.lines.Place.{Place}
use Rattle.dp_dap_messages.specs.declared.table.Stage.{Stage}
use Rattle.dp_dap_messages.specs.declared.table.Stage.TheVariants.{New}

pub record Known : Type 0 where
  pub stage : Stage
  -- whether launch asked to stop on entry, once it has come; and whether configurationDone has
  pub launched : Option Bool
  pub configured : Bool
  pub session : session.State
  -- the breakpoints that are set, with the path by which each was
  pub kept : List Kept
  -- what the references stand for: the first is 1
  pub places : List Place
  -- how many messages were sent
  pub sent : ℕ
  -- how the session ended with its program, if it has
  pub over : Option SessionEnd
  -- memory ran out: then the gateway answers so for good
  pub failed : Bool

-- nothing has come
abbrev pub opening : Bundle → ℕ → Known
opening bundle bound = record {
  stage = New;
  launched = None;
  configured = false;
  session = session.opening bundle bound;
  kept = [];
  places = [];
  sent = 0;
  over = None;
  failed = false;
}
