-- What becomes of a worker's task.
use Rattle.std.specs.Prelude.{ℕ, Result, ⊤, OnOk}
use Rattle.dp_outside.specs.declared.jobs.Spawner as spawner_of
use Rattle.dp_outside.specs.declared.links.Dialer as dialer_of
use Rattle.dp_outside.specs.declared.links.Gate as gate_of
use Rattle.dp_desk.specs.Desks.{Known}
use Rattle.dp_crews.specs.declared.tasks.Port.{Port}
use Rattle.dp_crews.specs.declared.tasks.Port.TheVariants.{Ides, Engines}
use Rattle.dp_crews.specs.declared.tasks.Closed.{Closed}
use Rattle.dp_crews.specs.declared.tasks.Closed.TheVariants as closed
use Rattle.dp_crews.specs.Gates.{Works, gating}
use Rattle.dp_crews.specs.Tallies.{tally}
use Rattle.dp_crews.specs.Workers.{AskedFor, Booked, Means, NoEngine, NoIde, ServedEngine, ServedIde, engine_post, means, post}

-- the worker's gate came back, and so many links of it were served, or the gate failed; beside it
-- stand the books
abbrev pub Did : {G GIn GOut H HIn HOut D DIn DOut P Rt E : Type 0} → gate_of.Ghosts G GIn GOut
    → gate_of.Ghosts H HIn HOut → dialer_of.Ghosts D DIn DOut → spawner_of.Ghosts P Rt
    → Port G H D P → Known → ℕ → Closed G H → Known → Result ⊤ E → Type 0
Did g h d p (Ides gate) v count (closed.Ides back) w over =
    Works ServedIde NoIde count (post v (gating g gate)) (post w (gating g back)) over
    × AskedFor count v w
Did g h d p (Ides gate) v count (closed.Engines back t) w over = ⊥
Did g h d p (Engines gate dialer spawner) v count (closed.Ides back) w over = ⊥
Did g h d p (Engines gate dialer spawner) v count (closed.Engines back t) w over =
    ((m : Means) × Works ServedEngine NoEngine count
    (engine_post v (gating h gate) (means d p dialer spawner) (tally 0 0 0 0))
    (engine_post w (gating h back) m t) over)
    × OnOk over (Booked count v w (tally 0 0 0 0) t)
