-- What was written, or why not all of it.
use Rattle.std.specs.Prelude.{ℕ, List, flat_map, Result, Ok, Err}
use Rattle.std.specs.Io.KnownBytes.{Appends}
use Rattle.std.specs.List.{AllByRecursion}
use Rattle.dp_outside.specs.Causes.{Rose}
use Rattle.dp_outside.specs.Changes.{Change}
use Rattle.dp_outside.specs.Streams.{AppendsFront}
use Rattle.dp_proxy.specs.Pasts.{Past}
use Rattle.dp_world.specs.Alone.{Engines}
use Rattle.dp_world.specs.declared.errors.ReplayError.{ReplayError}
use Rattle.dp_world.specs.declared.errors.ReplayError.TheVariants.{OutFault, Memory}
use Rattle.dp_world.specs.declared.shown.Shown.{Shown}
use Rattle.dp_world.specs.Transcript.{shown}
use Rattle.dp_world.specs.inner.KeptLinks.{IsShown}

-- the text was put; or a front of it, where the sink failed or memory ran out
abbrev pub Writes : Result (Unit {0}) ReplayError → List ℕ → Change → Type 0
Writes (Ok done) text out = Appends out.told_before out.told text
Writes (Err OutFault) text out =
    Rose out.faults_before out.faults × AppendsFront out.told_before out.told text
Writes (Err Memory) text out = AppendsFront out.told_before out.told text

-- the lines of one link, and of these in their order
abbrev pub lines_at : {S E : Type 0} → Engines S E → Past → ℕ × Shown S E → List ℕ
lines_at engines past entry = shown engines entry.0 (past.link entry.0)

abbrev pub lines_of : {S E : Type 0} → Engines S E → Past → List (ℕ × Shown S E) → List ℕ
lines_of engines past links = flat_map (lines_at engines past) links

-- what is kept of each is what is known of it
abbrev pub AllShown : {S E : Type 0} → Engines S E → Past → List (ℕ × Shown S E) → Type 0
AllShown engines past links =
    AllByRecursion (λ entry. IsShown engines (past.link entry.0) entry.1) links
