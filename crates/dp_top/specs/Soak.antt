-- The command `soak`: a list of events that is drawn, replayed over one program, and counted.
use Rattle.std.specs.Prelude.{◌≡◌, ◌⊎◌, ℕ, List, [], ◌∷◌, ◌++◌, Ok, codes}
use Rattle.std.specs.Fmt.{decimal}
use Rattle.std.specs.Io.KnownBytes.{Appends}
use Rattle.dp_outside.specs.Causes.{Rose}
use Rattle.dp_outside.specs.Changes.{Change, IsUntouched}
use Rattle.dp_outside.specs.Streams.{AppendsFront}
use Rattle.dp_bundle.specs.Bundles.{Given, Makes}
use Rattle.dp_events.specs.Soak as drawn
use Rattle.dp_tree.specs.declared.bundle.Bundle.{Bundle}
use Rattle.dp_top.specs.Engines.{engines_of}
use Rattle.dp_top.specs.declared.failures.Failure.{Failure}
use Rattle.dp_top.specs.declared.failures.Failure.TheVariants as failure
use Rattle.dp_words.specs.Words.{default_bound}
use Rattle.dp_world.specs.Tallies.{in_words, tally_of}
use Rattle.dp_world.specs.declared.numbers.Tally.{Tally}

-- the program: its one file
abbrev pub soak_file : Given
soak_file = (
  codes "soak.php",
  codes "<?php\n$s = 0;\nfor ($i = 1; $i <= 5; $i++) {\n  $s = $s + $i;\n}\necho $s;\n",
)

-- the line of a tally
abbrev pub tally_line : Tally → List ℕ
tally_line tally =
    codes "sessions " ++ decimal tally.sessions ++ codes " refused " ++ decimal tally.refused
    ++ codes " packets " ++ decimal tally.packets ++ codes " commands " ++ decimal tally.commands
    ++ codes " output " ++ decimal tally.output ++ codes "\n"

-- the numbers of the list that is drawn
pub record IsSoaked (count seed : ℕ) (tally : Tally) : Type 0 where
  pub program : Bundle
  pub made : Makes (soak_file ∷ []) (Ok program)
  pub counts : tally
      ≡ in_words (tally_of (engines_of program default_bound) (drawn.soak count seed))

-- their line was put
pub record Soaks (status count seed : ℕ) (out : Change) : Type 0 where
  pub is_status : status ≡ 0
  pub tally : Tally
  pub soaked : IsSoaked count seed tally
  pub put : Appends out.told_before out.told (tally_line tally)

-- a front of it was put, and the output failed
pub record IsCutShort (count seed : ℕ) (out : Change) : Type 0 where
  pub tally : Tally
  pub soaked : IsSoaked count seed tally
  pub put : AppendsFront out.told_before out.told (tally_line tally)
  pub fault : Rose out.faults_before out.faults

-- why it failed: memory ran out before anything was put, or once the output had failed; or that
-- failed
abbrev pub SoakFails : Failure → List ℕ → ℕ → ℕ → Change → Type 0
SoakFails why name count seed out =
    ((why ≡ failure.Memory) × (IsUntouched out ⊎ IsCutShort count seed out))
    ⊎ ((why ≡ failure.Output) × (name ≡ []) × IsCutShort count seed out)
