-- The objects that a command is lent, and what every command keeps of them.
use Rattle.std.specs.Prelude.{◌≡◌, ◌≤◌}
use Rattle.std.specs.Borrow.{GName}
use Rattle.dp_top.specs.Seen.{Seen}

-- which objects they are
pub record Names : Type 0 where
  pub shelf : GName
  pub input : GName
  pub out : GName
  pub err : GName
  pub net : GName
  pub spawner : GName

pub record Lent : Type 0 where
  pub seen : Seen
  pub names : Names

-- the shelf has the same files, and no count of faults has fallen
pub record Continues (old new : Seen) : Type 0 where
  pub files : new.shelf.files ≡ old.shelf.files
  pub shelf : old.shelf.faults ≤ new.shelf.faults
  pub input : old.input.faults ≤ new.input.faults
  pub out : old.out.faults ≤ new.out.faults
  pub err : old.err.faults ≤ new.err.faults
  pub net : old.net.faults ≤ new.net.faults
  pub returned : old.net.returned ≤ new.net.returned
  pub spawner : old.spawner.faults ≤ new.spawner.faults

-- likewise, and they are the same objects
pub record LentContinues (old new : Lent) : Type 0 where
  pub names : new.names ≡ old.names
  pub seen : Continues old.seen new.seen
