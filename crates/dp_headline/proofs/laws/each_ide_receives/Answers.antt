use Rattle.dp_headline.proofs.laws.each_ide_receives.Goals as goal
use Rattle.dp_top.specs.Engines.{engines_of}
use Rattle.dp_world.proofs.EngineLaws.{grows}
use Rattle.dp_world.proofs.HeadlineLaws.{holds}

pub returns : goal.returns
returns c = λ bundle bound events. holds (engines_of bundle bound) (grows (engines_of bundle bound)) events
