use Rattle.std.proofs.Common.{All, sym, subst}
use Rattle.dp_memory_links.specs.Fakes.{IsFreshPart}
use Rattle.dp_memory_links.proofs.net.ListNet.new.Goals as goal

pub next_part-part-requires : goal.next_part-part-requires
next_part-part-requires c = subst (All IsFreshPart) (sym c.into_iter-parts.ensures.rest) c.requires
