-- The numbers of a breakpoint, by their types.
use Rattle.std.specs.Prelude.{◌<◌, ◌^◌, IfSome}
use Rattle.dp_break.specs.declared.breakpoint.Breakpoint.{Breakpoint}

pub record HasNumbers (b : Breakpoint) : Type 0 where
  pub id : b.id < 2 ^ 32
  pub line : IfSome b.line (λ line. line < 2 ^ 32)
  pub hits : b.hits < 2 ^ 64
  pub hit_value : b.hit_value < 2 ^ 32
