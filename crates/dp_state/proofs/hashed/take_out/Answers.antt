use Rattle.std.proofs.Common.{length, ap, arith, length-drop}
use Rattle.dp_state.proofs.hashed.take_out.Goals as goal

pub take_row-requires : goal.take_row-requires
take_row-requires c =
    omega (
      arith,
      c.requires,
      length-drop c.args.gone.now c.args.slots.now.entries,
      length-drop c.clear_many.new.gone c.clear_many.new.slots.entries,
      ap length c.clear_many.ensures.left,
      c.clear_many.ensures.within,
    )
