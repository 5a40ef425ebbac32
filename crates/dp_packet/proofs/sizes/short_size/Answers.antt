use Rattle.std.proofs.Common.{arith}
use Rattle.dp_packet.proofs.LengthLaws.{attribute_short}
use Rattle.dp_packet.proofs.sizes.short_size.Goals as goal

pub returns-clause-size : goal.returns-clause-size
returns-clause-size c =
    omega (
      arith,
      c.attribute_size.ensures,
      c.requires.name,
      c.requires.value,
      attribute_short c.args.name.now c.args.value.now,
    )

pub returns-clause-small : goal.returns-clause-small
returns-clause-small c =
    omega (
      arith,
      c.attribute_size.ensures,
      c.requires.name,
      c.requires.value,
      attribute_short c.args.name.now c.args.value.now,
    )
