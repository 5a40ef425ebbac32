use Rattle.std.proofs.Common.{arith}
use Rattle.dp_packet.proofs.Base64Size.{base64_length}
use Rattle.dp_packet.proofs.outputs.encoded_size.Goals as goal

pub returns : goal.returns
returns c = let size = base64_length c.args.bytes.now (λ i. omega (arith, c.type_inv.bytes i)) in omega (arith, size)
