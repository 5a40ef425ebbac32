use Rattle.dp_session_laws.proofs.Whole.{whole_packets}
use Rattle.dp_session_laws.proofs.laws.alone_is_whole_packets.Goals as goal

pub returns : goal.returns
returns c =
    λ bundle bound key bytes of_bytes short_key short_name. whole_packets bundle bound key bytes of_bytes short_key
    short_name
