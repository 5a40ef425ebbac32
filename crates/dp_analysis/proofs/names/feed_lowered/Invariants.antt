use Rattle.std.proofs.Common.{◌≡◌, flat_map, fold, take}
use Rattle.std.specs.Hash as fed
use Rattle.std.specs.Str.{str_to_ascii_lowercase}
use Rattle.dp_analysis.proofs.names.feed_lowered.Given as goal

-- the length and the bytes before this one are fed
abbrev pub invariant-loop-byte : goal.invariant-loop-byte
invariant-loop-byte g l =
    l.state ≡ fold g.H.Hasher.write l.initial.state (flat_map fed.u8
    (str_to_ascii_lowercase (take l.byte-index l.name)))
