-- More commands only add to what the engine sends.
use Rattle.std.proofs.Common.{ℕ, List, ◌++◌, ap, ◌∙◌, sym, append_assoc}
use Rattle.std.specs.List.{flat_map}
use Rattle.std.proofs.lemmas.List.Concat.{flat_map-append}
use Rattle.dp_tree.specs.declared.bundle.Bundle.{Bundle}
use Rattle.dp_conversation.proofs.GrowthLaws.{served_goes_on}
use Rattle.dp_wire.specs.Frames.{packet_frame}
use Rattle.dp_engine.specs.Answers.{answer}
use Rattle.dp_engine.specs.Responses.{init_text}
use Rattle.dp_engine.specs.Served.{alone, answers}
use Rattle.dp_conversation.specs.Growth.{Begins}
use Rattle.dp_engine.specs.Session.{opening}

pub alone_grows : (bundle : Bundle) (bound : ℕ) (key bytes more : List ℕ)
    → Begins (alone bundle bound key bytes) (alone bundle bound key (bytes ++ more))
alone_grows bundle bound key bytes more =
    let g = served_goes_on answer (opening bundle bound) bytes more in
    let init = packet_frame (init_text bundle key) in
    let packets = (answers bundle bound bytes).packets in (
      flat_map packet_frame g.packets,
      ap (λ (l : List (List ℕ)). init ++ flat_map packet_frame l) g.more_packets
          ∙ ap (λ (l : List ℕ). init ++ l) (flat_map-append packet_frame packets g.packets)
          ∙ sym (append_assoc init (flat_map packet_frame packets) (flat_map packet_frame g.packets)),
    )
