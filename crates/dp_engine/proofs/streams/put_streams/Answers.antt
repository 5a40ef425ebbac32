use Rattle.std.proofs.Common.{◌<◌, ◌++◌, ◌∷◌, [], length, ap, arith, length-drop, sym, ◌∙◌}
use Rattle.std.proofs.lemmas.Grind.{common_steps}
use Rattle.dp_engine.specs.Responses.{streams}
use Rattle.dp_engine.proofs.StreamPackets.{put_on}
use Rattle.dp_engine.proofs.streams.put_streams.Goals as goal

pub loop-rest-smaller : goal.loop-rest-smaller
loop-rest-smaller c =
    let some : 0 < length c.loop-rest.rest.now = grind (arith, common_steps) in
    omega (arith, some, ap length c.first_piece.ensures.rest, length-drop 4096 c.loop-rest.rest.now)

pub loop-rest-preserved : goal.loop-rest-preserved
loop-rest-preserved c =
    let some : 0 < length c.loop-rest.rest.now = grind (arith, common_steps) in
    let next = c.first_piece.result.1.now in
    put_on c.loop-rest.texts.items (c.args.texts.now.items ++ streams c.args.output.now) c.loop-rest.rest.now
    c.first_piece.result.0.now next some
    c.first_piece.ensures.piece c.first_piece.ensures.rest c.loop-rest.invariant
    ∙ ap (λ l. l ++ streams next) (ap (λ t. c.loop-rest.texts.items ++ t ∷ []) (sym c.in_ok-stream_text.ensures)
    ∙ sym c.in_ok-push.ensures.items)
