use Rattle.std.proofs.Common.{◌+◌, ◌-◌, List, ℕ, take, drop, subst}
use Rattle.dp_ide.specs.Messages.{IsMessage}
use Rattle.dp_ide.proofs.AwaitLaws.{takes_front}
use Rattle.dp_ide.proofs.waits.next_message.Goals as goal

pub returns-in-Ok-Some-clause-ok : goal.returns-in-Ok-Some-clause-ok
returns-in-Ok-Some-clause-ok g c =
    let h = c.in-Ok.ensures.ok in
    let here = c.next_range.new.packets in
    let range = c.in-Ok.range in
    let text = take (range.end - range.start) (drop range.start here.held) in
    let message = c.in-Ok-Some.message in
    let read = rw c.in-Ok-Some.field-0-is at c.in-Ok-Some.ensures.some in
    let is : IsMessage text message = subst (λ (l : List ℕ). IsMessage
    (take (range.end - range.start) (drop range.start l)) message) c.bytes.ensures read in record {
      piece = h.piece;
      consumed = h.consumed;
      text = text;
      wanted = h.wanted text;
      takes =
          takes_front c.args.packets.now here c.drop_front.new.self h.piece text
          (drop (range.end + 1) here.held) h.more h.begins (c.drop_front.ensures.held _ _ h.begins)
          (c.drop_front.ensures.dropped _ _ h.begins);
      is = is;
    }
