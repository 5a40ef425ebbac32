use Rattle.std.proofs.Common.{refl, sym}
use Rattle.dp_small_steps.proofs.parts.receive_part.Goals as goal

pub returns-in-More : goal.returns-in-More
returns-in-More c = λ setting. rw c.in-More.is (c.more.ensures setting c.args.state.now)

pub returns-in-PushItem : goal.returns-in-PushItem
returns-in-PushItem c = λ setting. rw c.in-PushItem.is (c.lengthened.ensures setting _ _ c.pushed.ensures)

pub returns-in-KeyItem : goal.returns-in-KeyItem
returns-in-KeyItem c =
    λ setting. record { by = λ k. rw c.in-KeyItem.is (sym (c.keyed_item.ensures setting k c.args.state.now)) }

pub returns-in-PutItem : goal.returns-in-PutItem
returns-in-PutItem c = λ setting. rw c.in-PutItem.is (c.put_item.ensures setting)

pub returns-in-Links : goal.returns-in-Links
returns-in-Links c = λ setting. record { by = λ k. rw (c.in-Links.is, c.alone.ensures) refl }

pub returns-in-Tested : goal.returns-in-Tested
returns-in-Tested c =
    λ setting. record { by = λ k. rw (c.in-Tested.is, c.alone-in-Tested.ensures, c.holds.ensures) refl }

pub returns-in-Operate : goal.returns-in-Operate
returns-in-Operate c = λ setting. rw c.in-Operate.is (c.operate.ensures setting)

pub returns-in-Under : goal.returns-in-Under
returns-in-Under c = λ setting. record { by = λ k. rw (c.in-Under.is, c.alone-in-Under.ensures) refl }

pub returns-in-Entry : goal.returns-in-Entry
returns-in-Entry c = λ setting. rw c.in-Entry.is (c.read_entry.ensures setting)
