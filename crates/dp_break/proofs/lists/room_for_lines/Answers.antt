use Rattle.std.proofs.Common.{◌∙◌, List, ℕ, ap, codes, length, arith}
use Rattle.dp_markup.specs.Texts.{attribute_text}
use Rattle.dp_packet.specs.Sizes.{counted}
use Rattle.dp_break.proofs.Lengths.{IsRoom, room_is}
use Rattle.dp_break.proofs.lists.room_for_lines.Goals as goal

room : (c : goal.After-attribute_size-id)
    → IsRoom c.args.to.now.command c.args.to.now.id c.args.to.now.command_bound c.args.to.now.id_bound
    c.attribute_size-command.result c.attribute_size-id.result
room c =
    room_is c.args.to.now.command c.args.to.now.id c.args.to.now.command_bound c.args.to.now.id_bound _ _
    (c.attribute_size-command.ensures
    ∙ ap (λ (v : List ℕ). counted (length (attribute_text (codes "command", v)))) c.as_slice.ensures)
    (c.attribute_size-id.ensures
    ∙ ap (λ (v : List ℕ). counted (length (attribute_text (codes "transaction_id", v)))) c.as_slice-2.ensures)

pub overflow_add-result : goal.overflow_add-result
overflow_add-result c = let r = (room c).name in omega arith

pub overflow_add-result-2 : goal.overflow_add-result-2
overflow_add-result-2 c = let r = (room c).name in let q = (room c).number in omega arith

pub overflow_sub-result : goal.overflow_sub-result
overflow_sub-result c = let r = (room c).name in let q = (room c).number in omega arith

pub returns : goal.returns
returns c = (room c).room
