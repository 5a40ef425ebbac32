use Rattle.std.proofs.Common.{◌≡◌, ◌++◌, codes, refl, ap, ◌∙◌, append-nil, append_assoc}
use Rattle.dp_markup.specs.Outputs.{behind}
use Rattle.dp_markup.specs.Texts.{nodes_text}
use Rattle.dp_packet.specs.declared.packet.BreakLine.{BreakLine}
use Rattle.dp_packet.specs.Breakpoints.{expression_nodes, hit_attributes, kind_attributes, kind_name, place_attributes, resolved_attribute, rule_name, state_name}
use Rattle.dp_packet.specs.Parts.{Attributes, element, flag}
use Rattle.dp_packet.specs.inner.Shown.{break_list, tag_text}
use Rattle.dp_packet.proofs.OutLaws.{node_put}
use Rattle.dp_packet.proofs.breakpoints.put_breakpoint.Goals as goal

abbrev all_attributes : BreakLine → Attributes
all_attributes b =
    kind_attributes b ++ place_attributes b ++ hit_attributes b ++ resolved_attribute b.resolved

as_put : (b : BreakLine)
    → break_list b (kind_name b.kind) (state_name b.enabled) (rule_name b.hit_rule) (flag b.temporary)
    ≡ all_attributes b
as_put b = simp (append_assoc, append-nil)

pub returns : goal.returns
returns g c =
    let seen = g.O.Output.seen in
    let line = c.args.line.now in
    node_put c.put_close.result (seen c.args.out.now) (seen c.put_start.new.out) (seen c.put_expression.new.out)
    (seen c.put_close.new.out)
    (element (codes "breakpoint") (all_attributes line) (expression_nodes line.expression))
    (nodes_text (expression_nodes line.expression)) refl
    (c.in_ok-put_start.ensures
    ∙ ap (λ (a : Attributes). behind (seen c.args.out.now) (tag_text (codes "breakpoint") a))
    ((λ i. break_list line (c.kind_name.ensures i) (c.state_name.ensures i) (c.rule_name.ensures i) (c.flag.ensures i))
    ∙ as_put line))
    c.in_ok-put_expression.ensures c.put_close.ensures
