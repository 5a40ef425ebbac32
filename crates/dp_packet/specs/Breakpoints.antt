-- Breakpoints as elements (DBGp 1.0, "Breakpoints").
use Rattle.std.specs.Prelude.{ℕ, Bool, true, false, List, [], ◌∷◌, ◌++◌, Option, Some, None, codes, decimal}
use Rattle.dp_markup.specs.declared.tree.Node.{Node}
use Rattle.dp_packet.specs.declared.packet.BreakKind.{BreakKind}
use Rattle.dp_packet.specs.declared.packet.BreakKind.TheVariants.{Line, Call, Return, Conditional}
use Rattle.dp_packet.specs.declared.packet.HitRule.{HitRule}
use Rattle.dp_packet.specs.declared.packet.HitRule.TheVariants.{AtLeast, Exactly, Multiple}
use Rattle.dp_packet.specs.declared.packet.BreakLine.{BreakLine}
use Rattle.dp_packet.specs.Parts.{Text, Attributes, child, text_nodes, given, flag, mark}

abbrev pub kind_name : BreakKind → Text
kind_name Line = codes "line"
kind_name Call = codes "call"
kind_name Return = codes "return"
kind_name Conditional = codes "conditional"

abbrev pub rule_name : HitRule → Text
rule_name AtLeast = codes ">="
rule_name Exactly = codes "=="
rule_name Multiple = codes "%"

abbrev pub state_name : Bool → Text
state_name true = codes "enabled"
state_name false = codes "disabled"

abbrev pub given_number : Text → Option ℕ → Attributes
given_number name None = []
given_number name (Some n) = (name, decimal n) ∷ []

-- what it is, where it is, and its hits
abbrev pub kind_attributes : BreakLine → Attributes
kind_attributes b =
    (codes "id", decimal b.id) ∷ (codes "type", kind_name b.kind)
    ∷ (codes "state", state_name b.enabled) ∷ []

abbrev pub place_attributes : BreakLine → Attributes
place_attributes b =
    given (codes "filename") b.uri ++ given_number (codes "lineno") b.line
    ++ given (codes "function") b.function

abbrev pub count_attributes : BreakLine → Attributes
count_attributes b =
    (codes "hit_count", decimal b.hits) ∷ (codes "hit_value", decimal b.hit_value) ∷ []

abbrev pub rule_attribute : HitRule → Text × Text
rule_attribute rule = (codes "hit_condition", rule_name rule)

abbrev pub hit_attributes : BreakLine → Attributes
hit_attributes b =
    count_attributes b ++ rule_attribute b.hit_rule ∷ (codes "temporary", flag b.temporary) ∷ []

-- whether its line is what the engine made of the one that was asked for: what is not says nothing
abbrev pub resolved_attribute : Bool → Attributes
resolved_attribute resolved = mark (codes "resolved") resolved

abbrev pub expression_nodes : Option Text → List Node
expression_nodes None = []
expression_nodes (Some text) = child (codes "expression") [] (text_nodes text) ∷ []

abbrev pub breakpoint_node : BreakLine → Node
breakpoint_node b =
    child (codes "breakpoint")
    (kind_attributes b ++ place_attributes b ++ hit_attributes b ++ resolved_attribute b.resolved)
    (expression_nodes b.expression)
