use Rattle.std.proofs.Common.{◌&&◌, Bool, true, sym, ap, ◌∙◌}
use Rattle.std.specs.List.{list_all}
use Rattle.std.specs.Option.{option_map_or}
use Rattle.std.specs.Option.{option_copied}
use Rattle.dp_tree.specs.declared.tree.StatementKind.{StatementKind}
use Rattle.dp_analysis.specs.Quiet.{is_quiet}
use Rattle.dp_analysis.specs.Still.{calls_of}
use Rattle.dp_analysis.specs.inner.Parts.{arm_is_quiet, kind_is_quiet}
use Rattle.dp_analysis.proofs.TreeQuiet.{block_quiet, if_quiet}
use Rattle.dp_analysis.proofs.quiet.+statements.Goals as goal

pub kind_is_quiet-returns-in-Block : goal.kind_is_quiet-returns-in-Block
kind_is_quiet-returns-in-Block t c =
    let lines = c.args.lines.now in
    let loud = calls_of (option_copied c.args.loud) in
    c.all_quiet.ensures ∙ ap (list_all (is_quiet lines loud)) c.as_slice-in-Block.ensures
    ∙ sym (block_quiet lines loud c.in-Block.all c.args.line)
    ∙ ap (λ (k : StatementKind). kind_is_quiet lines loud k c.args.line) (sym c.in-Block.is)

pub kind_is_quiet-returns-then-arms_are_quiet : goal.kind_is_quiet-returns-then-arms_are_quiet
kind_is_quiet-returns-then-arms_are_quiet t c =
    let lines = c.args.lines.now in
    let loud = calls_of (option_copied c.args.loud) in
    c.otherwise_is_quiet.ensures
    ∙ ap (λ (b : Bool). b && option_map_or (is_quiet lines loud) c.in-If.otherwise true)
    (sym c.if-arms_are_quiet.true ∙ c.arms_are_quiet.ensures
    ∙ ap (list_all (arm_is_quiet lines loud)) c.as_slice-in-If.ensures)
    ∙ sym (if_quiet lines loud c.in-If.arms c.in-If.otherwise c.args.line)
    ∙ ap (λ (k : StatementKind). kind_is_quiet lines loud k c.args.line) (sym c.in-If.is)

pub kind_is_quiet-returns-else-arms_are_quiet : goal.kind_is_quiet-returns-else-arms_are_quiet
kind_is_quiet-returns-else-arms_are_quiet t c =
    let lines = c.args.lines.now in
    let loud = calls_of (option_copied c.args.loud) in
    c.if-arms_are_quiet.false
    ∙ ap (λ (b : Bool). b && option_map_or (is_quiet lines loud) c.in-If.otherwise true)
    (sym c.if-arms_are_quiet.false ∙ c.arms_are_quiet.ensures
    ∙ ap (list_all (arm_is_quiet lines loud)) c.as_slice-in-If.ensures)
    ∙ sym (if_quiet lines loud c.in-If.arms c.in-If.otherwise c.args.line)
    ∙ ap (λ (k : StatementKind). kind_is_quiet lines loud k c.args.line) (sym c.in-If.is)
