use Rattle.std.proofs.Common.{◌≡◌, ◌≤◌, ◌∙◌, length, Some, ap, sym, subst, arith}
use Rattle.std.specs.Prelude.{Result, IfOk, IfErr}
use Rattle.dp_parse.specs.ExpressionIn.{expression_in}
use Rattle.dp_tree.specs.declared.tree.Expression.{Expression}
use Rattle.dp_break.specs.declared.errors.BreakError.{BreakError}
use Rattle.dp_break.specs.Conditions.{condition_of, expression_limit}
use Rattle.dp_break.specs.inner.Causes.{IsNoTree}
use Rattle.dp_break.proofs.Requests.{pure_found, pure_refused, too_long, why_none}
use Rattle.dp_break.proofs.conditions.condition_of.Goals as goal

pub returns-in-Ok-clause-found : goal.returns-in-Ok-clause-found
returns-in-Ok-clause-found c =
    let text = c.args.text.now in
    let short : length text ≤ expression_limit = omega arith in
    subst (λ (r : Result Expression BreakError). IfOk r (λ e. condition_of text ≡ Some e)) (sym c.pure_only.ensures)
    (pure_found text short c.in-Ok.e (ap expression_in (sym c.as_slice.ensures) ∙ c.in-Ok.ensures.read))

pub returns-in-Ok-clause-refused : goal.returns-in-Ok-clause-refused
returns-in-Ok-clause-refused c =
    let text = c.args.text.now in
    let short : length text ≤ expression_limit = omega arith in
    subst (λ (r : Result Expression BreakError). IfErr r (IsNoTree (Some text))) (sym c.pure_only.ensures)
    (pure_refused text short c.in-Ok.e (ap expression_in (sym c.as_slice.ensures) ∙ c.in-Ok.ensures.read))

pub returns-in-Err-clause-refused : goal.returns-in-Err-clause-refused
returns-in-Err-clause-refused c =
    let text = c.args.text.now in
    let short : length text ≤ expression_limit = omega arith in
    subst (IsNoTree (Some text)) (sym c.no_expression.ensures)
    (why_none text short c.in-Err.why (λ some. ap expression_in (sym c.as_slice.ensures) ∙ c.in-Err.ensures.read some))

pub returns-then-len-gt-EXPRESSION_LIMIT-clause-refused : goal.returns-then-len-gt-EXPRESSION_LIMIT-clause-refused
returns-then-len-gt-EXPRESSION_LIMIT-clause-refused c = too_long c.args.text.now (omega arith)
