use Rattle.std.proofs.Common.{◌≡◌, ℕ, List, Option, Some, is_some, IfOk, sym, ap, subst, ◌∙◌}
use Rattle.std.specs.Map.{lookup}
use Rattle.std.specs.Option.{IsSome}
use Rattle.std.proofs.lemmas.Result.{on_err_weaker}
use Rattle.std.specs.Str.{bytes_eq}
use Rattle.dp_value.specs.declared.value.Value.{Value}
use Rattle.dp_value.proofs.AgainLemmas.{on_err_is}
use Rattle.dp_state.specs.Constants.{standing}
use Rattle.dp_state.proofs.ConstantSteps.{from_the_start, some_map, of_the_program}
use Rattle.dp_state.proofs.state.State.constant.Goals as goal

pub returns-in_ok-standing_value-in-Some-clause-ok : goal.returns-in_ok-standing_value-in-Some-clause-ok
returns-in_ok-standing_value-in-Some-clause-ok c =
    ap (λ (v : Value). Some v) c.in_ok-standing_value-in-Some.ensures
    ∙ from_the_start c.args.name.now c.args.self.now c.standing_named.result _ c.in-Some.is
    (c.standing_named.ensures ∙ ap (λ (n : List ℕ). lookup (bytes_eq n) standing) c.as_slice.ensures)

pub returns-in_err-standing_value-in-Some-clause-sure : goal.returns-in_err-standing_value-in-Some-clause-sure
returns-in_err-standing_value-in-Some-clause-sure c =
    on_err_is _ _ (sym (ap (λ (o : Option Value). is_some o)
    (from_the_start c.args.name.now c.args.self.now c.standing_named.result _ c.in-Some.is
    (c.standing_named.ensures ∙ ap (λ (n : List ℕ). lookup (bytes_eq n) standing) c.as_slice.ensures))))

pub returns-in-None-clause-ok : goal.returns-in-None-clause-ok
returns-in-None-clause-ok c =
    subst (λ (v : Option Value). IfOk c.copied.result (λ copy. copy ≡ v))
    (of_the_program c.args.name.now c.args.self.now c.standing_named.result _ c.in-None.is
    (c.standing_named.ensures ∙ ap (λ (n : List ℕ). lookup (bytes_eq n) standing) c.as_slice.ensures) c.held.ensures)
    c.copied.ensures.ok

pub returns-in-None-clause-sure : goal.returns-in-None-clause-sure
returns-in-None-clause-sure c =
    on_err_weaker c.copied.result (λ (there : IsSome c.held.result).
    sym (ap (λ (o : Option Value). is_some o)
    (of_the_program c.args.name.now c.args.self.now c.standing_named.result _ c.in-None.is
    (c.standing_named.ensures ∙ ap (λ (n : List ℕ). lookup (bytes_eq n) standing) c.as_slice.ensures) c.held.ensures))
    ∙ (some_map _ c.held.result ∙ there)) c.copied.ensures.sure
