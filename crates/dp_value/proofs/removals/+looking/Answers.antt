use Rattle.std.proofs.Common.{Result, IsOk, refl, sym, subst, ◌∙◌}
use Rattle.dp_value.specs.declared.errors.WriteError.{WriteError}
use Rattle.dp_value.specs.Data.{Data, data_of_table}
use Rattle.dp_value.specs.Value.{data_of}
use Rattle.dp_value.specs.inner.Removals.{IsAnswer}
use Rattle.dp_value.proofs.RemovalLemmas.{removed-under, removed-absent, removed-here, answer-behind}
use Rattle.dp_value.proofs.removals.+looking.Goals as goal

pub unchanged_in-returns-in_default-get : goal.unchanged_in-returns-in_default-get
unchanged_in-returns-in_default-get t c =
    removed-under c.args.key.now c.in-Some.key c.args.rest.now c.args.array.now c.in-Some.is
    ∙ removed-absent c.in-Some.key c.args.rest.now c.args.array.now (sym c.in_default-get.ensures)

pub unchanged_in-returns-then-is_empty : goal.unchanged_in-returns-then-is_empty
unchanged_in-returns-then-is_empty t c =
    subst (λ (r : Result Data WriteError). IsOk r)
    (sym (removed-under c.args.key.now c.in-Some.key c.args.rest.now c.args.array.now c.in-Some.is
    ∙ removed-here c.in-Some.key c.args.rest.now c.args.array.now (sym c.is_empty.ensures ∙ c.if-is_empty.true))) refl

pub unchanged_in-returns : goal.unchanged_in-returns
unchanged_in-returns t c =
    subst (λ (r : Result Data WriteError). IsAnswer r (data_of_table c.args.array.now) c.unchanged.result)
    (sym (removed-under c.args.key.now c.in-Some.key c.args.rest.now c.args.array.now c.in-Some.is))
    (answer-behind c.in-Some.key c.args.rest.now c.args.array.now (data_of c.in-Some-get.child.now)
    (sym c.is_empty.ensures ∙ c.if-is_empty.false) (sym c.in-Some-get.ensures) c.unchanged.result c.unchanged.ensures)
