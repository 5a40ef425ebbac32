use Rattle.std.proofs.Common.{◌≡◌, List, ℕ, Option, Result, codes, sym, ◌∙◌, subst}
use Rattle.dp_markup.specs.declared.errors.MarkupError.{MarkupError}
use Rattle.dp_markup.specs.declared.errors.MarkupError.TheVariants.{BadMarkup, Memory}
use Rattle.dp_markup.specs.Grammar.{root_value}
use Rattle.dp_markup.specs.Verdict.{GivesValue}
use Rattle.dp_proxy.proofs.KeyLaws.{gives, only}
use Rattle.dp_proxy.proofs.inits.key_of_init.Goals as goal

pub returns-in-Ok-clause-found : goal.returns-in-Ok-clause-found
returns-in-Ok-clause-found c =
    gives c.args.text.now c.in-Ok.value c.key_in.result c.key_in.ensures.found c.in-Ok.ensures.found

pub returns-in-Ok-clause-only : goal.returns-in-Ok-clause-only
returns-in-Ok-clause-only c = λ key g.
    only c.args.text.now c.in-Ok.value c.key_in.result c.key_in.ensures.found c.key_in.ensures.bad c.in-Ok.ensures.only
    key g

pub returns-in-Err-BadMarkup-clause-only : goal.returns-in-Err-BadMarkup-clause-only
returns-in-Err-BadMarkup-clause-only c = λ key g.
    let m = subst (λ (r : Result (Option (List ℕ)) MarkupError). GivesValue r
    (root_value g.tag (codes "init") (codes "idekey"))) c.in-Err-BadMarkup.is
    (c.head_attribute.ensures.only g.tag g.begins) in
    let clash : BadMarkup c.in-Err-BadMarkup.field-0-0 ≡ Memory = sym c.in-Err-BadMarkup.field-0-is ∙ m in
    absurd (not_memory c.in-Err-BadMarkup.field-0-0 clash)
  where
    not_memory : (at : ℕ) → BadMarkup at ≡ Memory → ⊥
    not_memory at e = cc
