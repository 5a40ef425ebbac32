use Rattle.std.proofs.Common.{◌∷◌, [], false, Some, Result, refl, ap, sym, ◌∙◌, arith}
use Rattle.dp_value.specs.declared.errors.WriteError.{WriteError}
use Rattle.dp_value.specs.Data.{Data}
use Rattle.dp_value.specs.Entry.{entry_at, within}
use Rattle.dp_value.specs.inner.Writes.{cause_of}
use Rattle.dp_value.proofs.WriteLemmas.{cause-behind, IsBehind}
use Rattle.dp_value.proofs.refusals.push_refusal.Goals as goal

pub returns-in_default : goal.returns-in_default
returns-in_default c =
    λ new weighs.
    sym (ap (λ (r : Result Data WriteError). cause_of (within c.args.beside r))
    (c.in_default.ensures new c.args.array.now (sym c.largest.ensures)))

pub returns : goal.returns
returns c =
    λ new weighs.
    let is : IsBehind c.args.beside c.saturating_add.result (Some c.in-Some.key ∷ []) c.in-Some.key []
    c.args.array.now (entry_at c.args.array.now c.in-Some.key) = record {
      room = omega (arith, c.entry-others.ensures.beside, c.saturating_add.ensures);
      first = refl;
      entry = refl;
    } in
    c.too_heavy.ensures new weighs
    ∙ cause-behind c.args.beside c.saturating_add.result (Some c.in-Some.key ∷ []) c.in-Some.key [] false new
    c.args.array.now (entry_at c.args.array.now c.in-Some.key) is
    ∙ sym (ap (λ (r : Result Data WriteError). cause_of (within c.args.beside r))
    (c.in-Some.ensures new c.args.array.now (sym c.largest.ensures)))
