use Rattle.std.proofs.Common.{ℕ, get_or, sym, ap, ◌∙◌, arith}
use Rattle.dp_value.proofs.LeftLemmas.{length-left, left-read, row-within}
use Rattle.dp_value.proofs.kept.nth.Goals as goal

pub row-found-requires : goal.row-found-requires
row-found-requires g c =
    omega (arith, c.requires.there, length-left c.args.start c.args.gone c.args.rows.now c.requires.within)

pub bounds-rows-found : goal.bounds-rows-found
bounds-rows-found g c =
    omega (
      arith,
      c.row-found.ensures,
      row-within c.args.start c.args.gone c.args.at c.args.rows.now c.requires.within c.requires.there,
    )

pub offset_bounds-rows-found : goal.offset_bounds-rows-found
offset_bounds-rows-found g c =
    omega (
      arith,
      c.row-found.ensures,
      row-within c.args.start c.args.gone c.args.at c.args.rows.now c.requires.within c.requires.there,
    )

pub returns : goal.returns
returns g c =
    c.index-rows-found.is
    ∙ ap (λ (n : ℕ). get_or c.args.rows.now n c.index-rows-found.result) c.row-found.ensures
    ∙ sym (left-read c.args.start c.args.gone c.args.at c.args.rows.now c.index-rows-found.result)
