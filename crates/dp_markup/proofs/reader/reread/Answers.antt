use Rattle.std.proofs.Common.{sym, subst, ◌∙◌}
use Rattle.dp_markup.specs.Grammar.{IsMarkup}
use Rattle.dp_markup.proofs.RoundTrip.{written_is_markup}
use Rattle.dp_markup.proofs.reader.reread.Goals as goal

pub returns : goal.returns
returns c =
    let element = c.args.element.now in
    let text = c.as_slice.ensures ∙ c.in_ok-text.ensures in
    c.read.ensures.only element (subst (λ l. IsMarkup l element) (sym text) (written_is_markup element c.requires))
