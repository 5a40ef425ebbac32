use Rattle.std.proofs.Common.{◌||◌, ap, ◌∙◌}
use Rattle.std.specs.List.{list_any}
use Rattle.std.specs.Str.{str_eq_ignore_ascii_case}
use Rattle.dp_lexer.specs.Keywords.{other_words}
use Rattle.dp_lexer.proofs.reserved.is_reserved.Goals as goal

pub returns-else-is_keyword : goal.returns-else-is_keyword
returns-else-is_keyword c =
    c.is_among.ensures ∙ ap (λ k. k || list_any (λ word. str_eq_ignore_ascii_case c.args.name.now word) other_words)
    c.if-is_keyword.ensures
