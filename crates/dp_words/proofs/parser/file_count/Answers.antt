use Rattle.std.proofs.Common.{ℕ, List, Option, sym, ap, ◌∙◌, codes, length}
use Rattle.std.specs.Option.{option_map_or}
use Rattle.std.proofs.lemmas.List.{length-map}
use Rattle.clap.specs.Words.{found_of}
use Rattle.clap.proofs.WalkLemmas.{raw_values-rows}
use Rattle.dp_words.proofs.parser.file_count.Goals as goal

abbrev counted : Option (List (List ℕ)) → ℕ
counted found = option_map_or (λ (words : List (List ℕ)). length words) found 0

pub returns-in-Some : goal.returns-in-Some
returns-in-Some c =
    sym (length-map c.in-Some.raw.now (λ v. v.now))
    ∙ ap counted (c.in-Some.ensures ∙ raw_values-rows (found_of c.args.given.now) (codes "FILE"))

pub returns-in-None : goal.returns-in-None
returns-in-None c = ap counted (c.in-None.ensures ∙ raw_values-rows (found_of c.args.given.now) (codes "FILE"))
