use Rattle.std.proofs.Common.{ℕ, List, [], sym, ap, subst, ◌∙◌, map, string_bytes, ⊎_elim}
use Rattle.clap.specs.Faults.{fault_of, is_simple_and_free}
use Rattle.clap.specs.Kinds.{Kinds, HasKind}
use Rattle.clap.specs.Simple.{App, is_simple, subcommand_of}
use Rattle.dp_words.proofs.Leaves.{HasFault}
use Rattle.dp_words.proofs.Programs.{free, simple}
use Rattle.dp_words.proofs.CommandReadings.{IsRead, IsUnread}
use Rattle.dp_words.proofs.Readings.{reads}
use Rattle.dp_words.proofs.parser.parse.Goals as goal

pub returns-in-Ok-clause-found : goal.returns-in-Ok-clause-found
returns-in-Ok-clause-found c =
    let words : List (List ℕ) = map string_bytes c.args.words.now in
    let app = c.in_ok-program.ensures in
    let matches = (c.in-Ok.ensures.matches (ap is_simple app ∙ simple)).1 ∙ ap
    (λ (a : App). subcommand_of a words) app in
    let none = c.in-Ok.ensures.kinds (ap is_simple_and_free app ∙ free) in
    ⊎_elim (λ (r : IsRead words). record {
      given = r.given;
      words_are = r.words_are;
      plain = r.plain;
      rows = matches ∙ r.rows;
    })
    (λ (u : IsUnread words). absurd (subst HasFault (sym (ap (λ (a : App). fault_of a words) app) ∙ none) u.0))
    (reads words c.requires.plain)

pub returns-in-Err-clause-none : goal.returns-in-Err-clause-none
returns-in-Err-clause-none c = λ none task asks.
    let words : List (List ℕ) = map string_bytes c.args.words.now in
    let app = c.in_ok-program.ensures in
    let kinds = c.in-Err.ensures.kinds (ap is_simple_and_free app ∙ free) in
    ⊎_elim (λ (r : IsRead words).
    let among : HasKind [] c.in-Err.why = subst (λ (k : Kinds). HasKind k c.in-Err.why)
    (ap (λ (a : App). fault_of a words) app ∙ r.fine) kinds in
    ⊎_elim (λ out. (rw none at c.refused.ensures).1 out) (λ f. f) among)
    (λ (u : IsUnread words). u.1 task asks) (reads words c.requires.plain)
