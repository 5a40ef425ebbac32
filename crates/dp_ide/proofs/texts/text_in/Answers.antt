use Rattle.std.proofs.Common.{rules, ◌≡◌, ◌≢◌, true, eqb, List, ℕ, [], ◌∷◌, ◌++◌, Some, None, length, sym, ap, ◌∙◌, subst}
use Rattle.std.proofs.lemmas.Bool.{eqb-true}
use Rattle.std.proofs.lemmas.List.{nil_from_length}
use Rattle.dp_ide.specs.Scripts.{Text}
use Rattle.dp_ide.specs.inner.Readers.{Reads, ReadsOn, first_of}
use Rattle.dp_ide.proofs.TextLaws.{reads_all, reads_more, reads_none}
use Rattle.dp_ide.proofs.texts.text_in.Goals as goal

pub returns-in_default : goal.returns-in_default
returns-in_default c =
    let rest = c.bytes.rest.now in
    let first : first_of rest ≡ None = search rules in
    let some : rest ≢ [] = λ none. let empty : c.is_empty.result ≡ true = c.is_empty.ensures ∙ ap
    (λ (l : List ℕ). eqb (length l) 0) none in cc in
    reads_none c.args.bytes.now c.bytes.text.items rest some first c.bytes.invariant

pub bytes-preserved : goal.bytes-preserved
bytes-preserved c =
    let rest = c.bytes.rest.now in
    let first : first_of rest ≡ Some (c.in-Some.byte, c.in-Some.behind.now) = search rules in
    let items : c.push.new.self.items ≡ c.bytes.text.items ++ c.in-Some.byte ∷ [] = search rules in
    subst (λ (text : List ℕ). ReadsOn c.args.bytes.now text c.in-Some.behind.now) (sym items)
    (reads_more c.args.bytes.now c.bytes.text.items rest c.in-Some.byte c.in-Some.behind.now c.bytes.invariant first)

pub returns : goal.returns
returns c =
    let rest = c.bytes.rest.now in
    let empty : eqb (length rest) 0 ≡ true = search rules in
    let none : rest ≡ [] = nil_from_length rest (eqb-true (length rest) 0 empty) in
    subst (λ (text : List ℕ). Reads Text c.args.bytes.now (Some text)) (sym c.of.ensures)
    (reads_all c.args.bytes.now c.bytes.text.items rest none c.bytes.invariant)
