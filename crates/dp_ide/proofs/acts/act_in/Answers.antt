use Rattle.std.proofs.Common.{rules, ◌≡◌, ◌≢◌, true, List, ℕ, IfOk, codes, sym, subst, ◌∙◌}
use Rattle.std.proofs.lemmas.Bool.Decides.{Decides-eqb}
use Rattle.std.proofs.lemmas.Slice.Eq.{slice_eq-Decides}
use Rattle.dp_ide.specs.Scripts.{ActLine}
use Rattle.dp_ide.specs.inner.Readers.{Reads}
use Rattle.dp_ide.proofs.ActLaws.{reads_nothing, reads_print}
use Rattle.dp_ide.proofs.acts.act_in.Goals as goal

pub returns-in-Some : goal.returns-in-Some
returns-in-Some c =
    subst (λ (l : List ℕ). IfOk c.send_in.result (Reads ActLine l)) (sym c.in-Some.ensures) c.send_in.ensures

pub returns-in-Some-behind : goal.returns-in-Some-behind
returns-in-Some-behind c =
    subst (λ (l : List ℕ). IfOk c.attr_in.result (Reads ActLine l)) (sym c.in-Some-behind.ensures) c.attr_in.ensures

pub returns-in-Some-behind-2 : goal.returns-in-Some-behind-2
returns-in-Some-behind-2 c =
    subst (λ (l : List ℕ). Reads ActLine l c.code_in.result) (sym c.in-Some-behind-2.ensures) c.code_in.ensures

pub returns-in-Some-behind-3 : goal.returns-in-Some-behind-3
returns-in-Some-behind-3 c =
    subst (λ (l : List ℕ). IfOk c.prop_in.result (Reads ActLine l)) (sym c.in-Some-behind-3.ensures) c.prop_in.ensures

pub returns-then-eq : goal.returns-then-eq
returns-then-eq c =
    let same : c.args.line.now ≡ codes "print" = search rules in
    reads_print c.args.line.now same

pub returns-in-None : goal.returns-in-None
returns-in-None c =
    let line = c.args.line.now in
    let print : line ≢ codes "print" = λ same.
    let equal : c.eq.result ≡ true = (slice_eq-Decides Decides-eqb line c.as_slice.result.now c.eq.result
    c.eq.ensures).1 (same ∙ sym c.as_slice.ensures) in cc in
    reads_nothing line c.in_default.ensures c.in_default-behind.ensures c.in_default-behind-2.ensures
    c.in_default-behind-3.ensures print c.in-None.ensures
