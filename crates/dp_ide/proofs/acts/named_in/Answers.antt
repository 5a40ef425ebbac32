use Rattle.std.proofs.Common.{rules, ◌≡◌, ◌<◌, ℕ, List, Some, None, drop, sym, subst}
use Rattle.dp_ide.specs.Scripts.{Behind}
use Rattle.dp_ide.specs.inner.Readers.{IsNamed, Reads}
use Rattle.dp_ide.proofs.ActLaws.{reads_named, reads_unnamed}
use Rattle.dp_ide.proofs.LineLaws.{rest_is}
use Rattle.dp_ide.proofs.acts.named_in.Goals as goal

pub returns-then-end-eq0 : goal.returns-then-end-eq0
returns-then-end-eq0 c =
    let none : c.run_before-end.result ≡ 0 = search rules in
    reads_unnamed c.args.bytes.now c.run_before-end.result c.run_before-end.ensures none

pub returns-in-None : goal.returns-in-None
returns-in-None c =
    let bytes = c.args.bytes.now in
    let n = c.run_before-end.result in
    let some : 0 < n = search rules in
    let read = rw c.in-None.is at c.in_ok-text_behind.ensures in
    let is : Reads Behind (drop n bytes) None = subst (λ (l : List ℕ). Reads Behind l None) (rest_is n bytes) read in
    reads_named bytes n c.run_before-end.ensures some None is

pub returns-in_ok-from_slice-in-Some : goal.returns-in_ok-from_slice-in-Some
returns-in_ok-from_slice-in-Some c =
    let bytes = c.args.bytes.now in
    let n = c.run_before-end.result in
    let text = c.in-Some.text in
    let some : 0 < n = search rules in
    let read = rw c.in-Some.is at c.in_ok-text_behind.ensures in
    let is : Reads Behind (drop n bytes) (Some text) = subst (λ (l : List ℕ). Reads Behind l (Some text))
    (rest_is n bytes) read in
    subst (λ (name : List ℕ). Reads IsNamed bytes (Some (name, text))) (sym c.in_ok-from_slice-in-Some.ensures)
    (reads_named bytes n c.run_before-end.ensures some (Some text) is)
