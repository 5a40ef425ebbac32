-- What is kept by each step of a program is true at each moment of its run and at its end: it goes alike with itself.
use Rattle.std.proofs.Common.{◌≡◌, ℕ, ◌+◌, List, Ok, arith}
use Rattle.dp_tree.specs.CodeLines.{body_lines}
use Rattle.dp_tree.specs.declared.bundle.Bundle.{Bundle}
use Rattle.dp_state.specs.declared.state.State.{State}
use Rattle.dp_state.specs.States.{opening, printed}
use Rattle.dp_actions.specs.Bodies.{statements_of}
use Rattle.dp_actions.specs.Run.{Run, Done, Over, At}
use Rattle.dp_meaning.specs.Programs.{program_run}
use Rattle.dp_meaning.proofs.Alike.{Alike, Facts, IsKept, all-lines}
use Rattle.dp_meaning.proofs.AlikePrograms.{Alike-program}
use Rattle.dp_meaning.proofs.Apart.{IsApart, IsBeside, part-assigned, part-called, part-constant, part-global, part-included, part-unset}
use Rattle.dp_meaning.proofs.Each.{each-all}

module _ {D : Type 0} (P : D → ℕ → State → Type 0) where
  -- a fact of the state after so many moments is true, whatever is done to the states at the moments that leaves
  -- it true
  abbrev pub Always : {A : Type 0} → D → ℕ → Run A → Type 0
  Always d n (Done a s) = P d n s
  Always d n (Over o s) = (e : D) × P e n s
  Always d n (At kind line s go) = (e : D) × P e n s × ((t : State) → P e (n + 1) t → Always d (n + 1) (go t))

  -- nothing is asked of lines, nor of the bound
  abbrev pub of_states : Facts D
  of_states = record { state = P; line = λ d line. Unit {0}; down = λ file d. d; bound = 0 }

  always : {A : Type 0} (d : D) (n : ℕ) (r : Run A) → Alike of_states d n r r → Always d n r
  always d n (Done a s) h = h.0
  always d n (Over o s) h = (h.0, h.1)
  always d n (At kind line s go) h = (h.0, h.1, λ t p. always d (n + 1) (go t) (h.2 t p))

  pub Always-program : (bundle : Bundle) → IsKept of_states bundle → (bound : ℕ) (d : D) → P d 0 (opening bundle)
      → Always d 0 (program_run bundle bound)
  Always-program bundle kept bound d p =
      always d 0 (program_run bundle bound)
      (Alike-program of_states bundle kept (all-lines of_states bundle (λ d line. tt)) bound (omega arith) d
      (each-all _ (λ line. tt) (body_lines (statements_of bundle 0))) p)

  -- a fact of a part of a state that steps leave alone, but what they print
  pub kept-part : {X : Type 0} (part : State → X) → IsApart part → IsBeside part
      → ((d : D) (n : ℕ) (s t : State) → part t ≡ part s → P d n s → P d n t)
      → ((d : D) (n : ℕ) (piece : List ℕ) (s t : State) → printed piece s ≡ Ok t → P d n s → P d n t)
      → (bundle : Bundle) → IsKept of_states bundle
  kept-part part apart beside same prints bundle = record {
    assigns = λ d n level name keys push v s t e p.
        same d n s t (part-assigned part apart level name keys push v s t e) p;
    unsets = λ d n name keys s t e p. same d n s t (part-unset part apart name keys s t e) p;
    binds = λ d n name s p. same d n s _ (part-global part apart name s) p;
    defines = λ d n name v s p. same d n s _ (part-constant part apart name v s) p;
    prints = prints;
    calls = λ d n file f values s t within e p. same d n s t (part-called part beside file f values s t e) p;
    includes = λ d n file s t within e p. same d n s t (part-included part beside bundle file s t e) p;
    leaves = λ d n file s p. same d n s _ (beside.frames _ s) p;
  }
