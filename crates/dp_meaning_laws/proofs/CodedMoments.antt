-- Each moment before a statement, a test or a binding stands on a line of its file that has code.
use Rattle.std.proofs.Common.{◌≡◌, ℕ, zero, suc, ◌+◌, ◌-◌, ◌<◌, Bool, true, false, List, [], ◌∷◌, ◌++◌, length, Option, Some, None, refl, sym, ap, ◌∙◌, subst, arith, eq-eqb}
use Rattle.std.proofs.lemmas.List.{length-map}
use Rattle.std.specs.Option.{option_map_or}
use Rattle.std.specs.Prelude.{◌||◌, nat_eq, slice_get}
use Rattle.dp_tree.specs.CodeLines.{body_lines, file_lines, has_line}
use Rattle.dp_tree.specs.declared.bundle.Bundle.{Bundle}
use Rattle.dp_tree.specs.declared.bundle.BundleFile.{BundleFile}
use Rattle.dp_state.specs.declared.moments.Moment.{Moment}
use Rattle.dp_state.specs.declared.moments.MomentKind.{MomentKind}
use Rattle.dp_state.specs.declared.moments.MomentKind.TheVariants.{Place, Enter, Leave}
use Rattle.dp_state.specs.declared.state.Frame.{Frame}
use Rattle.dp_state.specs.declared.state.State.{State}
use Rattle.dp_state.specs.States.{with_line}
use Rattle.dp_meaning.specs.declared.writes.NumberedWrite.{NumberedWrite}
use Rattle.dp_meaning_laws.specs.Coded.{HasCode}
use Rattle.dp_actions.specs.Bodies.{statements_of}
use Rattle.dp_meaning.specs.Trace.{moment_at, moment_of, program_trace}
use Rattle.dp_meaning.specs.Writes.{arrived}
use Rattle.dp_meaning.proofs.Alike.{HaveLines, Stands}
use Rattle.dp_meaning.proofs.Each.{Each, each-left}
use Rattle.dp_meaning.proofs.Frames.{files_in, files-with_line}
use Rattle.dp_meaning.proofs.OfBundle.{Stack, facts, main_file, with_file}
use Rattle.dp_meaning.proofs.Traces.{Comes, along-program}

-- ---- the file and the line of the top frame

abbrev last : ℕ → List ℕ → ℕ
last x [] = x
last x (y ∷ ys) = last y ys

last-push : (x : ℕ) (ys : List ℕ) (z : ℕ) → last x (ys ++ z ∷ []) ≡ z
last-push x [] z = refl
last-push x (y ∷ ys) z = last-push y ys z

top-next : (f : Frame) (fs : List Frame) → 0 < length fs
    → slice_get (f ∷ fs) (length (f ∷ fs) - 1) ≡ slice_get fs (length fs - 1)
top-next f [] some = absurd (omega arith)
top-next f (g ∷ fs) some =
    let e : suc (suc (length fs)) - 1 ≡ suc (suc (length fs) - 1) = omega arith in ap (slice_get (f ∷ g ∷ fs)) e

top-file : (f : Frame) (fs : List Frame)
    → option_map_or (λ f. f.file) (slice_get (f ∷ fs) (length (f ∷ fs) - 1)) 0 ≡ last f.file (files_in fs)
top-file f [] = refl
top-file f (g ∷ fs) = ap (λ o. option_map_or (λ f. f.file) o 0) (top-next f (g ∷ fs) (omega arith)) ∙ top-file g fs

file-is : (fs : List Frame) (x : ℕ) (ys : List ℕ) → files_in fs ≡ x ∷ ys
    → option_map_or (λ (f : Frame). f.file) (slice_get fs (length fs - 1)) 0 ≡ last x ys
file-is [] x ys e = absurd (cc)
file-is (f ∷ fs) x ys e =
    let first : f.file ≡ x = cc in
    let rest : files_in fs ≡ ys = cc in top-file f fs ∙ (λ i. last (first i) (rest i))

line-is : (line : ℕ) (f : Frame) (fs : List Frame)
    → option_map_or (λ (f : Frame). f.line) (slice_get (with_line line (f ∷ fs)) (length (with_line line (f ∷ fs)) - 1))
    0 ≡ line
line-is line f [] = refl
line-is line f (g ∷ fs) =
    ap (λ o. option_map_or (λ (f : Frame). f.line) o 0) (top-next f (with_line line (g ∷ fs)) some) ∙ line-is line g fs
  where
    file : Frame → ℕ
    file f = f.file

    some : 0 < length (with_line line (g ∷ fs))
    some =
        omega (
          arith,
          length-map (with_line line (g ∷ fs)) (λ (f : Frame). f.file),
          ap length (files-with_line line (g ∷ fs)),
        )

-- ---- lines of files

either-true : (a b : Bool) → b ≡ true → (a || b) ≡ true
either-true true b e = refl
either-true false b e = e

each-own : (Q : ℕ → Type 0) (lines : List ℕ) → ((line : ℕ) → has_line lines line ≡ true → Q line) → Each Q lines
each-own Q [] all = tt
each-own Q (line ∷ lines) all = (
  all line (rw (eq-eqb line line refl) refl),
  each-own Q lines
      (λ other e. all other (either-true (nat_eq line other) (has_line lines other) e)),
)

module _ (bundle : Bundle) where
  abbrev top : Stack → ℕ
  top d = last d.lowest d.above

  -- a line of the file on top that has code
  abbrev IsCoded : Stack → ℕ → Type 0
  IsCoded d line = HasCode bundle (top d) line

  coded-lines : (d : Stack) (file : ℕ) (f : BundleFile) → slice_get bundle.files file ≡ Some f → top d ≡ file
      → Each (IsCoded d) (file_lines f.tree)
  coded-lines d file f e at =
      each-own (IsCoded d) (file_lines f.tree) (λ line has. (f, ap (slice_get bundle.files) at ∙ e, has))

  coded : (bound : ℕ) → HaveLines (facts bundle IsCoded bound) bundle
  coded bound d file f e = coded-lines (with_file file d) file f e (last-push d.lowest d.above file)

  coded-main : Each (IsCoded main_file) (body_lines (statements_of bundle 0))
  coded-main = go (slice_get bundle.files 0) refl
    where
      go : (o : Option BundleFile) → slice_get bundle.files 0 ≡ o
          → Each (IsCoded main_file) (body_lines (option_map_or (λ f. f.tree.body) o []))
      go None e = tt
      go (Some f) e = each-left _ (body_lines f.tree.body) _ (coded-lines main_file 0 f e refl)

  stands-on : (bound : ℕ) (d : Stack) (kind : MomentKind) (line : ℕ) → kind ≡ Place
      → Stands (facts bundle IsCoded bound) d kind line → IsCoded d line
  stands-on bound d Place line is h = h
  stands-on bound d Enter line is h = absurd (cc)
  stands-on bound d Leave line is h = absurd (cc)

  comes-on : (bound n : ℕ) (p : Moment × State) → Comes bundle IsCoded bound n p → p.0.kind ≡ Place
      → HasCode bundle p.0.file p.0.line
  comes-on bound n p c is =
      subst (λ (p : Moment × State). HasCode bundle p.0.file p.0.line) (sym c.is)
      (subst (λ file. HasCode bundle file (moment_of c.kind (arrived c.on c.before)).line) (sym file)
      (subst (λ line. HasCode bundle (top c.stack) line) (sym (line c.before.frames c.there.files))
      (stands-on bound c.stack c.kind c.on (ap (λ (p : Moment × State). p.0.kind) (sym c.is) ∙ is) c.stands)))
    where
      file : (moment_of c.kind (arrived c.on c.before)).file ≡ top c.stack
      file =
          file-is (with_line c.on c.before.frames) c.stack.lowest c.stack.above
          (files-with_line c.on c.before.frames ∙ c.there.files)

      line : (fs : List Frame) → files_in fs ≡ c.stack.lowest ∷ c.stack.above
          → option_map_or (λ (f : Frame). f.line) (slice_get (with_line c.on fs) (length (with_line c.on fs) - 1)) 0 ≡
          c.on
      line [] e = absurd (cc)
      line (f ∷ fs) e = line-is c.on f fs

  pub places-coded : (bound n : ℕ) (ws : List NumberedWrite) (p : Moment × State)
      → moment_at (program_trace bundle bound ws) n ≡ Some p
      → p.0.kind ≡ Place → 0 < length bundle.files → HasCode bundle p.0.file p.0.line
  places-coded bound zero ws p e is some = absurd (cc)
  places-coded bound (suc k) ws p e is some =
      comes-on bound (0 + k) p ((along-program bundle IsCoded bound ws (coded bound) coded-main some).moments k p e) is
