-- States of a bundle, by the files of their frames and the number of their moments: each step of a program leaves one,
-- and each write.
use Rattle.std.proofs.Common.{◌≡◌, ℕ, suc, ◌+◌, ◌<◌, false, List, [], ◌∷◌, ◌++◌, length, refl, sym, ap, ◌∙◌, subst, arith}
use Rattle.std.proofs.lemmas.List.{length-map, length_push}
use Rattle.dp_tree.specs.declared.bundle.Bundle.{Bundle}
use Rattle.dp_state.specs.declared.state.Frame.{Frame}
use Rattle.dp_state.specs.declared.state.State.{State}
use Rattle.dp_state.specs.Places.{given_keys}
use Rattle.dp_state.specs.States.{IsOf, frame_limit, left, on_line, opening}
use Rattle.dp_state.proofs.Kept.{of-assigned, of-called, of-counted, of-included, of-left, of-on_line, of-opening, of-printed, of-unset, of-with_constant, of-with_global}
use Rattle.dp_meaning.specs.declared.writes.NumberedWrite.{NumberedWrite}
use Rattle.dp_meaning.specs.declared.writes.Write.{Write}
use Rattle.dp_meaning.specs.declared.writes.Write.TheVariants.{Place, Evaluate}
use Rattle.dp_meaning.specs.Writes.{arrived, evaluation_setting, one_write, written_by}
use Rattle.dp_meaning.proofs.Alike.{Facts, HaveLines, IsKept, all-lines}
use Rattle.dp_meaning.proofs.Apart.{IsApart, either-ok, part-assigned, part-called, part-constant, part-global, part-included, part-unset}
use Rattle.dp_meaning.proofs.Frames.{IsAbove, files_in, files-left, files-with_line, files-with_vars, above-called, above-included}
use Rattle.dp_meaning.proofs.Steady.{beside, moments_of}
use Rattle.dp_meaning.proofs.WrittenStates.{evaluation-leaves, place-leaves, writes-keep}

-- the files of the frames: that of the main one, and those above it
pub record Stack : Type 0 where
  pub lowest : ℕ
  pub above : List ℕ

-- with a frame of this file on top
abbrev pub with_file : ℕ → Stack → Stack
with_file file d = record { lowest = d.lowest; above = d.above ++ file ∷ [] }

-- that of the main frame alone
abbrev pub main_file : Stack
main_file = record { lowest = 0; above = [] }

module _ (bundle : Bundle) where
  -- a state of the bundle that has had so many moments, with frames of these files
  pub record IsThere (d : Stack) (n : ℕ) (s : State) : Type 0 where
    pub of : IsOf bundle s
    pub files : files_in s.frames ≡ d.lowest ∷ d.above
    pub moments : s.moments ≡ n
    pub few : length d.above < frame_limit

  -- with facts of lines, and a bound
  abbrev pub facts : (Stack → ℕ → Type 0) → ℕ → Facts Stack
  facts line bound = record { state = IsThere; line = line; down = with_file; bound = bound }

  above-there : (d : Stack) (n file : ℕ) (s t : State) → IsAbove file s t → t.moments ≡ s.moments → IsOf bundle t
      → IsThere d n s
      → IsThere (with_file file d) n t
  above-there d n file s t more same is p =
      let files : files_in t.frames ≡ d.lowest ∷ (d.above ++ file ∷ []) = more.0
      ∙ ap (λ l. l ++ file ∷ []) p.files in record {
        of = is;
        files = files;
        moments = same ∙ p.moments;
        few = omega (arith, more.1, length-map t.frames (λ (f : Frame). f.file), ap length files);
      }

  -- what is told of a state beside its bundle
  abbrev told : State → List ℕ × ℕ
  told s = (files_in s.frames, s.moments)

  apart : IsApart told
  apart = record {
    globals = λ vs s. refl;
    own = λ at vs s. ap (λ l. (l, s.moments)) (files-with_vars at vs s.frames);
    constants = λ cs s. refl;
  }

  same-there : (d : Stack) (n : ℕ) (s t : State) → told t ≡ told s → IsOf bundle t → IsThere d n s → IsThere d n t
  same-there d n s t same is p = record {
    of = is;
    files = ap (λ (x : List ℕ × ℕ). x.0) same ∙ p.files;
    moments = ap (λ (x : List ℕ × ℕ). x.1) same ∙ p.moments;
    few = p.few;
  }

  left-there : (d : Stack) (n file : ℕ) (s : State) → IsThere (with_file file d) n s → IsThere d n (left s)
  left-there d n file s p =
      let more : length (d.above ++ file ∷ []) ≡ length d.above + 1 = length_push d.above file in
      let some : length s.frames ≡ suc (length d.above + 1) =
      sym (length-map s.frames (λ (f : Frame). f.file)) ∙ ap length p.files ∙ ap suc more in record {
        of = of-left bundle s (omega (arith, some)) p.of;
        files = files-left s.frames (d.lowest ∷ d.above) file p.files;
        moments = p.moments;
        few = omega (arith, p.few, more);
      }

  pub kept : (line : Stack → ℕ → Type 0) (bound : ℕ) → IsKept (facts line bound) bundle
  kept line bound = record {
    assigns = λ d n level name keys push v s t e p.
        same-there d n s t (part-assigned told apart level name keys push v s t e)
        (of-assigned bundle level name keys push v s t e p.of) p;
    unsets = λ d n name keys s t e p.
        same-there d n s t (part-unset told apart name keys s t e) (of-unset bundle name keys s t e p.of) p;
    binds = λ d n name s p. same-there d n s _ (part-global told apart name s) (of-with_global bundle name s p.of) p;
    defines =
        λ d n name v s p. same-there d n s _ (part-constant told apart name v s)
        (of-with_constant bundle name v s p.of) p;
    prints = λ d n piece s t e p.
        same-there d n s t (ap told (sym (either-ok _ _ _ _ e))) (of-printed bundle piece s t e p.of) p;
    calls = λ d n file f values s t within e p.
        above-there d n file s t (above-called file f values s t e) (part-called moments_of beside file f values s t e)
        (of-called bundle file f values s t e within p.of) p;
    includes = λ d n file s t within e p.
        above-there d n file s t (above-included bundle file s t e)
        (part-included moments_of beside bundle file s t e)
        (of-included bundle file s t e within p.of) p;
    leaves = λ d n file s p. left-there d n file s p;
  }

  -- where nothing is asked of lines, nor of the bound
  abbrev pub Anywhere : Stack → ℕ → Type 0
  Anywhere d line = Unit {0}

  pub nowhere : (bound : ℕ) → HaveLines (facts Anywhere bound) bundle
  nowhere bound = all-lines (facts Anywhere bound) bundle (λ d line. tt)

  abbrev pub plain : Facts Stack
  plain = facts Anywhere 0

  pub kept-plain : IsKept plain bundle
  kept-plain = kept Anywhere 0

  pub there-arrived : (d : Stack) (n line : ℕ) (s : State) → IsThere d n s → IsThere d (n + 1) (arrived line s)
  there-arrived d n line s p = record {
    of = of-counted bundle (on_line line s) (of-on_line bundle line s p.of);
    files = files-with_line line s.frames ∙ p.files;
    moments = ap (λ n. n + 1) p.moments;
    few = p.few;
  }

  -- with another number of moments
  pub recounted-there : (d : Stack) (n m : ℕ) (s : State) → IsThere d n s → IsThere d m (record s { moments = m })
  recounted-there d n m s p = record {
    of = record {
      main = p.of.main;
      above = p.of.above;
      frames = p.of.frames;
      lowest = p.of.lowest;
      apart = p.of.apart;
      globals = p.of.globals;
      constants = p.of.constants;
      files = p.of.files;
      declared = p.of.declared;
    };
    files = p.files;
    moments = refl;
    few = p.few;
  }

  -- ---- what writes leave

  pub one-there : (d : Stack) (n : ℕ) (w : Write) (s : State) → IsThere d n s
      → IsThere d n (one_write (evaluation_setting bundle) w s)
  one-there d n (Place level context path value) s p =
      place-leaves (IsThere d n) s p (λ level path v t e.
      kept-plain.assigns d n level path.name (given_keys path.keys) false v s t e p) level context path value
  one-there d n (Evaluate e) s p =
      evaluation-leaves plain bundle kept-plain (nowhere 0) there-arrived (omega arith) (IsThere d n) d 0 e s
      (recounted-there d n 0 s p) p
      (λ m t q. subst (λ m. IsThere d m (record t { moments = s.moments })) p.moments
      (recounted-there d m s.moments t q))

  pub written-there : (ws : List NumberedWrite) (d : Stack) (n k : ℕ) (s : State) → IsThere d n s
      → IsThere d n (written_by (evaluation_setting bundle) ws k s)
  written-there ws d n k s p = writes-keep (evaluation_setting bundle) (IsThere d n) (one-there d n) ws k s p

  pub there-opening : 0 < length bundle.files → IsThere main_file 0 (opening bundle)
  there-opening some = record { of = of-opening bundle some; files = refl; moments = refl; few = omega arith }
