-- The files of the frames of a state, and what steps leave of them.
use Rattle.std.proofs.Common.{◌≡◌, ℕ, zero, suc, ◌+◌, ◌-◌, ◌≤◌, Bool, true, false, if◌then◌else◌, List, [], ◌∷◌, ◌++◌, length, map, take, Ok, Err, refl, sym, ap, ◌∙◌, subst, arith}
use Rattle.std.proofs.Math.Seq.{take-append_seam}
use Rattle.std.proofs.lemmas.Bool.{leb-true}
use Rattle.std.proofs.lemmas.List.{length-map, length_push, map-append, take-map}
use Rattle.std.specs.Prelude.{nat_le}
use Rattle.dp_tree.specs.declared.bundle.Bundle.{Bundle}
use Rattle.dp_tree.specs.declared.tree.Function.{Function}
use Rattle.dp_value.specs.declared.value.Value.{Value}
use Rattle.dp_state.specs.declared.moments.FatalKind.TheVariants.{TooDeep}
use Rattle.dp_state.specs.declared.state.Frame.{Frame}
use Rattle.dp_state.specs.declared.state.State.{State}
use Rattle.dp_state.specs.Functions.{called, called_frame, included, included_frame}
use Rattle.dp_state.specs.Places.{with_vars}
use Rattle.dp_state.specs.States.{entered, frame_limit, with_line}
use Rattle.dp_state.specs.Variables.{Variables}
use Rattle.dp_meaning.proofs.Apart.{called-entered, included-entered, with_functions}

-- the files of some frames, the lowest first
abbrev pub files_in : List Frame → List ℕ
files_in frames = map (λ (f : Frame). f.file) frames

-- one frame more, of this file, and not too many
abbrev pub IsAbove : ℕ → State → State → Type 0
IsAbove file s t = (files_in t.frames ≡ files_in s.frames ++ file ∷ []) × (length t.frames ≤ frame_limit)

pub files-with_vars : (at : ℕ) (variables : Variables) (fs : List Frame)
    → files_in (with_vars at variables fs) ≡ files_in fs
files-with_vars at variables [] = refl
files-with_vars zero variables (f ∷ fs) = refl
files-with_vars (suc at) variables (f ∷ fs) = ap (λ l. f.file ∷ l) (files-with_vars at variables fs)

pub files-with_line : (line : ℕ) (fs : List Frame) → files_in (with_line line fs) ≡ files_in fs
files-with_line line [] = refl
files-with_line line (f ∷ []) = refl
files-with_line line (f ∷ g ∷ fs) = ap (λ l. f.file ∷ l) (files-with_line line (g ∷ fs))

above-entered : (frame : Frame) (s t : State) → entered frame s ≡ Ok t → IsAbove frame.file s t
above-entered frame s t e = go (nat_le (length s.frames + 1) frame_limit) refl e
  where
    go : (b : Bool) → nat_le (length s.frames + 1) frame_limit ≡ b
        → (if b then Ok (record s { frames = s.frames ++ frame ∷ [] }) else Err TooDeep) ≡ Ok t
        → IsAbove frame.file s t
    go true few e =
        let same : record s { frames = s.frames ++ frame ∷ [] } ≡ t = cc in
        subst (IsAbove frame.file s) same (
          map-append (λ (f : Frame). f.file) s.frames (frame ∷ []),
          omega (arith, length_push s.frames frame, leb-true _ _ few),
        )
    go false few e = absurd (cc)

pub above-called : (file : ℕ) (f : Function) (values : List Value) (s t : State) → called file f values s ≡ Ok t
    → IsAbove file s t
above-called file f values s t e = above-entered (called_frame file f values) s t (called-entered file f values s t e)

pub above-included : (bundle : Bundle) (file : ℕ) (s t : State) → included bundle file s ≡ Ok t → IsAbove file s t
above-included bundle file s t e =
    above-entered (included_frame file) (with_functions bundle file s) t (included-entered bundle file s t e)

pub files-left : (frames : List Frame) (d : List ℕ) (file : ℕ) → files_in frames ≡ d ++ file ∷ []
    → files_in (take (length frames - 1) frames) ≡ d
files-left frames d file e =
    let n : length frames - 1 ≡ length d =
    omega (arith, length-map frames (λ (f : Frame). f.file), ap length e, length_push d file) in
    rw n (sym (take-map (λ (f : Frame). f.file) (length d) frames) ∙ ap (take (length d)) e
    ∙ take-append_seam d (file ∷ []))
