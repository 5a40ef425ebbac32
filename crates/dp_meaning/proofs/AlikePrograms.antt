-- What is kept by each step of a program is true at each of its moments and at its end.
use Rattle.std.proofs.Common.{◌≡◌, ℕ, zero, suc, ◌+◌, ◌<◌, ◌≤◌, pos, List, [], length, Option, Some, None, refl, sym, subst}
use Rattle.std.specs.Option.{option_map_or}
use Rattle.std.specs.Prelude.{slice_get}
use Rattle.dp_tree.specs.CodeLines.{body_lines}
use Rattle.dp_tree.specs.declared.bundle.Bundle.{Bundle}
use Rattle.dp_tree.specs.declared.bundle.BundleFile.{BundleFile}
use Rattle.dp_tree.specs.declared.tree.Function.{Function}
use Rattle.dp_value.specs.declared.value.Value.{Value}
use Rattle.dp_value.specs.declared.value.Value.TheVariants.{Int}
use Rattle.dp_state.specs.declared.state.State.{State}
use Rattle.dp_state.specs.Functions.{called, included}
use Rattle.dp_state.specs.States.{frame_limit, left, opening}
use Rattle.dp_meaning.specs.Programs.{function_run, file_run, setting_of, program_run}
use Rattle.dp_actions.specs.Bodies.{returned, statements_of}
use Rattle.dp_actions.specs.Run.{Run, Done, and_then, taken}
use Rattle.dp_actions.specs.Setting.{Setting}
use Rattle.dp_actions.specs.Statements.{body_run}
use Rattle.dp_meaning.proofs.Alike.{Alike, AreAlike, Facts, HaveLines, IsFunction, IsKept, Keeps, Alike-and_then, Alike-taken}
use Rattle.dp_meaning.proofs.Each.{Each, each-at, each-left, each-right}
use Rattle.dp_meaning.proofs.AlikeCalls.{within-found}
use Rattle.dp_meaning.proofs.AlikeStatements.{Keeps-body}

module _ {D : Type 0} (F : Facts D) (bundle : Bundle) (kept : IsKept F bundle) (lines : HaveLines F bundle) where
  -- the lines of the statements of a file
  lines-stand : (d : D) (file : ℕ) → Each (F.line (F.down file d)) (body_lines (statements_of bundle file))
  lines-stand d file = go (slice_get bundle.files file) refl
    where
      go : (o : Option BundleFile) → slice_get bundle.files file ≡ o
          → Each (F.line (F.down file d)) (body_lines (option_map_or (λ f. f.tree.body) o []))
      go None e = tt
      go (Some f) e = each-left _ (body_lines f.tree.body) _ (lines d file f e)

  module _ (d : D) (file : ℕ) (x y : Setting) (good : AreAlike F bundle (F.down file d) x y) where
    pub Keeps-function : (f : Function) (values : List Value) → IsFunction bundle file f
        → Keeps F d (function_run file f values x) (function_run file f values y)
    Keeps-function f values found n s p =
        let down : D = F.down file d in
        let within : file < length bundle.files = within-found bundle.files file found.0 found.1 in
        let stand : Each (F.line down) (body_lines f.body) =
        each-at (F.line down) (λ (f : Function). body_lines f.body) found.0.tree.functions found.2 f found.3
        (each-right (F.line down) (body_lines found.0.tree.body) _ (lines d file found.0 found.1)) in
        Alike-and_then F down d n _ _ _ _ (Alike-taken F (called file f values s) down d n s p
        (λ t is. kept.calls d n file f values s t within is p))
        (λ _ n t _ q. (
          down,
          q,
          λ u q.
              Alike-and_then F down d (n + 1) _ _ _ _ (Keeps-body F bundle kept down x y good f.body stand (n + 1) u q)
              (λ g m v _ q. (down, q, λ w q. (kept.leaves d (m + 1) file w q, refl, refl), tt, refl, refl, refl)),
          tt,
          refl,
          refl,
          refl,
        ))

    -- the run of a file, by the files of a bundle
    abbrev file-of : Setting → State → Bundle → Run Value
    file-of setting s b =
        and_then (taken (included b file s) s) (λ _ t.
        and_then (body_run (statements_of b file) setting t) (λ g u. Done (returned (Int (pos 1)) g) (left u)))

    pub Keeps-file : file < length bundle.files → Keeps F d (file_run file x) (file_run file y)
    Keeps-file within n s p =
        let down : D = F.down file d in
        subst (λ b. Alike F d n (file-of x s x.bundle) (file-of y s b)) (sym good.right)
        (subst (λ b. Alike F d n (file-of x s b) (file-of y s bundle)) (sym good.left)
        (Alike-and_then F down d n _ _ _ _ (Alike-taken F (included bundle file s) down d n s p
        (λ t is. kept.includes d n file s t within is p))
        (λ _ n t _ q. Alike-and_then F down d n _ _ _ _ (Keeps-body F bundle kept down x y good
        (statements_of bundle file) (lines-stand d file) n t q)
        (λ g m u _ q. (kept.leaves d m file u q, refl, refl)))))

  -- so many turns and so many frames more
  pub Keeps-setting : (bound depth : ℕ) → F.bound ≤ bound → (d : D)
      → AreAlike F bundle d (setting_of bundle bound depth)
      (setting_of bundle bound depth)
  unfolding setting_of
  Keeps-setting bound zero enough d = record {
    left = refl;
    right = refl;
    turns_left = enough;
    turns_right = enough;
    call = λ file f values found n s p. (d, p, tt, refl, refl);
    include = λ file within n s p. (d, p, tt, refl, refl);
  }
  Keeps-setting bound (suc depth) enough d = record {
    left = refl;
    right = refl;
    turns_left = enough;
    turns_right = enough;
    call = λ file f values found. Keeps-function d file (setting_of bundle bound depth) (setting_of bundle bound depth)
        (Keeps-setting bound depth enough (F.down file d)) f values found;
    include = λ file within. Keeps-file d file (setting_of bundle bound depth) (setting_of bundle bound depth)
        (Keeps-setting bound depth enough (F.down file d)) within;
  }

  -- a program in whose main file the lines have it
  pub Alike-program : (bound : ℕ) → F.bound ≤ bound → (d : D) → Each (F.line d) (body_lines (statements_of bundle 0))
      → F.state d 0 (opening bundle)
      → Alike F d 0 (program_run bundle bound) (program_run bundle bound)
  unfolding program_run
  Alike-program bound enough d stand p =
      let x : Setting = setting_of bundle bound frame_limit in
      Keeps-body F bundle kept d x x (Keeps-setting bound frame_limit enough d) (statements_of bundle 0) stand 0
      (opening bundle) p
