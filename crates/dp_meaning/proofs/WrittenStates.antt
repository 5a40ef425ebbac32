-- What is true of what writes leave.
use Rattle.std.proofs.Common.{◌≡◌, ℕ, zero, suc, ◌+◌, ◌-◌, ◌≤◌, Bool, true, false, if◌then◌else◌, List, [], ◌∷◌, length, Option, Some, None, Result, Ok, Err, refl, ap, subst}
use Rattle.std.specs.Prelude.{nat_eq, nat_lt}
use Rattle.dp_tree.specs.declared.bundle.Bundle.{Bundle}
use Rattle.dp_tree.specs.declared.tree.Expression.{Expression}
use Rattle.dp_value.specs.declared.value.Value.{Value}
use Rattle.dp_state.specs.declared.moments.FatalKind.{FatalKind}
use Rattle.dp_state.specs.declared.moments.Path.{Path}
use Rattle.dp_state.specs.declared.state.State.{State}
use Rattle.dp_state.specs.Places.{assigned, given_keys}
use Rattle.dp_state.specs.States.{frame_limit}
use Rattle.dp_actions.specs.Expressions.{evaluation}
use Rattle.dp_actions.specs.Run.{Run, Done, Over, At}
use Rattle.dp_actions.specs.Setting.{Setting}
use Rattle.dp_meaning.specs.declared.writes.NumberedWrite.{NumberedWrite}
use Rattle.dp_meaning.specs.declared.writes.Write.{Write}
use Rattle.dp_meaning.specs.declared.writes.WriteFault.{WriteFault}
use Rattle.dp_meaning.specs.declared.writes.WriteFault.TheVariants.{NoFrame}
use Rattle.dp_meaning.specs.Writes.{alone, arrived, evaluated, evaluation_limit, evaluation_setting, in_context, left_by, one_write, or_unchanged, place_or_fault, recounted, with_place, written_by}
use Rattle.dp_meaning.proofs.Alike.{Alike, Facts, HaveLines, IsKept}
use Rattle.dp_meaning.proofs.AlikeExpressions.{Keeps-expression}
use Rattle.dp_meaning.proofs.AlikePrograms.{Keeps-setting}

-- ---- places

-- what assigning leaves has it, and so had the state before
module _ (Q : State → Type 0) (s : State) (p : Q s)
    (assigns : (level : ℕ) (path : Path) (v : Value) (t : State)
    → assigned level path.name (given_keys path.keys) false v s ≡ Ok t → Q t) where
  placed : (r : Result State FatalKind) → ((t : State) → r ≡ Ok t → Q t) → Q (or_unchanged s (place_or_fault r))
  placed (Ok t) h = h t refl
  placed (Err kind) h = p

  contextual : (context level : ℕ) (path : Path) (v : Value) → Q (or_unchanged s (in_context context level path v s))
  contextual zero level path v = placed _ (assigns level path v)
  contextual (suc zero) level path v = placed _ (assigns (length s.frames - 1) path v)
  contextual (suc (suc context)) level path v = p

  framed : (b : Bool) (r : Result State WriteFault) → Q (or_unchanged s r)
      → Q (or_unchanged s (if b then r else Err NoFrame))
  framed true r q = q
  framed false r q = p

  pub place-leaves : (level context : ℕ) (path : Path) (v : Value)
      → Q (or_unchanged s (with_place level context path v s))
  place-leaves level context path v = framed (nat_lt level (length s.frames)) _ (contextual context level path v)

-- ---- evaluations

-- what is kept by each step of a program, and by its moments
module _ {D : Type 0} (F : Facts D) (bundle : Bundle) (kept : IsKept F bundle) (lines : HaveLines F bundle)
    (arrives : (d : D) (n line : ℕ) (s : State) → F.state d n s → F.state d (n + 1) (arrived line s)) where
  alone-ends : {A : Type 0} (bound : ℕ) (d : D) (n : ℕ) (r : Run A) (a : A) (t : State) → Alike F d n r r
      → alone bound r ≡ Some (a, t) → (m : ℕ) × F.state d m t
  alone-ends {A} bound d n (Done b s) a t h e =
      let both : (b, s) ≡ (a, t) = cc in (n, subst (F.state d n) (ap (λ (p : A × State). p.1) both) h.0)
  alone-ends bound d n (Over o s) a t h e = absurd (cc)
  alone-ends {A} bound d n (At kind line s go) a t h e =
      cases (nat_lt s.moments bound) (alone-ends bound d (n + 1) (go (arrived line s)) a t
      (h.2 _ (arrives h.0 n line s h.1))) e
    where
      cases : (b : Bool) → (alone bound (go (arrived line s)) ≡ Some (a, t) → (m : ℕ) × F.state d m t)
          → (if b then alone bound (go (arrived line s)) else None) ≡ Some (a, t) → (m : ℕ) × F.state d m t
      cases true more e = more e
      cases false more e = absurd (cc)

  -- what follows from it once the moments of before are put back
  pub evaluation-leaves : F.bound ≤ evaluation_limit → (Q : State → Type 0) (d : D) (n : ℕ) (e : Expression) (s : State)
      → F.state d n (record s { moments = 0 }) → Q s
      → ((m : ℕ) (t : State) → F.state d m t → Q (record t { moments = s.moments }))
      → Q (left_by s (evaluated (evaluation_setting bundle) e s))
  evaluation-leaves few Q d n e s p same back =
      go (alone evaluation_limit (evaluation e x (record s { moments = 0 }))) refl
    where
      x : Setting
      x = evaluation_setting bundle

      go : (o : Option (Value × State)) → alone evaluation_limit (evaluation e x (record s { moments = 0 })) ≡ o
          → Q (left_by s (recounted s.moments o))
      go None h = same
      go (Some end) h =
          let part = Keeps-expression F bundle kept d x x
          (Keeps-setting F bundle kept lines evaluation_limit frame_limit
          few d) e in
          let q = alone-ends evaluation_limit d n (evaluation e x (record s { moments = 0 })) end.0 end.1
          (part.0 n _ p) h in
          back q.0 end.1 q.1

-- ---- the writes of a number

-- what one write keeps
pub writes-keep : (setting : Setting) (Q : State → Type 0)
    → ((w : Write) (s : State) → Q s → Q (one_write setting w s))
    → (ws : List NumberedWrite) (n : ℕ) (s : State) → Q s → Q (written_by setting ws n s)
writes-keep setting Q one [] n s p = p
writes-keep setting Q one (w ∷ ws) n s p = writes-keep setting Q one ws n _ (by (nat_eq w.moment n))
  where
    by : (b : Bool) → Q (if b then one_write setting w.write s else s)
    by true = one w.write s p
    by false = p
