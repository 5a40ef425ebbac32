-- Loops with as many turns as moments may come, and calls with as many frames as may be on the stack, go as with more
-- of them.
use Rattle.std.proofs.Common.{◌≡◌, ℕ, zero, suc, ◌+◌, ◌≤◌, Bool, true, false, if◌then◌else◌, List, [], ◌∷◌, ◌++◌, length, Option, Some, None, refl, sym, ap, ◌∙◌, subst, arith}
use Rattle.std.proofs.lemmas.Bool.{le-ltb}
use Rattle.std.proofs.lemmas.List.{length-map, length_push}
use Rattle.std.specs.Prelude.{nat_eq, nat_lt}
use Rattle.dp_tree.specs.declared.bundle.Bundle.{Bundle}
use Rattle.dp_tree.specs.declared.tree.Expression.{Expression}
use Rattle.dp_state.specs.declared.moments.Outcome.TheVariants as way
use Rattle.dp_state.specs.declared.state.Frame.{Frame}
use Rattle.dp_state.specs.declared.state.State.{State}
use Rattle.dp_state.specs.States.{IsOf, frame_limit}
use Rattle.dp_meaning.specs.declared.writes.NumberedWrite.{NumberedWrite}
use Rattle.dp_meaning.specs.declared.writes.Write.{Write}
use Rattle.dp_meaning.specs.declared.writes.Write.TheVariants.{Place, Evaluate}
use Rattle.dp_meaning.specs.Programs.{setting_of}
use Rattle.dp_actions.specs.Run.{Run, Done, Over, At, and_then}
use Rattle.dp_actions.specs.Setting.{Setting}
use Rattle.dp_meaning.specs.Trace.{Ended, Trace, moment_of, trace, with_moment}
use Rattle.dp_meaning.specs.Writes.{Writes, alone, arrived, evaluated, evaluation_limit, evaluation_setting, left_by, one_write, recounted, written, written_by, writes_of}
use Rattle.dp_meaning.proofs.Alike.{Alike, AreAlike, Facts, IsKept}
use Rattle.dp_meaning.proofs.AlikeExpressions.{Keeps-expression}
use Rattle.dp_meaning.proofs.AlikePrograms.{Keeps-file, Keeps-function}
use Rattle.dp_meaning.proofs.Each.{Each, each-all}
use Rattle.dp_meaning.proofs.Frames.{files_in}
use Rattle.dp_meaning.proofs.OfBundle.{Anywhere, IsThere, Stack, facts, kept, nowhere, one-there, recounted-there, there-arrived, with_file, written-there}

module _ (bundle : Bundle) where
  -- a state of the bundle stands somewhere
  pub there-is : (s : State) → IsOf bundle s → length s.frames ≤ frame_limit
      → (d : Stack) × IsThere bundle d s.moments s × (length s.frames ≡ suc (length d.above))
  there-is s is few = (d, record { of = is; files = same; moments = refl; few = omega (arith, long) }, long)
    where
      d : Stack
      d = record { lowest = is.main.file; above = files_in is.above }

      same : files_in s.frames ≡ d.lowest ∷ d.above
      same = ap files_in is.frames

      long : length s.frames ≡ suc (length d.above)
      long = sym (length-map s.frames (λ (f : Frame). f.file)) ∙ ap length same

  module _ (bound : ℕ) where
    abbrev pub counting : Facts Stack
    counting = facts bundle (Anywhere bundle) bound

    pub kept-counting : IsKept counting bundle
    kept-counting = kept bundle (Anywhere bundle) bound

    pub anywhere : (d : Stack) (lines : List ℕ) → Each (Anywhere bundle d) lines
    anywhere d lines = each-all (Anywhere bundle d) (λ line. tt) lines

    -- no call comes where there can be no frame more
    no-calls : (d : Stack) (x y : Setting) → x.bundle ≡ bundle → y.bundle ≡ bundle → bound ≤ x.bound → bound ≤ y.bound
        → frame_limit ≤ length d.above
        → AreAlike counting bundle d x y
    no-calls d x y left right few less full = record {
      left = left;
      right = right;
      turns_left = few;
      turns_right = less;
      call = λ file f values found n s p. absurd (omega (arith, full, p.few));
      include = λ file within n s p. absurd (omega (arith, full, p.few));
    }

    -- settings with enough turns and frames do the same
    pub ample : (m k : ℕ) → bound ≤ m → bound ≤ k → (a b : ℕ) (d : Stack) → frame_limit ≤ length d.above + a
        → frame_limit ≤ length d.above + b
        → AreAlike counting bundle d (setting_of bundle m a) (setting_of bundle k b)
    unfolding setting_of
    ample m k few less zero zero d deep low = no-calls d _ _ refl refl few less (omega (arith, deep))
    ample m k few less zero (suc b) d deep low = no-calls d _ _ refl refl few less (omega (arith, deep))
    ample m k few less (suc a) zero d deep low = no-calls d _ _ refl refl few less (omega (arith, low))
    ample m k few less (suc a) (suc b) d deep low = record {
      left = refl;
      right = refl;
      turns_left = few;
      turns_right = less;
      call =
          λ file f values found. Keeps-function counting bundle kept-counting (nowhere bundle bound) d file
          (setting_of bundle m a)
          (setting_of bundle k b)
          (ample m k few less a b (with_file file d) (more file a deep) (more file b low)) f values found;
      include =
          λ file within. Keeps-file counting bundle kept-counting (nowhere bundle bound) d file (setting_of bundle m a)
          (setting_of bundle k b)
          (ample m k few less a b (with_file file d) (more file a deep) (more file b low)) within;
    }
      where
        more : (file c : ℕ) → frame_limit ≤ length d.above + suc c → frame_limit ≤ length (d.above ++ file ∷ []) + c
        more file c h = omega (arith, h, length_push d.above file)

    -- ---- the same traces

    past : (n : ℕ) (s t : State) → s ≡ t → s.moments ≡ n → bound ≤ n → nat_lt t.moments bound ≡ false
    past n s t same at last = le-ltb t.moments bound (omega (arith, last, at, ap (λ (s : State). s.moments) same))

    same-alone : {A : Type 0} (r q : Run A) (d : Stack) (n : ℕ) → Alike counting d n r q → alone bound r ≡ alone bound q
    same-alone (Done a s) (Done b t) d n h = λ i. Some (h.1 i, h.2 i)
    same-alone (Over o s) (Over p t) d n h = refl
    same-alone (Over o s) (At kind line t go) d n h = rw (past n s t h.4 h.1.moments h.2) refl
    same-alone (At kind line s go) (Over o t) d n h = rw (past n s s refl h.1.moments h.2) refl
    same-alone {A} (At kind line s go) (At other there t on) d n h =
        ap (λ (o : Option (A × State)). if nat_lt s.moments bound then o else None)
        (same-alone (go (arrived line s)) (on (arrived line s)) d (n + 1)
        (h.2 _ (there-arrived bundle h.0 n line s h.1)))
        ∙ (λ i. alone bound (At (h.4 i) (h.5 i) (h.6 i) on))
    same-alone r q d n h = absurd h

    module _ (v : Writes) (ws : List NumberedWrite)
        (same : (d : Stack) (n k : ℕ) (s : State) → IsThere bundle d n s
        → written v k s ≡ written (writes_of bundle ws) k s) where
      abbrev w : Writes
      w = writes_of bundle ws

      pub same-traces : {A B : Type 0} (r q : Run A) (next : A → State → Run B)
          → ((a : A) (s : State) → trace bound v (next a s) ≡ trace bound w (next a s))
          → (d : Stack) (n : ℕ) → Alike counting d n r q
          → trace bound v (and_then r next) ≡ trace bound w (and_then q next)
      unfolding and_then
      same-traces (Done a s) (Done b t) next tail d n h = tail a s ∙ (λ i. trace bound w (next (h.1 i) (h.2 i)))
      same-traces (Over o s) (Over p t) next tail d n h =
          λ i. record { moments = []; end = Ended (h.3 i); state = h.4 i }
      same-traces (Over o s) (At kind line t go) next tail d n h =
          rw (past n s t h.4 h.1.moments h.2) (λ i. record { moments = []; end = Ended (h.3 i); state = h.4 i })
      same-traces (At kind line s go) (Over o t) next tail d n h =
          rw (past n s s refl h.1.moments h.2) (λ i. record { moments = []; end = Ended (sym h.3 i); state = h.4 i })
      same-traces {A} {B} (At kind line s go) (At other here t on) next tail d n h =
          ap (λ (x : Trace B). let y : Trace B = if nat_lt s.moments bound
          then with_moment (moment_of kind (arrived line s)) (arrived line s) x else (record {
            moments = [];
            end = Ended way.Bound;
            state = s;
          }) in y)
          (same-traces (go u) (on u) next tail d (n + 1) (h.2 u there)
          ∙ ap (λ x. trace bound w (and_then (on x) next)) equal)
          ∙ (λ i. trace bound w (and_then (At (h.4 i) (h.5 i) (h.6 i) on) next))
        where
          before : IsThere bundle h.0 (n + 1) (arrived line s)
          before = there-arrived bundle h.0 n line s h.1

          u : State
          u = written v (s.moments + 1) (arrived line s)

          equal : u ≡ written w (s.moments + 1) (arrived line s)
          equal = same h.0 (n + 1) (s.moments + 1) (arrived line s) before

          there : IsThere bundle h.0 (n + 1) u
          there =
              subst (IsThere bundle h.0 (n + 1)) (sym equal) (written-there bundle ws h.0 (n + 1) (s.moments + 1)
              (arrived line s) before)
      same-traces r q next tail d n h = absurd h

  -- ---- evaluations and writes

  module _ (m a : ℕ) (few : evaluation_limit ≤ m) where
    ample-evaluated : (e : Expression) (d : Stack) (n : ℕ) (s : State) → IsThere bundle d n s
        → frame_limit ≤ length d.above + a
        → evaluated (setting_of bundle m a) e s ≡ evaluated (evaluation_setting bundle) e s
    ample-evaluated e d n s p deep =
        ap (recounted s.moments) (same-alone evaluation_limit _ _ d 0
        ((Keeps-expression (counting evaluation_limit) bundle (kept-counting evaluation_limit) d (setting_of bundle m a)
        (evaluation_setting bundle)
        (ample evaluation_limit m evaluation_limit few (omega arith) a frame_limit d deep (omega arith)) e).0 0 _
        (recounted-there bundle d n 0 s p)))

    ample-one : frame_limit ≤ a → (w : Write) (d : Stack) (n : ℕ) (s : State) → IsThere bundle d n s
        → one_write (setting_of bundle m a) w s ≡ one_write (evaluation_setting bundle) w s
    ample-one deep (Place level context path value) d n s p = refl
    ample-one deep (Evaluate e) d n s p = ap (left_by s) (ample-evaluated e d n s p (omega (arith, deep)))

    pub ample-written : frame_limit ≤ a → (ws : List NumberedWrite) (d : Stack) (n k : ℕ) (s : State)
        → IsThere bundle d n s
        → written_by (setting_of bundle m a) ws k s ≡ written_by (evaluation_setting bundle) ws k s
    ample-written deep [] d n k s p = refl
    ample-written deep (w ∷ ws) d n k s p = go (nat_eq w.moment k) (ample-written deep ws d n k)
      where
        go : (b : Bool)
            → ((s : State) → IsThere bundle d n s
            → written_by (setting_of bundle m a) ws k s ≡ written_by (evaluation_setting bundle) ws k s)
            → written_by (setting_of bundle m a) ws k (if b then one_write (setting_of bundle m a) w.write s else s)
            ≡ written_by (evaluation_setting bundle) ws k (if b then one_write (evaluation_setting bundle) w.write s
            else s)
        go true more =
            ap (λ u. written_by (setting_of bundle m a) ws k u) (ample-one deep w.write d n s p)
            ∙ more (one_write (evaluation_setting bundle) w.write s) (one-there bundle d n w.write s p)
        go false more = more s p
