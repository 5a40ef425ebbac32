-- What is true of the trace of any program, also of one without files: its moments are numbered, and it is over by its
-- bound where that is reached.
use Rattle.std.proofs.Common.{◌≡◌, ℕ, zero, suc, ◌+◌, ◌<◌, ◌≤◌, List, [], ◌∷◌, length, Option, Some, None, refl, sym, ap, ◌∙◌, subst, arith}
use Rattle.std.proofs.lemmas.List.{length-map}
use Rattle.std.specs.Prelude.{option_map, slice_get}
use Rattle.dp_tree.specs.declared.bundle.Bundle.{Bundle}
use Rattle.dp_tree.specs.declared.bundle.BundleFile.{BundleFile}
use Rattle.dp_state.specs.declared.moments.Moment.{Moment}
use Rattle.dp_state.specs.declared.moments.Outcome.TheVariants as way
use Rattle.dp_state.specs.declared.state.Frame.{Frame}
use Rattle.dp_state.specs.declared.state.State.{State}
use Rattle.dp_state.specs.States.{opening}
use Rattle.dp_actions.specs.declared.signal.Signal.{Signal}
use Rattle.dp_meaning.specs.declared.writes.NumberedWrite.{NumberedWrite}
use Rattle.dp_meaning.specs.Trace.{Trace, moment_at, now, outcome, program_trace}
use Rattle.dp_meaning.specs.Writes.{written, writes_of}
use Rattle.dp_meaning_laws.specs.Limits.{CanStand}
use Rattle.dp_meaning.proofs.Alike.{CanEnd}
use Rattle.dp_meaning.proofs.AlikeCalls.{within-found}
use Rattle.dp_meaning.proofs.OfBundle.{Anywhere, IsThere, Stack, main_file, there-opening}
use Rattle.dp_meaning.proofs.Traces.{Comes, after-writes, arrived-there, can-end, nothing, program-along}

module _ (bundle : Bundle) (bound : ℕ) (ws : List NumberedWrite) where
  abbrev whole : Trace Signal
  whole = program_trace bundle bound ws

  -- a moment comes where there are files alone
  pub has-files : (n : ℕ) (p : Moment × State) → moment_at whole n ≡ Some p → 0 < length bundle.files
  has-files zero p e = absurd (cc)
  has-files (suc k) p e = go (slice_get bundle.files 0) refl
    where
      go : (o : Option BundleFile) → slice_get bundle.files 0 ≡ o → 0 < length bundle.files
      go None none =
          let no : slice_get [] k ≡ Some p =
          ap (λ (t : Trace Signal). slice_get t.moments k) (sym (nothing bundle bound ws none)) ∙ e in absurd (cc)
      go (Some f) is = within-found bundle.files 0 f is

  comes : (k : ℕ) (p : Moment × State) → moment_at whole (suc k) ≡ Some p
      → Comes bundle (Anywhere bundle) bound (0 + k) p
  comes k p e = (program-along bundle bound ws (has-files (suc k) p e)).moments k p e

  -- ---- numbers

  pub numbered : (k : ℕ) (p : Moment × State) → moment_at whole (suc k) ≡ Some p
      → (p.0.number ≡ suc k) × (p.1.moments ≡ suc k) × (suc k ≤ bound)
  numbered k p e =
      let c = comes k p e in
      let same : c.before.moments + 1 ≡ suc k = omega (arith, c.there.moments) in (
        ap (λ (p : Moment × State). p.0.number) c.is ∙ same,
        ap (λ (p : Moment × State). p.1.moments) c.is ∙ same,
        omega (arith, c.within),
      )

  past_last : (ps : List (Moment × State)) (k : ℕ) → length ps ≡ suc k
      → (p : Moment × State) × (slice_get ps k ≡ Some p)
  past_last [] k e = absurd (omega arith)
  past_last (p ∷ ps) zero e = (p, refl)
  past_last (p ∷ ps) (suc k) e = past_last ps k (omega arith)

  pub few : length whole.moments ≤ bound
  few = go (length whole.moments) refl
    where
      go : (n : ℕ) → length whole.moments ≡ n → n ≤ bound
      go zero e = omega arith
      go (suc k) e = let p = past_last whole.moments k e in (numbered k p.0 p.1).2

  pub bound-reached : outcome bundle bound ws ≡ way.Bound → length whole.moments ≡ bound
  bound-reached is =
      let reached : CanEnd bound (length whole.moments) way.Bound =
      subst (CanEnd bound (length whole.moments)) is (can-end bundle bound ws) in
      omega (arith, few, reached)

  -- ---- states

  can : (d : Stack) (n : ℕ) (s : State) → IsThere bundle d n s → CanStand bundle s
  can d n s p = (p.of, omega (arith, p.few, length-map s.frames (λ (f : Frame). f.file), ap length p.files))

  pub arrived-can : (n : ℕ) (p : Moment × State) → moment_at whole n ≡ Some p → CanStand bundle p.1
  arrived-can zero p e = absurd (cc)
  arrived-can (suc k) p e = can _ _ p.1 (arrived-there bundle (Anywhere bundle) bound (0 + k) p (comes k p e))

  pub now-can : 0 < length bundle.files → (n : ℕ) (s : State) → now bundle bound ws n ≡ Some s → CanStand bundle s
  now-can some zero s e =
      let same : opening bundle ≡ s = cc in subst (CanStand bundle) same
      (can main_file 0 (opening bundle) (there-opening bundle some))
  now-can some (suc k) s e = go (moment_at whole (suc k)) refl e
    where
      go : (o : Option (Moment × State)) → moment_at whole (suc k) ≡ o
          → option_map (λ (p : Moment × State). written (writes_of bundle ws) (suc k) p.1) o ≡ Some s
          → CanStand bundle s
      go None is e = absurd (cc)
      go (Some p) is e =
          let same : written (writes_of bundle ws) (suc k) p.1 ≡ s = cc in
          subst (CanStand bundle) same (can _ _ _ (after-writes bundle (Anywhere bundle) bound ws (0 + k) (suc k) p
          (comes k p is)))

  pub end-can : 0 < length bundle.files → CanStand bundle whole.state
  end-can some = let all = program-along bundle bound ws some in can all.stack _ whole.state all.there
