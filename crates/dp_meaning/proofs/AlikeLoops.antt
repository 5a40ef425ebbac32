-- What is kept by each step of a program is kept by loops.
use Rattle.std.proofs.Common.{◌≡◌, ℕ, zero, suc, ◌+◌, ◌≤◌, false, List, [], ◌∷◌, Option, Some, None, refl, sym, subst, arith}
use Rattle.std.specs.Prelude.{nat_le}
use Rattle.dp_tree.specs.declared.bundle.Bundle.{Bundle}
use Rattle.dp_value.specs.declared.key.Key.{Key}
use Rattle.dp_value.specs.declared.value.Value.{Value}
use Rattle.dp_value.specs.Data.{Data, data_of_key}
use Rattle.dp_value.specs.Value.{value_of}
use Rattle.dp_state.specs.declared.moments.MomentKind.TheVariants.{Place}
use Rattle.dp_state.specs.declared.moments.Outcome.TheVariants as way
use Rattle.dp_state.specs.declared.state.State.{State}
use Rattle.dp_tree.specs.declared.tree.Binding.{Binding}
use Rattle.dp_actions.specs.declared.signal.Signal.{Signal}
use Rattle.dp_actions.specs.declared.signal.Signal.TheVariants.{Next, Break, Continue, Return}
use Rattle.dp_actions.specs.Loops.{after_body, last_holds, turns, do_turns, bind_name, bind_key, bind, each_run}
use Rattle.dp_actions.specs.Run.{Run, Done, Over, At, and_then}
use Rattle.dp_actions.specs.Values.{holds}
use Rattle.dp_meaning.proofs.Alike.{Alike, Facts, IsKept, Keeps, Keeps-and_then, Alike-and_then, Alike-if, Alike-taken}

-- A run that begins with a moment, if it is not over or done at once with nothing changed.
abbrev pub IsStill : State → Run Signal → Type 0
IsStill s (Done g t) = (g ≡ Next) × (s ≡ t)
IsStill s (Over o t) = (o ≡ way.Bound) × (s ≡ t)
IsStill s (At kind line t go) = s ≡ t

module _ {D : Type 0} (F : Facts D) (d : D) where
  Alike-over : (g : Signal) (f h : State → Run Signal) (n : ℕ) (s : State) → F.state d n s → Alike F d n (f s) (h s)
      → Alike F d n (after_body g f s) (after_body g h s)
  Alike-over Next f h n s p k = k
  Alike-over (Break loops) f h n s p k = Alike-if F (nat_le loops 1) d n _ _ _ _ (p, refl, refl) (p, refl, refl)
  Alike-over (Continue loop) f h n s p k = Alike-if F (nat_le loop 1) d n _ _ _ _ k (p, refl, refl)
  Alike-over (Return v) f h n s p k = (p, refl, refl)

  -- ---- `while` and `for`

  module _ (line : ℕ) (stands : F.line d line) (test next test' next' : State → Run (List Value))
      (body body' : State → Run Signal)
      (tests : Keeps F d test test') (nexts : Keeps F d next next') (bodies : Keeps F d body body') where
    pub Alike-turns : (k l n : ℕ) (s : State) → F.bound ≤ n + k → F.bound ≤ n + l → F.state d n s
        → Alike F d n (turns k line test next body s) (turns l line test' next' body' s)
    Alike-turns zero zero n s few less p = (d, p, omega (arith, few), refl, refl)
    Alike-turns zero (suc l) n s few less p = (d, p, omega (arith, few), refl, refl)
    Alike-turns (suc k) zero n s few less p = (d, p, omega (arith, less), refl, refl)
    Alike-turns (suc k) (suc l) n s few less p = (
      d,
      p,
      λ t p.
          Alike-and_then F d d (n + 1) _ _ _ _ (tests (n + 1) t p) (λ values i u le p.
          Alike-if F (last_holds values) d i _ _ _ _
          (Alike-and_then F d d i _ _ _ _ (bodies i u p) (λ g j v le' p. Alike-over g _ _ j v p
          (Alike-and_then F d d j _ _ _ _ (nexts j v p) (λ _ m w le'' p.
          Alike-turns k l m w (omega (arith, few, le, le', le'')) (omega (arith, less, le, le', le'')) p))))
          (p, refl, refl)),
      stands,
      refl,
      refl,
      refl,
    )

  -- ---- `do`

  module _ (line : ℕ) (stands : F.line d line) (test test' : State → Run Value) (body body' : State → Run Signal)
      (tests : Keeps F d test test') (bodies : Keeps F d body body')
      (still : (s : State) → IsStill s (body s)) (still' : (s : State) → IsStill s (body' s)) where
    -- where no more moments come, a body comes to one, or else the test does
    over-left : (r : Run Signal) (go : State → State → Run Signal) (n : ℕ) (s : State) → F.bound ≤ n → F.state d n s
        → IsStill s r
        → Alike F d n (Over way.Bound s) (and_then r (λ g t. after_body g (λ u. At Place line u (go u)) t))
    unfolding and_then
    over-left (Done g t) go n s last p h =
        subst (λ g. Alike F d n (Over way.Bound s) (after_body g (λ u. At Place line u (go u)) t)) (sym h.0)
        (d, p, last, refl, h.1)
    over-left (Over o t) go n s last p h = (d, p, last, sym h.0, h.1)
    over-left (At kind line t on) go n s last p h = (d, p, last, refl, h)

    over-right : (r : Run Signal) (go : State → State → Run Signal) (n : ℕ) (s : State) → F.bound ≤ n → F.state d n s
        → IsStill s r
        → Alike F d n (and_then r (λ g t. after_body g (λ u. At Place line u (go u)) t)) (Over way.Bound s)
    unfolding and_then
    over-right (Done g t) go n s last p h =
        subst (λ g. Alike F d n (after_body g (λ u. At Place line u (go u)) t) (Over way.Bound s)) (sym h.0)
        (d, subst (F.state d n) h.1 p, last, refl, sym h.1)
    over-right (Over o t) go n s last p h =
        subst (λ o. Alike F {A = Signal} d n (Over o t) (Over way.Bound s)) (sym h.0)
        (d, subst (F.state d n) h.1 p, last, refl, sym h.1)
    over-right (At kind line t on) go n s last p h = (d, subst (F.state d n) h p, last, refl, sym h)

    pub Alike-do : (k l n : ℕ) (s : State) → F.bound ≤ n + k → F.bound ≤ n + l → F.state d n s
        → Alike F d n (do_turns k line test body s) (do_turns l line test' body' s)
    Alike-do zero zero n s few less p = (d, p, omega (arith, few), refl, refl)
    Alike-do zero (suc l) n s few less p = over-left (body' s) _ n s (omega (arith, few)) p (still' s)
    Alike-do (suc k) zero n s few less p = over-right (body s) _ n s (omega (arith, less)) p (still s)
    Alike-do (suc k) (suc l) n s few less p =
        Alike-and_then F d d n _ _ _ _ (bodies n s p) (λ g i t le p. Alike-over g _ _ i t p (
          d,
          p,
          λ u p.
              Alike-and_then F d d (i + 1) _ _ _ _ (tests (i + 1) u p) (λ tested m w le' p.
              Alike-if F (holds tested) d m _ _ _ _ (Alike-do k l m w (omega (arith, few, le, le'))
              (omega (arith, less, le, le')) p) (p, refl, refl)),
          stands,
          refl,
          refl,
          refl,
        ))

  -- ---- `foreach`

  module _ (bundle : Bundle) (kept : IsKept F bundle) where
    Keeps-bind_name : (name : List ℕ) (v : Value) → Keeps F d (bind_name name v) (bind_name name v)
    Keeps-bind_name name v n s p = Alike-taken F _ d d n s p (λ t e. kept.assigns d n 0 name [] false v s t e p)

    Keeps-bind_key : (name : Option (List ℕ)) (key : Key) → Keeps F d (bind_key name key) (bind_key name key)
    Keeps-bind_key None key n s p = (p, refl, refl)
    Keeps-bind_key (Some name) key n s p = Keeps-bind_name name (value_of (data_of_key key)) n s p

    Keeps-bind : (binding : Binding) (entry : Key × Data) → Keeps F d (bind binding entry) (bind binding entry)
    Keeps-bind binding entry n s p =
        Keeps-and_then F d n _ _ _ _ (Keeps-bind_name binding.value (value_of entry.1) n s p)
        (λ _. Keeps-bind_key binding.key entry.0)

    pub Keeps-each : (line : ℕ) → F.line d line
        → (binding : Binding) (all : List (Key × Data)) (body body' : State → Run Signal)
        → Keeps F d body body' → Keeps F d (each_run line binding all body) (each_run line binding all body')
    Keeps-each line stands binding [] body body' bodies n s p = (p, refl, refl)
    Keeps-each line stands binding (entry ∷ more) body body' bodies n s p = (
      d,
      p,
      λ t p.
          Keeps-and_then F d (n + 1) _ _ _ _ (Keeps-bind binding entry (n + 1) t p) (λ _ n u p.
          Keeps-and_then F d n _ _ _ _ (bodies n u p) (λ g n v p. Alike-over g _ _ n v p
          (Keeps-each line stands binding more body body' bodies n v p))),
      stands,
      refl,
      refl,
      refl,
    )
