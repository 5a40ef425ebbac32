-- What follows the body of a loop's turn.
use Rattle.std.proofs.Common.{◌≡◌, ◌-◌, Bool, true, false, refl, ap}
use Rattle.std.specs.Prelude.{if◌then◌else◌, nat_le}
use Rattle.dp_state.specs.declared.state.State.{State}
use Rattle.dp_actions.specs.declared.turns.LoopStep.TheVariants as turn
use Rattle.dp_actions.specs.declared.signal.Signal.{Signal}
use Rattle.dp_actions.specs.declared.signal.Signal.TheVariants.{Next, Break, Continue, Return}
use Rattle.dp_actions.specs.Loops.{step_after, after_body}
use Rattle.dp_actions.specs.Run.{Run, Done}

either-out : (b : Bool) (g h : Signal) (s : State) (next : State → Run Signal) (out : Signal)
    → (if b then turn.Out g else turn.Out h) ≡ turn.Out out → (if b then Done g s else Done h s) ≡ Done out s
either-out true g h s next out e = let same : g ≡ out = cc in ap (λ g. Done g s) same
either-out false g h s next out e = let same : h ≡ out = cc in ap (λ g. Done g s) same

either-on : (b : Bool) (g : Signal) (s : State) (next : State → Run Signal) (out : Signal)
    → (if b then turn.On else turn.Out g) ≡ turn.Out out → (if b then next s else Done g s) ≡ Done out s
either-on true g s next out e = absurd (cc)
either-on false g s next out e = let same : g ≡ out = cc in ap (λ g. Done g s) same

goes-either : (b : Bool) (g : Signal) (s : State) (next : State → Run Signal)
    → (if b then turn.On else turn.Out g) ≡ turn.On → (if b then next s else Done g s) ≡ next s
goes-either true g s next e = refl
goes-either false g s next e = absurd (cc)

never-on : (b : Bool) (g h : Signal) → (if b then turn.Out g else turn.Out h) ≡ turn.On → ⊥
never-on true g h e = cc
never-on false g h e = cc

pub turn-out : (g : Signal) (next : State → Run Signal) (s : State) (out : Signal) → step_after g ≡ turn.Out out
    → after_body g next s ≡ Done out s
turn-out Next next s out e = absurd (cc)
turn-out (Break loops) next s out e = either-out (nat_le loops 1) Next (Break (loops - 1)) s next out e
turn-out (Continue loop) next s out e = either-on (nat_le loop 1) (Continue (loop - 1)) s next out e
turn-out (Return v) next s out e = let same : Return v ≡ out = cc in ap (λ g. Done g s) same

pub turn-on : (g : Signal) (next : State → Run Signal) (s : State) → step_after g ≡ turn.On
    → after_body g next s ≡ next s
turn-on Next next s e = refl
turn-on (Break loops) next s e = absurd (never-on (nat_le loops 1) Next (Break (loops - 1)) e)
turn-on (Continue loop) next s e = goes-either (nat_le loop 1) (Continue (loop - 1)) s next e
turn-on (Return v) next s e = absurd (cc)
