-- What an act of a session is answered, by what its lanes hand out.
use Rattle.std.proofs.Common.{◌≡◌, ℕ, ◌<◌, ◌==◌, Bool, true, false, if◌then◌else◌, List, [], ◌∷◌, ◌++◌, length, drop, flat_map}
use Rattle.std.proofs.Common.{Option, Some, None, is_none, refl, sym, ap, subst, ◌∙◌, inr, append-nil, arith}
use Rattle.std.proofs.lemmas.Bool.{or_right, or_from, eqb-true, false≢true}
use Rattle.std.proofs.lemmas.List.Concat.{flat_map-append}
use Rattle.dp_lanes.specs.declared.lane.Lane.{Lane}
use Rattle.dp_lanes.specs.declared.lane.LaneKind.{LaneKind}
use Rattle.dp_lanes.specs.declared.lane.LaneKind.TheVariants.{Up, Down}
use Rattle.dp_lanes.specs.Lanes.{frame, texts_in, is_bad}
use Rattle.dp_lanes.specs.Places.{IsBadPlace, Follows, Carries}
use Rattle.dp_proxy.specs.declared.events.Act.{Act}
use Rattle.dp_proxy.specs.declared.events.Act.TheVariants.{Given, Moved}
use Rattle.dp_proxy.specs.declared.events.Effect.{Effect}
use Rattle.dp_proxy.specs.declared.events.Effect.TheVariants.{Nothing, ToEngine, ToIde}
use Rattle.dp_proxy.specs.declared.passes.Passing.TheVariants as passing
use Rattle.dp_proxy.specs.Links.{brought, stream, handed, is_broken, effect_of, passed, ends}
use Rattle.dp_proxy.specs.inner.Lanes.{FollowBoth, IsBrokenAt, BrokenPlace}
use Rattle.dp_proxy.specs.inner.Acts.{Passes}

-- ---- streams

pub stream_push : (kind : LaneKind) (acts : List Act) (act : Act)
    → stream kind (acts ++ act ∷ []) ≡ stream kind acts ++ brought kind act
stream_push kind acts act =
    flat_map-append (brought kind) acts (act ∷ []) ∙ ap (λ l. stream kind acts ++ l) (append-nil (brought kind act))

pub stream_same : (kind : LaneKind) (acts : List Act) (act : Act) → brought kind act ≡ []
    → stream kind acts ≡ stream kind (acts ++ act ∷ [])
stream_same kind acts act none =
    sym (stream_push kind acts act ∙ ap (λ l. stream kind acts ++ l) none ∙ append-nil (stream kind acts))

follow_same : (kind : LaneKind) (lane : Lane) (acts : List Act) (act : Act) → brought kind act ≡ []
    → Follows kind lane (stream kind acts)
    → Follows kind lane (stream kind (acts ++ act ∷ []))
follow_same kind lane acts act none f = subst (Follows kind lane) (stream_same kind acts act none) f

pub follow_idle : (acts : List Act) (act : Act) (up down : Lane) → brought Up act ≡ [] → brought Down act ≡ []
    → FollowBoth acts up down
    → FollowBoth (acts ++ act ∷ []) up down
follow_idle acts act up down no_up no_down f =
    record {
      packets = follow_same Up up acts act no_up f.packets;
      commands = follow_same Down down acts act no_down
          f.commands;
    }

-- ---- where a link is broken

pub broken_up : (acts : List Act) (place : Option ℕ) → is_bad Down (stream Down acts) ≡ false
    → IsBadPlace Up (stream Up acts) place → BrokenPlace acts place
broken_up acts None good bad = or_from (is_bad Down (stream Down acts)) (is_bad Up (stream Up acts)) good bad
broken_up acts (Some offset) good bad = record {
  broken = or_right (is_bad Down (stream Down acts)) (is_bad Up (stream Up acts)) bad.bad;
  place = inr (good, bad.place);
}

-- ---- what an act is answered

effect_some : (out : List ℕ → Effect) (bytes : List ℕ) (broken : Bool) → 0 < length bytes
    → effect_of out bytes broken ≡ Some (out bytes)
effect_some out [] broken some = absurd (omega arith)
effect_some out (b ∷ bytes) broken some = refl

module _ (acts : List Act) (act : Act) (kind : LaneKind) (to : List ℕ → Effect) (out : List ℕ)
    (is : passed acts act ≡ effect_of to (handed kind acts act) (is_broken (acts ++ act ∷ [])))
    (end : ends acts act ≡ is_none (passed acts act))
    (put : handed kind acts act ≡ out) where
  effect_frames : 0 < length out → Passes acts act (passing.Answered (to out))
  effect_frames some =
      let now : passed acts act ≡ Some (to out) = is ∙ ap (λ h. effect_of to h (is_broken (acts ++ act ∷ []))) put
      ∙ effect_some to out (is_broken (acts ++ act ∷ [])) some in
      (now, end ∙ ap is_none now)

  nothing : out ≡ [] → (broken : Bool) → is_broken (acts ++ act ∷ []) ≡ broken
      → passed acts act ≡ (if broken then None else Some Nothing)
  nothing none broken e = is ∙ ap (λ h. effect_of to h (is_broken (acts ++ act ∷ []))) (put ∙ none) ∙ ap
      (effect_of to []) e

  effect_nothing : out ≡ [] → is_broken (acts ++ act ∷ []) ≡ false → Passes acts act (passing.Answered Nothing)
  effect_nothing none whole =
      let now : passed acts act ≡ Some Nothing = nothing none false whole in (now, end ∙ ap is_none now)

  effect_broken : out ≡ [] → (offset : ℕ) → IsBrokenAt (acts ++ act ∷ []) offset → Passes acts act
      (passing.Broken offset)
  effect_broken none offset at =
      let now : passed acts act ≡ None = nothing none true at.broken in (now, end ∙ ap is_none now, at.place)

-- ---- bytes that the IDE gives

module _ (acts : List Act) (bytes : List ℕ) (up down after : Lane) (out : List ℕ) (follow : FollowBoth acts up down)
    (carries : Carries Down after (stream Down acts) bytes out) where
  pub given_follows : FollowBoth (acts ++ Given bytes ∷ []) up after
  given_follows = record {
    packets = follow_same Up up acts (Given bytes) refl follow.packets;
    commands = subst (Follows Down after) (sym (stream_push Down acts (Given bytes))) carries.follows;
  }

  given_put : handed Down acts (Given bytes) ≡ out
  given_put =
      ap (λ s. flat_map (frame Down) (drop (length (texts_in Down (stream Down acts))) (texts_in Down s)))
      (stream_push Down acts (Given bytes)) ∙ sym carries.put

  pub given_frames : 0 < length out → Passes acts (Given bytes) (passing.Answered (ToEngine out))
  given_frames some = effect_frames acts (Given bytes) Down ToEngine out refl refl given_put some

  pub given_nothing : out ≡ [] → is_broken (acts ++ Given bytes ∷ []) ≡ false
      → Passes acts (Given bytes) (passing.Answered Nothing)
  given_nothing none whole = effect_nothing acts (Given bytes) Down ToEngine out refl refl given_put none whole

  pub given_broken : out ≡ [] → (offset : ℕ) → IsBrokenAt (acts ++ Given bytes ∷ []) offset
      → Passes acts (Given bytes) (passing.Broken offset)
  given_broken none offset at = effect_broken acts (Given bytes) Down ToEngine out refl refl given_put none offset at

-- ---- bytes that were read of the engine

module _ (acts : List Act) (bytes : List ℕ) (up down after : Lane) (out : List ℕ) (follow : FollowBoth acts up down)
    (carries : Carries Up after (stream Up acts) bytes out) where
  pub moved_follows : FollowBoth (acts ++ Moved bytes ∷ []) after down
  moved_follows = record {
    packets = subst (Follows Up after) (sym (stream_push Up acts (Moved bytes))) carries.follows;
    commands = follow_same Down down acts (Moved bytes) refl follow.commands;
  }

  moved_put : handed Up acts (Moved bytes) ≡ out
  moved_put =
      ap (λ s. flat_map (frame Up) (drop (length (texts_in Up (stream Up acts))) (texts_in Up s)))
      (stream_push Up acts (Moved bytes)) ∙ sym carries.put

  pub moved_frames : 0 < length out → Passes acts (Moved bytes) (passing.Answered (ToIde out))
  moved_frames some = effect_frames acts (Moved bytes) Up ToIde out refl refl moved_put some

  pub moved_nothing : out ≡ [] → is_broken (acts ++ Moved bytes ∷ []) ≡ false
      → Passes acts (Moved bytes) (passing.Answered Nothing)
  moved_nothing none whole = effect_nothing acts (Moved bytes) Up ToIde out refl refl moved_put none whole

  pub moved_broken : out ≡ [] → (offset : ℕ) → IsBrokenAt (acts ++ Moved bytes ∷ []) offset
      → Passes acts (Moved bytes) (passing.Broken offset)
  moved_broken none offset at = effect_broken acts (Moved bytes) Up ToIde out refl refl moved_put none offset at

-- ---- whether anything is handed out

pub some_bytes : (bytes : List ℕ) (t : Bool) → t ≡ (length bytes == 0) → t ≡ false → 0 < length bytes
some_bytes [] t e isnt = absurd (false≢true (sym isnt ∙ e))
some_bytes (b ∷ bytes) t e isnt = omega arith

pub no_bytes : (bytes : List ℕ) (t : Bool) → t ≡ (length bytes == 0) → t ≡ true → bytes ≡ []
no_bytes [] t e is = refl
no_bytes (b ∷ bytes) t e is = let none : length (b ∷ bytes) ≡ 0 = eqb-true _ _ (sym e ∙ is) in absurd (omega arith)
