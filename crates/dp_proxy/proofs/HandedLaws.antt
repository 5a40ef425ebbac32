-- What all acts hand out in a lane is the frames of its stream.
use Rattle.std.proofs.Common.{◌≡◌, ℕ, Bool, true, false, List, [], ◌∷◌, ◌++◌, length, drop, flat_map}
use Rattle.std.proofs.Common.{refl, sym, ap, ◌∙◌, append_assoc, append-nil}
use Rattle.dp_lanes.specs.declared.lane.LaneKind.{LaneKind}
use Rattle.dp_lanes.specs.declared.lane.LaneKind.TheVariants.{Up, Down}
use Rattle.dp_lanes.specs.Lanes.{frame, texts_in}
use Rattle.dp_lanes.proofs.PassedLaws.{handed_on, no_texts}
use Rattle.dp_proxy.specs.declared.events.Act.{Act}
use Rattle.dp_proxy.specs.declared.events.Act.TheVariants.{Ide, Engine, Given, Moved, Closed}
use Rattle.dp_proxy.specs.declared.events.Effect.TheVariants.{ToEngine, ToIde}
use Rattle.dp_proxy.specs.Links.{brought, stream, handed, is_broken, effect_of, passed, bytes_of, handed_behind, all_handed}
use Rattle.dp_proxy.proofs.PassLaws.{stream_push, stream_same}

-- ---- the bytes of an effect

up_bytes : (bytes : List ℕ) (broken : Bool) → bytes_of Up (effect_of ToIde bytes broken) ≡ bytes
up_bytes [] true = refl
up_bytes [] false = refl
up_bytes (b ∷ bytes) broken = refl

down_bytes : (bytes : List ℕ) (broken : Bool) → bytes_of Down (effect_of ToEngine bytes broken) ≡ bytes
down_bytes [] true = refl
down_bytes [] false = refl
down_bytes (b ∷ bytes) broken = refl

-- no byte of the other lane
up_none : (bytes : List ℕ) (broken : Bool) → bytes_of Up (effect_of ToEngine bytes broken) ≡ []
up_none [] true = refl
up_none [] false = refl
up_none (b ∷ bytes) broken = refl

down_none : (bytes : List ℕ) (broken : Bool) → bytes_of Down (effect_of ToIde bytes broken) ≡ []
down_none [] true = refl
down_none [] false = refl
down_none (b ∷ bytes) broken = refl

-- ---- one act

module _ (kind : LaneKind) (acts : List Act) (act : Act) where
  abbrev frames : List ℕ
  frames = flat_map (frame kind) (texts_in kind (stream kind acts))

  -- where it brings bytes, their frames follow
  some : bytes_of kind (passed acts act) ≡ handed kind acts act
      → frames ++ bytes_of kind (passed acts act)
      ≡ flat_map (frame kind) (texts_in kind (stream kind (acts ++ act ∷ [])))
  some is =
      ap (λ l. frames ++ l) is
      ∙ ap (λ s. frames ++ flat_map (frame kind) (drop (length (texts_in kind (stream kind acts))) (texts_in kind s)))
      (stream_push kind acts act)
      ∙ handed_on kind (stream kind acts) (brought kind act)
      ∙ ap (λ s. flat_map (frame kind) (texts_in kind s)) (sym (stream_push kind acts act))

  -- where it brings none, nothing follows
  none : bytes_of kind (passed acts act) ≡ [] → brought kind act ≡ []
      → frames ++ bytes_of kind (passed acts act)
      ≡ flat_map (frame kind) (texts_in kind (stream kind (acts ++ act ∷ [])))
  none is idle =
      ap (λ l. frames ++ l) is ∙ append-nil frames
      ∙ ap (λ s. flat_map (frame kind) (texts_in kind s)) (stream_same kind acts act idle)

one_act : (kind : LaneKind) (acts : List Act) (act : Act)
    → flat_map (frame kind) (texts_in kind (stream kind acts)) ++ bytes_of kind (passed acts act)
    ≡ flat_map (frame kind) (texts_in kind (stream kind (acts ++ act ∷ [])))
one_act Up acts (Given bytes) =
    none Up acts (Given bytes) (up_none (handed Down acts (Given bytes)) (is_broken (acts ++ Given bytes ∷ []))) refl
one_act Down acts (Given bytes) =
    some Down acts (Given bytes) (down_bytes (handed Down acts (Given bytes)) (is_broken (acts ++ Given bytes ∷ [])))
one_act Up acts (Moved bytes) =
    some Up acts (Moved bytes) (up_bytes (handed Up acts (Moved bytes)) (is_broken (acts ++ Moved bytes ∷ [])))
one_act Down acts (Moved bytes) =
    none Down acts (Moved bytes) (down_none (handed Up acts (Moved bytes)) (is_broken (acts ++ Moved bytes ∷ []))) refl
one_act Up acts Closed = none Up acts Closed (up_bytes [] (is_broken acts)) refl
one_act Down acts Closed = none Down acts Closed (down_none [] (is_broken acts)) refl
one_act Up acts (Ide host) = none Up acts (Ide host) refl refl
one_act Down acts (Ide host) = none Down acts (Ide host) refl refl
one_act Up acts (Engine key) = none Up acts (Engine key) refl refl
one_act Down acts (Engine key) = none Down acts (Engine key) refl refl

-- ---- all acts

handed_on_acts : (kind : LaneKind) (before acts : List Act)
    → flat_map (frame kind) (texts_in kind (stream kind before)) ++ handed_behind kind before acts
    ≡ flat_map (frame kind) (texts_in kind (stream kind (before ++ acts)))
handed_on_acts kind before [] =
    append-nil (flat_map (frame kind) (texts_in kind (stream kind before)))
    ∙ ap (λ l. flat_map (frame kind) (texts_in kind (stream kind l))) (sym (append-nil before))
handed_on_acts kind before (act ∷ acts) =
    let rest = handed_behind kind (before ++ act ∷ []) acts in
    sym (append_assoc (flat_map (frame kind) (texts_in kind (stream kind before))) (bytes_of kind (passed before act))
    rest)
    ∙ ap (λ l. l ++ rest) (one_act kind before act)
    ∙ handed_on_acts kind (before ++ act ∷ []) acts
    ∙ ap (λ l. flat_map (frame kind) (texts_in kind (stream kind l))) (append_assoc before (act ∷ []) acts)

pub all_is_handed : (kind : LaneKind) (acts : List Act)
    → all_handed kind acts ≡ flat_map (frame kind) (texts_in kind (stream kind acts))
all_is_handed kind acts =
    ap (λ t. flat_map (frame kind) t ++ all_handed kind acts) (sym (no_texts kind)) ∙ handed_on_acts kind [] acts
