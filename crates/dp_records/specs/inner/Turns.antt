-- What answering commands that are held comes to.
use Rattle.std.specs.Prelude.{◌≡◌, ℕ, Bool, true, false, List, [], ◌++◌, Option, None, Some}
use Rattle.std.specs.List.{flat_map}
use Rattle.dp_conversation.specs.Folds.{Reply}
use Rattle.dp_conversation.specs.Growth.{served}
use Rattle.dp_records.specs.declared.sessions.Over.{Over}
use Rattle.dp_records.specs.declared.sessions.Over.TheVariants.{Ended, Open, Bad}
use Rattle.dp_records.specs.declared.sessions.Turn.{Turn}
use Rattle.dp_records.specs.declared.sessions.Turn.TheVariants.{Answered, Partial, TooLong}
use Rattle.dp_wire.specs.Frames.{BeginsCommand, BeginsNoCommand, IsPartialCommand, packet_frame, rest_of}

-- ---- the next command

-- what was answered to this command; sent and own are what was told of it
pub record Answers {S E : Type 0} (step : S → List ℕ → Reply S E) (start now : S)
    (ended : Option E) (held rest sent own : List ℕ) : Type 0 where
  pub line : List ℕ
  pub begins : BeginsCommand held line rest
  pub frames : sent ≡ flat_map packet_frame (step start line).packets
  pub program : own ≡ (step start line).program
  pub is_state : now ≡ (step start line).state
  pub is_end : ended ≡ (step start line).ended

-- a command was answered, or none as no whole one begins what is held
abbrev pub Takes : {S E : Type 0} → (S → List ℕ → Reply S E) → S → S → Turn E → List ℕ → List ℕ
    → List ℕ → List ℕ → Type 0
Takes step start now (Answered ended) held rest sent own =
    Answers step start now ended held rest sent own
Takes step start now Partial held rest sent own =
    IsPartialCommand held × (now ≡ start) × (rest ≡ held) × (sent ≡ []) × (own ≡ [])
Takes step start now TooLong held rest sent own =
    BeginsNoCommand held × (now ≡ start) × (rest ≡ held) × (sent ≡ []) × (own ≡ [])

-- ---- every command

-- why no further command is answered; and what is held where more of one has to come
abbrev pub StopsBy : {E : Type 0} → Over E → Option E → List ℕ → List ℕ → Type 0
StopsBy (Ended end) ended left rest = ended ≡ Some end
StopsBy Open ended left rest = (ended ≡ None) × (left ≡ rest) × IsPartialCommand rest
StopsBy Bad ended left rest = (ended ≡ None) × BeginsNoCommand rest

-- all that was held was answered, up to a command that ended the session
pub record AnswersAll {S E : Type 0} (step : S → List ℕ → Reply S E) (start now : S)
    (over : Over E) (held left : List ℕ) : Type 0 where
  pub is_state : now ≡ (served step start held).state
  pub stops : StopsBy over (served step start held).ended left (rest_of held)
  pub is_left : (served step start held).ended ≡ None → left ≡ rest_of held

-- whether no command begins what is held
abbrev pub is_bad : {E : Type 0} → Over E → Bool
is_bad (Ended end) = false
is_bad Open = false
is_bad Bad = true

-- how a command has ended the session, if one has
abbrev pub end_of : {E : Type 0} → Over E → Option E
end_of (Ended end) = Some end
end_of Open = None
end_of Bad = None

-- So far the session has come from the bytes held at the start to those that are left, and has told
-- this: what the bytes at the start lead to goes on with what those that are left do.
pub record HasAnswered {S E : Type 0} (step : S → List ℕ → Reply S E) (start now : S)
    (held left sent own : List ℕ) : Type 0 where
  pub is_rest : rest_of held ≡ rest_of left
  pub frames : flat_map packet_frame (served step start held).packets
      ≡ sent ++ flat_map packet_frame (served step now left).packets
  pub program : (served step start held).program ≡ own ++ (served step now left).program
  pub is_state : (served step start held).state ≡ (served step now left).state
  pub is_end : (served step start held).ended ≡ (served step now left).ended
