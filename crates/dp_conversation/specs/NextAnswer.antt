-- A session that is fed its commands in pieces: what its next answer is, and how what it has come
-- to goes on.
use Rattle.std.specs.Prelude.{◌≡◌, ℕ, Bool, false, List, ◌++◌}
use Rattle.std.specs.List.{AllByRecursion}
use Rattle.dp_wire.specs.Frames.{BeginsCommand, IsPartialCommand, BeginsNoCommand, IsPacketText, rest_of}
use Rattle.dp_conversation.specs.declared.conversation.Next.{Next}
use Rattle.dp_conversation.specs.declared.conversation.Next.TheVariants.{Answered, Partial, TooLong}
use Rattle.dp_conversation.specs.Folds.{Reply, followed, reply_of}
use Rattle.dp_conversation.specs.Growth.{served}

-- the session answers the first command held, and is in this state then; the rest stays held
pub record AnswersFirst {S E : Type 0} (reply : List ℕ → Reply S E) (given : Reply S E)
    (held rest : List ℕ) : Type 0 where
  pub line : List ℕ
  pub begins : BeginsCommand held line rest
  pub is : given ≡ reply line

-- what comes next, where these bytes are held: an answer, or none as no whole command begins them
abbrev pub ComesNext : {S E : Type 0} → (S → List ℕ → Reply S E) → S → S → List ℕ → List ℕ → Next E
    → Type 0
ComesNext step start state held rest (Answered answer) =
    AnswersFirst (step start) (reply_of answer state) held rest
ComesNext step start state held rest Partial =
    IsPartialCommand held × (state ≡ start) × (rest ≡ held)
ComesNext step start state held rest TooLong =
    BeginsNoCommand held × (state ≡ start) × (rest ≡ held)

-- the texts of an answer are those of packets
abbrev pub AreTextsNext : {E : Type 0} → Next E → Type 0
AreTextsNext (Answered answer) = AllByRecursion IsPacketText answer.packets
AreTextsNext Partial = Unit {0}
AreTextsNext TooLong = Unit {0}

-- an answer comes only of a session that had not failed
abbrev pub ComesUnfailed : {E : Type 0} → Bool → Next E → Type 0
ComesUnfailed failed (Answered answer) = failed ≡ false
ComesUnfailed failed Partial = Unit {0}
ComesUnfailed failed TooLong = Unit {0}

-- What a session has come to by some bytes goes on with more of them: from the state that it is in
-- then, over what was left of the first bytes and the ones that come.
abbrev pub FeedingGoesOn : {S E : Type 0} → (S → List ℕ → Reply S E) → S → List ℕ → List ℕ → Type 0
FeedingGoesOn step start bytes more =
    served step start (bytes ++ more)
    ≡ followed (served step start bytes) (served step (served step start bytes).state
    (rest_of bytes ++ more))
