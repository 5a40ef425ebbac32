-- The threads of a crew, between their start and their end.
use Rattle.std.specs.Prelude.{◌≡◌, Bool, true, Result, Ok, Err}
use Rattle.dp_outside.specs.Jobs.{RanOrBack}

-- of a job and whether its start was granted: a result that the job may give, where it was; or the
-- very job
abbrev pub Settled : {J D : Type 0} → (J → D → Type 0) → J → Bool → Result D J → Type 0
Settled may_give job granted (Ok done) = (granted ≡ true) × may_give job done
Settled may_give job granted (Err back) = back ≡ job

-- a thread whose answer is that of the job, or the answer itself
abbrev pub Started : {J D H : Type 0} → (J → D → Type 0) → (H → J) → J → Bool
    → Result H (Result D J) → Type 0
Started may_give job_of job granted (Ok thread) = (granted ≡ true) × (job_of thread ≡ job)
Started may_give job_of job granted (Err answer) = Settled may_give job granted answer

-- what the thread may answer, or the answer itself
abbrev pub Answered : {J D H : Type 0} → (J → D → Type 0) → (H → J) → Result H (Result D J)
    → Result D J → Type 0
Answered may_give job_of (Ok thread) answer = RanOrBack may_give (job_of thread) answer
Answered may_give job_of (Err known) answer = answer ≡ known
