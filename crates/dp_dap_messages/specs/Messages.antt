-- The messages of the gateway as values: Debug Adapter Protocol, "Response", "Event", "Events".
-- Members stand in ascending order of their names.
use Rattle.std.specs.Prelude.{◌≡◌, ℕ, ◌+◌, ◌==◌, Bool, true, false, List, [], ◌∷◌, ◌++◌, length, ⊤, Option, Some, None, if◌then◌else◌, codes, decimal}
use Rattle.serde_json.specs.Data.{Data, boolean, string, array, object, Members, no_members, member}
use Rattle.serde_json.specs.View.{items_of}
use Rattle.serde_json.specs.Written.{has_float}
use Rattle.dp_bodies.specs.Requests.{Request}
use Rattle.dp_dap_messages.specs.declared.effects.News.{News}
use Rattle.dp_dap_messages.specs.declared.effects.News.TheVariants as news
use Rattle.dp_dap_messages.specs.declared.effects.Refusal.{Refusal}
use Rattle.dp_dap_messages.specs.declared.effects.Refusal.TheVariants as refusal
use Rattle.dp_dap_messages.specs.declared.effects.StopReason.{StopReason}
use Rattle.dp_dap_messages.specs.declared.effects.StopReason.TheVariants.{Entry, Breakpoint, Step}
use Rattle.dp_dap_messages.specs.Values.{php, count}

-- an object with one member
abbrev pub one_member : List ℕ → Data → Data
one_member name value = object (member name value no_members)

-- a list under a name
abbrev pub list : List ℕ → List Data → Data
list name values = one_member name (array (items_of values))

-- ---- refusals

abbrev pub refusal_text : Refusal → List ℕ
refusal_text refusal.Unsupported = codes "unsupported"
refusal_text refusal.NotNow = codes "not now"
refusal_text refusal.BadArguments = codes "bad arguments"
refusal_text refusal.TooManyReferences = codes "too many references"
refusal_text (refusal.Code number) = codes "dbgp " ++ decimal number

-- ---- responses

-- the members of every response behind its command or its message
abbrev pub response_end : ℕ → Request → Bool → Members
response_end seq request success =
    member (codes "request_seq") (count request.seq)
    (member (codes "seq") (count seq)
    (member (codes "success") (boolean success)
    (member (codes "type") (string (codes "response")) no_members)))

abbrev pub success : ℕ → Request → Option Data → Data
success seq request None =
    object (member (codes "command") (string request.command) (response_end seq request true))
success seq request (Some body) =
    object
    (member (codes "body") body
    (member (codes "command") (string request.command) (response_end seq request true)))

abbrev pub refused : ℕ → Request → Refusal → Data
refused seq request why =
    object
    (member (codes "command") (string request.command)
    (member (codes "message") (string (refusal_text why)) (response_end seq request false)))

-- ---- events

abbrev pub named : ℕ → List ℕ → Members
named seq name =
    member (codes "event") (string name)
    (member (codes "seq") (count seq)
    (member (codes "type") (string (codes "event")) no_members))

abbrev pub event : ℕ → List ℕ → Option Data → Data
event seq name None = object (named seq name)
event seq name (Some body) = object (member (codes "body") body (named seq name))

abbrev pub output_body : List ℕ → Data
output_body text =
    object
    (member (codes "category") (string (codes "stdout"))
    (member (codes "output") (php text) no_members))

abbrev pub reason_text : StopReason → List ℕ
reason_text Entry = codes "entry"
reason_text Breakpoint = codes "breakpoint"
reason_text Step = codes "step"

abbrev pub stopped_body : StopReason → Data
stopped_body reason =
    object
    (member (codes "allThreadsStopped") (boolean true)
    (member (codes "reason") (string (reason_text reason))
    (member (codes "threadId") (count 1) no_members)))

-- what the program wrote goes first, then what became of it
abbrev pub output_events : List ℕ → List (List ℕ × Option Data)
output_events text =
    if length text == 0 then [] else (codes "output", Some (output_body text)) ∷ []

abbrev pub news_events : News → List (List ℕ × Option Data)
news_events news.Nothing = []
news_events news.Initialized = (codes "initialized", None) ∷ []
news_events (news.Stopped reason) = (codes "stopped", Some (stopped_body reason)) ∷ []
news_events (news.Ended code) =
    (codes "exited", Some (one_member (codes "exitCode") (count code)))
    ∷ (codes "terminated", None) ∷ []

-- each with its number, behind so many messages
abbrev pub numbered : ℕ → List (List ℕ × Option Data) → List Data
numbered sent [] = []
numbered sent (e ∷ es) = event (sent + 1) e.0 e.1 ∷ numbered (sent + 1) es

-- ---- bodies

-- no number of a body is a float, so that its text is known
abbrev pub HasNoFloat : Option Data → Type 0
HasNoFloat None = ⊤
HasNoFloat (Some seen) = has_float seen ≡ false

abbrev pub capabilities : Data
capabilities = one_member (codes "supportsConfigurationDoneRequest") (boolean true)

abbrev pub one_thread : Data
one_thread =
    list (codes "threads")
    (object
    (member (codes "id") (count 1)
    (member (codes "name") (string (codes "main")) no_members))
    ∷ [])

abbrev pub verified : ℕ → ℕ → Data
verified id line =
    object
    (member (codes "id") (count id)
    (member (codes "line") (count line) (member (codes "verified") (boolean true) no_members)))

abbrev pub unverified : Refusal → Data
unverified why =
    object
    (member (codes "message") (string (refusal_text why))
    (member (codes "verified") (boolean false) no_members))

abbrev pub frames_body : List Data → ℕ → Data
frames_body frames total =
    object
    (member (codes "stackFrames") (array (items_of frames))
    (member (codes "totalFrames") (count total) no_members))

abbrev pub result_body : List ℕ → Data
result_body text =
    object
    (member (codes "result") (php text)
    (member (codes "variablesReference") (count 0) no_members))
