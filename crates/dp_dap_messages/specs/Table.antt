-- The requests that are answered, and when: Debug Adapter Protocol, "Requests". Which stage allows
-- which is this gateway's own where the standard leaves it open.
use Rattle.std.specs.Prelude.{ℕ, Bool, true, false, List, [], ◌∷◌, Option, codes}
use Rattle.std.specs.List.{find}
use Rattle.std.specs.Str.{bytes_eq}
use Rattle.dp_dap_messages.specs.declared.table.RequestName.{RequestName}
use Rattle.dp_dap_messages.specs.declared.table.RequestName.TheVariants.{Initialize, Launch, ConfigurationDone, SetExceptionBreakpoints, SetBreakpoints, Threads, StackTrace, Scopes, Variables, Continue, Next, StepIn, StepOut, Evaluate, Disconnect}
use Rattle.dp_dap_messages.specs.declared.table.Stage.{Stage}
use Rattle.dp_dap_messages.specs.declared.table.Stage.TheVariants.{New, Ready, Stopped, Over}

abbrev pub text_of : RequestName → List ℕ
text_of Initialize = codes "initialize"
text_of Launch = codes "launch"
text_of ConfigurationDone = codes "configurationDone"
text_of SetExceptionBreakpoints = codes "setExceptionBreakpoints"
text_of SetBreakpoints = codes "setBreakpoints"
text_of Threads = codes "threads"
text_of StackTrace = codes "stackTrace"
text_of Scopes = codes "scopes"
text_of Variables = codes "variables"
text_of Continue = codes "continue"
text_of Next = codes "next"
text_of StepIn = codes "stepIn"
text_of StepOut = codes "stepOut"
text_of Evaluate = codes "evaluate"
text_of Disconnect = codes "disconnect"

abbrev pub every_name : List RequestName
every_name =
    Initialize ∷ Launch ∷ ConfigurationDone ∷ SetExceptionBreakpoints ∷ SetBreakpoints ∷ Threads
    ∷ StackTrace ∷ Scopes ∷ Variables ∷ Continue ∷ Next ∷ StepIn ∷ StepOut ∷ Evaluate ∷ Disconnect
    ∷ []

-- the request that a command names, if one does
unfoldable pub name_of : List ℕ → Option RequestName
name_of text = find (λ n. bytes_eq (text_of n) text) every_name

-- before initialize; before the program starts; while it stands; after its end
abbrev pub row : Bool → Bool → Bool → Bool → Stage → Bool
row new ready stopped over New = new
row new ready stopped over Ready = ready
row new ready stopped over Stopped = stopped
row new ready stopped over Over = over

abbrev pub new_alone : Stage → Bool
new_alone = row true false false false

abbrev pub ready_alone : Stage → Bool
ready_alone = row false true false false

abbrev pub stopped_alone : Stage → Bool
stopped_alone = row false false true false

abbrev pub ready_or_stopped : Stage → Bool
ready_or_stopped = row false true true false

abbrev pub all_but_new : Stage → Bool
all_but_new = row false true true true

abbrev pub always : Stage → Bool
always = row true true true true

-- the stage allows the request
abbrev pub allows : RequestName → Stage → Bool
allows Initialize = new_alone
allows Launch = ready_alone
allows ConfigurationDone = ready_alone
allows SetExceptionBreakpoints = ready_or_stopped
allows SetBreakpoints = ready_or_stopped
allows Threads = all_but_new
allows StackTrace = stopped_alone
allows Scopes = stopped_alone
allows Variables = stopped_alone
allows Continue = stopped_alone
allows Next = stopped_alone
allows StepIn = stopped_alone
allows StepOut = stopped_alone
allows Evaluate = stopped_alone
allows Disconnect = always
