-- Turns as the code makes them.
use Rattle.std.proofs.Common.{arith, ◌≡◌, ℕ, ◌<◌, ◌≤◌, Bool, true, false, cond, not, List, [], ◌∷◌, drop, length, Option, Some, None, Result, Ok, Err, refl, sym, ap, subst, ◌∙◌}
use Rattle.std.specs.Prelude.{if◌then◌else◌, map, option_map, unwrap_or, IfOk, IsFalse, IsTrue, MatchResult}
use Rattle.std.specs.Option.{option_map_or}
use Rattle.std.proofs.lemmas.Bool.{le-leb}
use Rattle.std.proofs.lemmas.List.{length-map}
use Rattle.dp_wire.specs.Frames.{packet_limit}
use Rattle.dp_tree.specs.declared.bundle.Bundle.{Bundle}
use Rattle.dp_tree.specs.FileNames.{AreFileNames}
use Rattle.dp_break.specs.Tables.{Table}
use Rattle.dp_break.specs.Commands.{breakpoint_refusal, breakpoint_response, breakpoint_table}
use Rattle.dp_break.specs.Notices.{breakpoint_notice}
use Rattle.dp_command.specs.declared.command.Command.{Command}
use Rattle.dp_command.specs.declared.command.BreakpointRequest.{BreakpointRequest}
use Rattle.dp_command.specs.declared.command.LookRequest.{LookRequest}
use Rattle.dp_command.specs.declared.command.Request.{Request}
use Rattle.dp_command.specs.declared.command.Request.TheVariants.{Breakpoints, Look, Write}
use Rattle.dp_command.specs.declared.command.WriteRequest.{WriteRequest}
use Rattle.dp_command.specs.declared.errors.CommandError.{CommandError}
use Rattle.dp_command.specs.declared.errors.CommandError.TheVariants.{Code, Memory}
use Rattle.dp_command.specs.declared.errors.Refusal.{Refusal}
use Rattle.dp_command.specs.declared.errors.Refusal.TheVariants.{Duplicate, Unimplemented, NoId}
use Rattle.dp_command.specs.Commands.{command_as, command_of, request_of}
use Rattle.dp_command.specs.Tests.{Test, first_code}
use Rattle.dp_command.specs.declared.line.Line.{Line}
use Rattle.dp_command.specs.declared.names.CommandName.{CommandName}
use Rattle.dp_command.specs.Names.{name_of}
use Rattle.dp_command.specs.Refusals.{admission_refusal, code_of, coded, fits_row, holds_of, id_of}
use Rattle.dp_features.specs.Features.{resolves}
use Rattle.dp_meaning.specs.declared.writes.Write.{Write as ProgramWrite}
use Rattle.dp_meaning.specs.Trace.{now}
use Rattle.dp_packet.specs.declared.error_codes.ErrorCode.{ErrorCode}
use Rattle.dp_packet.specs.declared.error_codes.ErrorCode.TheVariants.{DuplicateArguments, InvalidOptions, UnimplementedCommand, CommandNotAvailable}
use Rattle.dp_packet.specs.declared.packet.Notify.{Notify}
use Rattle.dp_packet.specs.declared.packet.Response.{Response}
use Rattle.dp_packet.specs.declared.packet.Body.TheVariants as body
use Rattle.dp_packet.specs.declared.packet.Packet.TheVariants as packet
use Rattle.dp_packet.specs.Packets.{HasMessage}
use Rattle.dp_packet.specs.Parts.{Text}
use Rattle.dp_packet.specs.Text.{text}
use Rattle.dp_state.specs.declared.state.State.{State as Program_state}
use Rattle.dp_state.specs.States.{file_of, opening as first_state}
use Rattle.dp_view_commands.specs.Views.{code_in, view_refusal, view_response}
use Rattle.dp_write_commands.specs.Requests.{requested_write}
use Rattle.dp_write_commands.specs.Responses.{code_in as code_written, write_refusal, write_response}
use Rattle.dp_engine.specs.declared.session.SessionEnd.{SessionEnd}
use Rattle.dp_engine.specs.declared.states.Phase.{Phase}
use Rattle.dp_engine.specs.declared.states.Phase.TheVariants as phase
use Rattle.dp_engine.specs.declared.states.Position.TheVariants.{Starting, Break, Stopping}
use Rattle.dp_engine.specs.declared.replies.Turn.{Turn as Made}
use Rattle.dp_engine.specs.Answers.{Turn, breakpoints_done, in_packet, kept_if, performed, refused, response_in, shown, turn_by_command, turn_of, with_write, written}
use Rattle.dp_engine.specs.Refusals.{of_command, own_tests, refusal_of_line, row_tests, tests}
use Rattle.dp_engine.specs.Responses.{fault_response, response as response_of, response_text}
use Rattle.dp_engine.specs.Session.{State, here, output_by, output_so_far, program_by, program_of, unwritten, whole_output}
use Rattle.dp_engine.specs.States.{allows}
use Rattle.dp_engine.specs.inner.Sizes.{Fits}
use Rattle.dp_engine.specs.inner.Position.{known}
use Rattle.dp_engine.specs.Wishes.{wishes_of}
use Rattle.dp_engine.specs.inner.Turns.{IsTimely, IsTurn, ReadsCommand, Responds, Tells, answered, answered_by}
use Rattle.dp_engine.proofs.RefusalLaws.{first_for, writes_at_break}

-- ---- what a line asks for

-- the first of the tests of admission that holds
abbrev first_refusal : Bool → Bool → Bool → Option Refusal
first_refusal d u n = cond d (Some Duplicate) (cond u (Some Unimplemented) (cond n (Some NoId) None))

left_tests : (d u n a : Bool) (row : List Test) → first_refusal d u n ≡ None → a ≡ true
    → first_code ((d, DuplicateArguments) ∷ (u, UnimplementedCommand) ∷ (n, InvalidOptions)
    ∷ (not a, CommandNotAvailable) ∷ row) ≡ first_code row
left_tests false false false true row e f = refl
left_tests true u n a row e f = absurd cc
left_tests false true n a row e f = absurd cc
left_tests false false true a row e f = absurd cc
left_tests false false false false row e f = absurd cc

-- a line that is admitted has the tests of its row left
pub admitted : (state : State) (line : Line) (name : CommandName) → admission_refusal line ≡ None
    → name_of line.name ≡ Some name
    → allows state.phase name ≡ true → first_code (tests state line) ≡ first_code (row_tests state line name)
admitted state line name h n a =
    ap (λ (o : Option CommandName). first_code (coded line Duplicate ∷ coded line Unimplemented ∷ coded line NoId
    ∷ (not (of_command (allows state.phase) o), CommandNotAvailable) ∷ option_map_or (row_tests state line) o [])) n
    ∙ left_tests (holds_of line Duplicate) (holds_of line Unimplemented) (holds_of line NoId) (allows state.phase name)
    (row_tests state line name) h a

first_admission : (d u n : Bool) (more : List Test) (refusal : Refusal) → first_refusal d u n ≡ Some refusal
    → first_code ((d, DuplicateArguments) ∷ (u, UnimplementedCommand) ∷ (n, InvalidOptions) ∷ more)
    ≡ Some (code_of refusal)
first_admission true u n more refusal e =
    let same : Duplicate ≡ refusal = cc in ap (λ (r : Refusal). Some (code_of r)) same
first_admission false true n more refusal e =
    let same : Unimplemented ≡ refusal = cc in ap (λ (r : Refusal). Some (code_of r)) same
first_admission false false true more refusal e =
    let same : NoId ≡ refusal = cc in ap (λ (r : Refusal). Some (code_of r)) same
first_admission false false false more refusal e = absurd cc

-- one that is not admitted is refused so
pub unadmitted : (state : State) (line : Line) (refusal : Refusal) → admission_refusal line ≡ Some refusal
    → first_code (tests state line) ≡ Some (code_of refusal)
unadmitted state line refusal h =
    first_admission (holds_of line Duplicate) (holds_of line Unimplemented) (holds_of line NoId)
    (drop 3 (tests state line)) refusal h

-- what is read of its row, after which only a refusal of its own is left
pub reads_command : (state : State) (line : Line) (name : CommandName) (result : Result Command CommandError)
    → admission_refusal line ≡ None → name_of line.name ≡ Some name
    → allows state.phase name ≡ true → (IsFalse (fits_row name line) → result ≡ Err (Code InvalidOptions))
    → (IsTrue (fits_row name line) → MatchResult result (λ command. command ≡ command_as line name) (λ e. e ≡ Memory))
    → ReadsCommand state line result
reads_command state line name result h n a unfit fit = by (fits_row name line) refl where
  own : Text → List Test
  own id = own_tests state line.name id (request_of name line)

  left : (fits : Bool) → fits_row name line ≡ fits
      → refusal_of_line state (Some line) ≡ first_code ((not fits, InvalidOptions) ∷ own (id_of line))
  left fits e = admitted state line name h n a
      ∙ ap (λ (f : Bool). first_code ((not f, InvalidOptions) ∷ own (id_of line))) e

  made : (r : Result Command CommandError) → refusal_of_line state (Some line) ≡ first_code (own (id_of line))
      → MatchResult r (λ command. command ≡ command_as line name) (λ e. e ≡ Memory)
      → ReadsCommand state line r
  made (Ok command) e m = (
    e ∙ ap (λ (c : Command). first_code (own_tests state line.name (id_of line) c.request)) (sym m),
    ap (option_map (command_as line)) n ∙ ap (λ (c : Command). Some c) (sym m),
    ap (of_command (allows state.phase)) n ∙ a,
  )
  made (Err (Code code)) e m = absurd cc
  made (Err Memory) e m = tt

  by : (fits : Bool) → fits_row name line ≡ fits → ReadsCommand state line result
  by true e = made result (left true e) (fit e)
  by false e = subst (ReadsCommand state line) (sym (unfit e)) (left false e)

-- ---- what a line leads to

id_is : (line : Line) (command : Command) → command_of line ≡ Some command → command.id ≡ id_of line
id_is line command e = cases (name_of line.name) e where
  cases : (name : Option CommandName) → option_map (command_as line) name ≡ Some command → command.id ≡ id_of line
  cases None f = absurd cc
  cases (Some name) f = let same : id_of line ≡ command.id = cc in sym same

-- a command that writes is asked for in a break
pub writes_in_break : (state : State) (line : Line) (command : Command) → ReadsCommand state line (Ok command)
    → IsTimely state.phase command.request
writes_in_break state line command asks = by (name_of line.name) asks.1 asks.2 where
  by : (name : Option CommandName) → option_map (command_as line) name ≡ Some command
      → of_command (allows state.phase) name ≡ true → IsTimely state.phase command.request
  by None e a = absurd cc
  by (Some name) e a =
      let same : (command_as line name).request ≡ command.request = cc in
      subst (IsTimely state.phase) same (writes_at_break name line state.phase a)

same_turn : {E : Type 0} (state : State) (a b : Turn) (made : Result Made E) → a ≡ b → IfOk made (IsTurn a state)
    → IfOk made (IsTurn b state)
same_turn state a b made e h = subst (λ (t : Turn). IfOk made (IsTurn t state)) e h

pub turn_accepted : {E : Type 0} (state next : State) (line : Line) (command : Command) (name id : Text)
    (made : Result Made E) → name ≡ line.name → id ≡ id_of line
    → ReadsCommand state line (Ok command)
    → IfOk made (IsTurn (answered name id command.request state) next)
    → IfOk made (IsTurn (turn_of (Some line) (refusal_of_line state (Some line)) state) next)
turn_accepted state next line command name id made n i e h =
    same_turn next _ _ made
    ((λ k. answered (n k) (i k) command.request state)
    ∙ by (first_code (own_tests state line.name (id_of line) command.request))
    ∙ ap (λ (code : Option ErrorCode). turn_of (Some line) code state) (sym e.0)) h where
      by : (code : Option ErrorCode)
          → answered_by code line.name (id_of line) command.request state ≡ turn_of (Some line) code state
      by (Some code) = refl
      by None =
          ap (λ (x : Text). performed line.name x command.request state) (sym (id_is line command e.1))
          ∙ ap (λ (c : Option Command). turn_by_command line.name (id_of line) c state) (sym e.1)

-- a turn that is told so, where the session knows then what is asked for
pub turns : {E : Type 0} (asked : Turn) (next : State) (made : Result Made E)
    → IfOk made (Tells asked.before asked.response asked.ended) → next ≡ asked.next → IfOk made (IsTurn asked next)
turns asked next (Ok made) t n = record { responds = t; next = n }
turns asked next (Err e) t n = tt

pub turn_refused : {E : Type 0} (state : State) (line : Line) (code : ErrorCode) (name id : Text) (made : Result Made E)
    → name ≡ line.name → id ≡ id_of line
    → refusal_of_line state (Some line) ≡ Some code
    → IfOk made (Responds (fault_response name id code) None)
    → IfOk made (IsTurn (turn_of (Some line) (refusal_of_line state (Some line)) state) state)
turn_refused state line code name id made n i e h =
    same_turn state _ _ made ((λ k. refused (n k) (i k) code state)
    ∙ ap (λ (c : Option ErrorCode). turn_of (Some line) c state) (sym e))
    (turns (refused name id code state) state made h refl)

-- ---- turns

pub own_refused : {E : Type 0} (state next : State) (name id : Text) (r : Request) (code : ErrorCode)
    (made : Result Made E)
    → first_code (own_tests state name id r) ≡ Some code
    → next ≡ state → IfOk made (Responds (fault_response name id code) None)
    → IfOk made (IsTurn (answered name id r state) next)
own_refused state next name id r code made e n h =
    same_turn next _ _ made (ap (λ (c : Option ErrorCode). answered_by c name id r state) (sym e))
    (turns (refused name id code state) next made h n)

-- a response that is the one asked for, behind what is asked for, after which the session goes on
responds_all : {E : Type 0} (asked : Turn) (next : State) (before : Option Notify) (response : Response)
    (made : Result Made E)
    → IfOk made (Tells before response None) → before ≡ asked.before → response ≡ asked.response → next ≡ asked.next
    → None ≡ asked.ended
    → IfOk made (IsTurn asked next)
responds_all asked next before response made t b r n e =
    turns asked next made (subst (λ (x : Option SessionEnd). IfOk made (Tells asked.before asked.response x)) e
    (subst (λ (x : Response). IfOk made (Tells asked.before x None)) r
    (subst (λ (x : Option Notify). IfOk made (Tells x response None)) b t))) n

-- a program whose files have names has a file
pub has_files : (bundle : Bundle) → AreFileNames (map (λ f. f.name) bundle.files) → 0 < length bundle.files
has_files bundle names = omega (arith, names.some, length-map bundle.files (λ f. f.name))

-- a response that fits a packet
pub fits_known : (r : Response) → HasMessage (packet.Response r) → length (text (packet.Response r)) ≤ packet_limit
    → Fits r
unfolding response_text
fits_known r known short = record { known = known; short = short }

in_packet_is : (name id : Text) (r : Response) → length (text (packet.Response r)) ≤ packet_limit
    → r ≡ in_packet name id r
unfolding response_text
in_packet_is name id r short =
    ap (λ (b : Bool). if b then r else response_of name id [] body.Nothing)
    (sym (le-leb (length (text (packet.Response r))) packet_limit short))

-- a request of breakpoints that is not refused
pub breakpoints_respond : {E : Type 0} (state next : State) (name id : Text) (r : BreakpointRequest)
    (notice : Option Notify) (response : Response) (made : Result Made E)
    → breakpoint_refusal (resolves state.features) state.bundle (here state) state.breaks r ≡ None
    → notice ≡ breakpoint_notice (wishes_of state.features) state.bundle (here state) state.breaks r
    → response ≡ breakpoint_response (resolves state.features) state.bundle name id state.breaks r
    → length (text (packet.Response response)) ≤ packet_limit
    → next ≡ record state {
      breaks = breakpoint_table (resolves state.features) state.bundle (here state) r state.breaks;
    }
    → IfOk made (Tells notice response None) → IfOk made (IsTurn (answered name id (Breakpoints r) state) next)
breakpoints_respond state next name id r notice response made e told is short n t =
    same_turn next _ _ made
    (sym (ap (λ (c : Option ErrorCode). answered_by c name id (Breakpoints r) state) (first_for
    (breakpoint_refusal (resolves state.features) state.bundle (here state) state.breaks r) ∙ e)))
    (responds_all (breakpoints_done name id r state) next notice response made t told
    (in_packet_is name id response short ∙ ap (in_packet name id) is) n refl)

-- done where the program stands
pub breakpoints_turn : {E : Type 0} (state : State) (program : Program_state) (file : ℕ) (left : Table)
    (name id : Text) (r : BreakpointRequest) (notice : Option Notify) (response : Response) (made : Result Made E)
    → program ≡ program_of state → file ≡ file_of program
    → breakpoint_refusal (resolves state.features) state.bundle file state.breaks r ≡ None
    → notice ≡ breakpoint_notice (wishes_of state.features) state.bundle file state.breaks r
    → response ≡ breakpoint_response (resolves state.features) state.bundle name id state.breaks r
    → length (text (packet.Response response)) ≤ packet_limit
    → left ≡ breakpoint_table (resolves state.features) state.bundle file r state.breaks
    → IfOk made (Tells notice response None)
    → IfOk made (IsTurn (answered name id (Breakpoints r) state) (record state { breaks = left }))
breakpoints_turn state program file left name id r notice response made is f e told answer short n t =
    let there : here state ≡ file = sym (f ∙ ap file_of is) in
    breakpoints_respond state (record state { breaks = left }) name id r notice response made
    (ap (λ (k : ℕ). breakpoint_refusal (resolves state.features) state.bundle k state.breaks r) there ∙ e)
    (told ∙ ap (λ (k : ℕ). breakpoint_notice (wishes_of state.features) state.bundle k state.breaks r) (sym there))
    answer short
    (ap (λ (l : Table). record state { breaks = l }) (n
    ∙ ap (λ (k : ℕ). breakpoint_table (resolves state.features) state.bundle k r state.breaks) (sym there))) t

-- what is seen of the program where it stands
pub view_is : (state : State) (program : Program_state) (file : ℕ) (name id : Text) (r : LookRequest)
    → program ≡ program_of state → file ≡ file_of program
    → view_response state.bundle (here state) state.features (program_of state) name id r ≡ view_response state.bundle
    file state.features program name id r
view_is state program file name id r is f =
    (λ i. view_response state.bundle (file_of (sym is i)) state.features (sym is i) name id r)
    ∙ ap (λ (n : ℕ). view_response state.bundle n state.features program name id r) (sym f)

-- what is shown of the program
pub view_responds : {E : Type 0} (state : State) (name id : Text) (r : LookRequest) (response : Response)
    (made : Result Made E)
    → view_response state.bundle (here state) state.features (program_of state) name id r ≡ Ok response
    → IfOk made (Responds response None) → IfOk made (IsTurn (answered name id (Look r) state) state)
unfolding view_refusal
view_responds state name id r response made e t =
    same_turn state _ _ made
    (sym (ap (λ (c : Option ErrorCode). answered_by c name id (Look r) state) (first_for
    (view_refusal state.bundle (here state) state.features (program_of state) name id r) ∙ ap code_in e)))
    (responds_all (shown name id r state) state None response made t refl (ap (response_in name id) (sym e)) refl refl)

pub view_refused : (state : State) (name id : Text) (r : LookRequest) (code : ErrorCode)
    → view_response state.bundle (here state) state.features (program_of state) name id r ≡ Err code
    → first_code (own_tests state name id (Look r)) ≡ Some code
unfolding view_refusal
view_refused state name id r code e =
    first_for (view_refusal state.bundle (here state) state.features (program_of state) name id r) ∙ ap code_in e

-- a write is told
pub write_refused : (state : State) (name id : Text) (r : WriteRequest) (code : ErrorCode)
    → write_response state.bundle state.features (program_of state) name id r ≡ Err code
    → first_code (own_tests state name id (Write r)) ≡ Some code
unfolding write_refusal
write_refused state name id r code e =
    first_for (write_refusal state.bundle state.features (program_of state) name id r) ∙ ap code_written e

pub write_responds : {E : Type 0} (state next : State) (name id : Text) (r : WriteRequest) (w : ProgramWrite)
    (response : Response) (made : Result Made E)
    → write_response state.bundle state.features (program_of state) name id r ≡ Ok response
    → requested_write (program_of state) r ≡ Ok w → next ≡ with_write w state
    → IfOk made (Responds response None) → IfOk made (IsTurn (answered name id (Write r) state) next)
unfolding write_refusal
write_responds state next name id r w response made e asked is t =
    same_turn next _ _ made
    (sym (ap (λ (c : Option ErrorCode). answered_by c name id (Write r) state) (first_for
    (write_refusal state.bundle state.features (program_of state) name id r) ∙ ap code_written e)))
    (responds_all (written name id r state) next None response made t refl (ap (response_in name id) (sym e))
    (is ∙ (λ i. kept_if (sym e i) (sym asked i) state)) refl)

-- what the program has written so far is what has been written in its state
pub output_is : (state : State) → output_so_far state ≡ (program_of state).output
output_is state = by state.phase where
  there : (o : Option Program_state)
      → option_map_or (λ (p : Program_state). p.output) o [] ≡ (unwrap_or o (first_state state.bundle)).output
  there None = refl
  there (Some p) = refl

  by : (p : Phase) → output_by p state ≡ (program_by p state).output
  by phase.Starting = there (now state.bundle state.bound state.writes state.moment)
  by phase.Break = there (now state.bundle state.bound state.writes state.moment)
  by phase.Stopping = refl

-- what is still written past that is what is left
pub rest_is : (state : State) (program : Program_state) (shown : ℕ) (rest : List ℕ) → program ≡ program_of state
    → shown ≡ length program.output
    → rest ≡ drop shown (whole_output state) → rest ≡ unwritten state
rest_is state program shown rest is n h =
    h ∙ ap (λ (k : ℕ). drop k (whole_output state)) (n ∙ ap (λ (p : Program_state). length p.output) is
    ∙ ap length (sym (output_is state)))
