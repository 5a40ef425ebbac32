-- A session over the gateway that was served over a link, by how it ended.
use Rattle.std.specs.Prelude.{◌≡◌, ◌⊎◌, ℕ, ◌≤◌, ◌<◌, false, true, List, [], ◌∷◌, ◌++◌, length, Option, None, Some}
use Rattle.std.specs.List.{flat_map, list_all, AllByRecursion}
use Rattle.std.specs.Io.KnownBytes.{Appends, Consumes, IsAtEnd}
use Rattle.dp_bodies.specs.declared.errors.BodyError.{BodyError}
use Rattle.dp_bodies.specs.Frames.{IsBody, body_frame, BeginsNoBody, IsPartialBody}
use Rattle.dp_bodies.specs.Received.{IsCause, refused_at}
use Rattle.dp_conversation.specs.declared.link.SessionOver.{SessionOver}
use Rattle.dp_conversation.specs.declared.link.SessionOver.TheVariants as over
use Rattle.dp_conversation.specs.Folds.{replies}
use Rattle.dp_conversation.specs.Service.{AppendsPast, byte_limit, piece_limit}
use Rattle.dp_outside.specs.Causes.{Rose}
use Rattle.dp_outside.specs.Changes.{Change}
use Rattle.dp_tree.specs.declared.bundle.Bundle.{Bundle}
use Rattle.dp_state.specs.declared.moments.Outcome.{Outcome}
use Rattle.dp_engine.specs.declared.service.ServeEnd.{ServeEnd}
use Rattle.dp_engine.specs.declared.service.ServeEnd.TheVariants.{Stopped, Detached, LinkEnd, ReadFault, WriteFault, OutFault, BadCommandFrame, ByteLimit, Memory}
use Rattle.dp_engine.specs.declared.service.Served.{Served}
use Rattle.dp_engine.specs.declared.session.SessionEnd.{SessionEnd}
use Rattle.dp_engine.specs.declared.session.SessionEnd.TheVariants as end
use Rattle.dp_engine.specs.Service.{IsOver}
use Rattle.dp_dap.specs.Dap.{answers_to, dap, ending, is_request, reply, rest}
use Rattle.dp_dap.specs.Known.{Known, opening}

-- these bodies were read, and what is left
pub record IsFramed (read : List ℕ) (texts : List (List ℕ)) (left : List ℕ) : Type 0 where
  pub whole : read ≡ flat_map body_frame texts ++ left
  pub each : AllByRecursion IsBody texts

-- no frame begins the rest, behind so many bytes; this is the place of the refusal
pub record IsBadRest (left : List ℕ) (start offset : ℕ) : Type 0 where
  pub none : BeginsNoBody left
  pub why : BodyError
  pub is_why : IsCause (record { held = left; dropped = start }) why
  pub place : offset ≡ refused_at why start

-- the first body that is no request; its frame begins at this place
pub record IsNoRequest (texts : List (List ℕ)) (offset : ℕ) : Type 0 where
  pub front : List (List ℕ)
  pub text : List ℕ
  pub later : List (List ℕ)
  pub whole : texts ≡ front ++ text ∷ later
  pub requests : list_all is_request front ≡ true
  pub none : is_request text ≡ false
  pub place : offset ≡ length (flat_map body_frame front)

-- bytes that a frame ends, or that more has to follow, in which each body is a request
pub record IsSound (texts : List (List ℕ)) (left : List ℕ) : Type 0 where
  pub requests : list_all is_request texts ≡ true
  pub partial : IsPartialBody left

-- What was read ends with one piece. Before it no request had ended the gateway, each body was a
-- request, and more of one had to come: neither an end nor a bad body stood there. How often the
-- source was asked for the bytes of the piece is not said.
pub record IsReadUpTo (start : Known) (read : List ℕ) : Type 0 where
  pub front : List ℕ
  pub piece : List ℕ
  pub whole : read ≡ front ++ piece
  pub short : length piece ≤ piece_limit
  pub before : List (List ℕ)
  pub left : List ℕ
  pub framed : IsFramed front before left
  pub sound : IsSound before left
  pub goes_on : (replies reply start before).ended ≡ None

-- why the gateway came to be over here, where no fault of a put cut it short
abbrev pub OverBy : SessionOver SessionEnd → Option SessionEnd → List (List ℕ) → List ℕ → List ℕ
    → Change → Type 0
OverBy (over.Ended end) ended texts left read source = ended ≡ Some end
OverBy over.LinkEnd ended texts left read source =
    (ended ≡ None) × IsSound texts left × IsAtEnd source.told × (length read < byte_limit)
OverBy over.ReadFault ended texts left read source =
    (ended ≡ None) × IsSound texts left × Rose source.faults_before source.faults
    × (length read < byte_limit)
OverBy (over.BadCommandFrame offset) ended texts left read source =
    (ended ≡ None)
    × (IsNoRequest texts offset
    ⊎ ((list_all is_request texts ≡ true)
    × IsBadRest left (length (flat_map body_frame texts)) offset))
OverBy over.ByteLimit ended texts left read source =
    (ended ≡ None) × IsSound texts left × (length read ≡ byte_limit)

-- the same, but that a program that had ended and one that was killed are reported alike
abbrev pub EndsBy : ServeEnd → Option SessionEnd → List (List ℕ) → List ℕ → List ℕ → Change → Type 0
EndsBy Stopped ended texts left read source = IsOver ended
EndsBy Detached ended texts left read source =
    OverBy (over.Ended end.Detached) ended texts left read source
EndsBy LinkEnd ended texts left read source = OverBy over.LinkEnd ended texts left read source
EndsBy ReadFault ended texts left read source = OverBy over.ReadFault ended texts left read source
EndsBy (BadCommandFrame offset) ended texts left read source =
    OverBy (over.BadCommandFrame offset) ended texts left read source
EndsBy ByteLimit ended texts left read source = OverBy over.ByteLimit ended texts left read source
EndsBy cut ended texts left read source = ⊥

-- Read from the source, sent on the link and written to the program's own output is what the bodies
-- among the bytes read come to, and the program has ended as it does there. What was read ends with
-- one piece, before which no request had ended the gateway and no bad body stood.
pub record IsServed (served : Served) (bundle : Bundle) (bound : ℕ)
    (source sink out : Change) : Type 0 where
  pub read : List ℕ
  pub within : length read ≤ byte_limit
  pub up_to : IsReadUpTo (opening bundle bound) read
  pub consumed : Consumes source.told_before source.told read
  pub texts : List (List ℕ)
  pub left : List ℕ
  pub framed : IsFramed read texts left
  pub sent : Appends sink.told_before sink.told (dap bundle bound texts)
  pub printed : Appends out.told_before out.told (rest bundle bound texts)
  pub outcome : served.outcome ≡ ending bundle bound texts
  pub ends : EndsBy served.end (answers_to bundle bound texts).ended texts left read source

-- what a fault leaves: of the program's own output a front of what is still to be written
abbrev pub CutBy : ServeEnd → Option Outcome → Bundle → ℕ → List (List ℕ) → Change → Change → Type 0
CutBy WriteFault outcome bundle bound taken sink out =
    Rose sink.faults_before sink.faults
    × Appends out.told_before out.told (rest bundle bound taken)
    × (outcome ≡ ending bundle bound taken)
CutBy OutFault outcome bundle bound taken sink out =
    Rose out.faults_before out.faults
    × AppendsPast out.told_before out.told [] (rest bundle bound taken) × (outcome ≡ None)
CutBy Memory outcome bundle bound taken sink out =
    AppendsPast out.told_before out.told [] (rest bundle bound taken) × (outcome ≡ None)
CutBy whole outcome bundle bound taken sink out = ⊥

-- Of the bodies among the bytes read the first ones, each a request, were answered whole, and at
-- most one more was obeyed, the last. The link has what the first ones come to, and a front of what
-- the last adds. Nothing is read behind the last: the bodies before the last piece were all
-- answered whole.
pub record IsCut (served : Served) (bundle : Bundle) (bound : ℕ)
    (source sink out : Change) : Type 0 where
  pub read : List ℕ
  pub within : length read ≤ byte_limit
  pub up_to : IsReadUpTo (opening bundle bound) read
  pub consumed : Consumes source.told_before source.told read
  pub done : List (List ℕ)
  pub last : List (List ℕ)
  pub later : List (List ℕ)
  pub left : List ℕ
  pub framed : IsFramed read ((done ++ last) ++ later) left
  pub requests : list_all is_request (done ++ last) ≡ true
  pub one : length last ≤ 1
  pub lately : List (List ℕ)
  pub behind : done ≡ up_to.before ++ lately
  pub sent : AppendsPast sink.told_before sink.told (dap bundle bound done)
      (dap bundle bound (done ++ last))
  pub by : CutBy served.end served.outcome bundle bound (done ++ last) sink out

-- every end has its cause
abbrev pub ServesTo : ServeEnd → Served → Bundle → ℕ → Change → Change → Change → Type 0
ServesTo WriteFault served bundle bound source sink out = IsCut served bundle bound source sink out
ServesTo OutFault served bundle bound source sink out = IsCut served bundle bound source sink out
ServesTo Memory served bundle bound source sink out = IsCut served bundle bound source sink out
ServesTo end served bundle bound source sink out = IsServed served bundle bound source sink out

abbrev pub Serves : Served → Bundle → ℕ → Change → Change → Change → Type 0
Serves served bundle bound source sink out =
    ServesTo served.end served bundle bound source sink out
