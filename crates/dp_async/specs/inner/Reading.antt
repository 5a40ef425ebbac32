-- What the two seats of a session and its reader know, before they begin and once they are done.
use Rattle.std.specs.Prelude.{◌≡◌, ℕ, ◌≤◌, Bool, true, false, List, [], ◌∷◌, ◌++◌, Option, None, Some}
use Rattle.std.specs.List.{AllByRecursion}
use mathlib.Core.List.{IsPrefix}
use Rattle.atomic_table.specs.Seated.{TableId}
use Rattle.dp_outside.specs.Causes.{Rose}
use Rattle.dp_outside.specs.Changes.{Change}
use Rattle.dp_engine.specs.declared.service.ServeEnd.TheVariants.{ReadFault}
use Rattle.dp_polled.specs.declared.piece.Piece.{Piece}
use Rattle.dp_polled.specs.declared.piece.Piece.TheVariants as piece
use Rattle.dp_polled.specs.Posts.{Known}
use Rattle.dp_polled.specs.Posted.{HasOnlyTaken, State, bytes_of as bytes_in, is_over}
use Rattle.dp_tree.specs.declared.bundle.Bundle.{Bundle}
use Rattle.dp_async.specs.declared.service.AsyncServed.{AsyncServed}
use Rattle.dp_async.specs.Beside.{EndsByInput, Flow, Gives, HeardFront, new_input}
use Rattle.dp_async.specs.Heard.{bytes_of}
use Rattle.dp_async.specs.Served.{Hears, Input}

-- ---- the reader

-- a seat of this post that may put, and has put nothing
pub record IsReader (post : TableId) (seat : Known) : Type 0 where
  pub post_is : seat.post ≡ post
  pub right : seat.may_put ≡ true
  pub none : seat.put ≡ []

-- a piece was put
pub record HasPut (piece : Piece) (before now : Known) : Type 0 where
  pub put : now.put ≡ before.put ++ piece ∷ []
  pub post : now.post ≡ before.post
  pub right : now.may_put ≡ before.may_put

-- the next piece of a source: its bytes, its end or its failure; or memory ran out for its bytes
abbrev pub NextPiece : Flow → Flow → Option Piece → Type 0
NextPiece before now None = (bytes : List ℕ) × Gives before now bytes
NextPiece before now (Some (piece.Bytes bytes)) = Gives before now bytes
NextPiece before now (Some piece.End) = Gives before now []
NextPiece before now (Some piece.Failed) = Gives before now [] × Rose before.faults now.faults

-- none of the pieces says that the input is over
abbrev pub AllGoOn : List Piece → Type 0
AllGoOn pieces = AllByRecursion (λ p. is_over (Some p) ≡ false) pieces

-- a reader has put what the source gave so far
pub record ReadsSoFar (before now : Flow) (post : TableId) (seat : Known) : Type 0 where
  pub post_is : seat.post ≡ post
  pub right : seat.may_put ≡ true
  pub go_on : AllGoOn seat.put
  pub gives : Gives before now (bytes_in seat.put)
  pub later : before.faults ≤ now.faults

-- It has put what the source gave, piece by piece, and then that it was at its end or had failed;
-- or memory ran out before that, and what it has put begins what the source gave.
pub record ReadsOut (before now : Flow) (post : TableId) (seat : Known) (starved : Bool)
    : Type 0 where
  pub post_is : seat.post ≡ post
  pub right : seat.may_put ≡ true
  pub pieces : List Piece
  pub last : Piece
  pub put : seat.put ≡ pieces ++ last ∷ []
  pub go_on : AllGoOn pieces
  pub over : is_over (Some last) ≡ true
  pub bytes : List ℕ
  pub gives : Gives before now bytes
  pub front : IsPrefix (bytes_in pieces) bytes
  pub all : starved ≡ false → bytes_in pieces ≡ bytes
  pub failed : starved ≡ false → last ≡ piece.Failed → Rose before.faults now.faults
  pub later : before.faults ≤ now.faults

-- ---- the session

-- a seat of this post that may take, and has taken nothing
pub record IsListener (post : TableId) (seat : Known) : Type 0 where
  pub post_is : seat.post ≡ post
  pub right : seat.may_take ≡ true
  pub none : seat.taken ≡ []

-- all was taken, up to the last piece; nothing more, where that was taken before
pub record TakesRest (before now : State) : Type 0 where
  pub over : is_over now.kept ≡ true
  pub takes : HasOnlyTaken before.seat now.seat
  pub stays : is_over before.kept ≡ true → now.seat ≡ before.seat
  pub later : before.faults ≤ now.faults

-- The session was served over the post: it heard a front of what was taken, or all of it where it
-- came to the end of its input or to its failure. All was taken, up to the last piece.
pub record SessionRan (served : AsyncServed) (bundle : Bundle) (bound : ℕ) (key : List ℕ)
    (post : TableId) (seat : Known) (sink out : Change) : Type 0 where
  pub post_is : seat.post ≡ post
  pub right : seat.may_take ≡ true
  pub input : Input
  pub hears : Hears served bundle bound key (new_input post) input sink out
  pub front : HeardFront served.served.end (bytes_of served.log) (bytes_in seat.taken)
  pub all : EndsByInput served.served.end → bytes_of served.log ≡ bytes_in seat.taken
  pub pieces : List Piece
  pub last : Piece
  pub taken : seat.taken ≡ pieces ++ last ∷ []
  pub over : is_over (Some last) ≡ true
  pub failed : served.served.end ≡ ReadFault → last ≡ piece.Failed
  pub sink_later : sink.faults_before ≤ sink.faults
  pub out_later : out.faults_before ≤ out.faults
