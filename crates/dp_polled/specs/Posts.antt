-- What a seat of a post knows, and what each call does to that.
use Rattle.std.specs.Prelude.{◌≡◌, Bool, true, false, List, [], ◌∷◌, ◌++◌}
use Rattle.atomic_table.specs.Seated.{TableId}
use Rattle.dp_polled.specs.declared.piece.Piece.{Piece}

-- Of which post the seat is, the pieces that it put, those that it took, whether it may put and may
-- take, and whether the slot was full, each time that a put or a take of it asked.
pub record Known : Type 0 where
  pub post : TableId
  pub put : List Piece
  pub taken : List Piece
  pub may_put : Bool
  pub may_take : Bool
  pub found : List Bool

-- a seat of this post that may do both, or one of it, and has done nothing
abbrev pub seat_of : TableId → Bool → Bool → Known
seat_of post may_put may_take = record {
  post = post;
  put = [];
  taken = [];
  may_put = may_put;
  may_take = may_take;
  found = [];
}

-- it may do both, and has put and taken nothing
pub record IsWhole (v : Known) : Type 0 where
  pub put : v.put ≡ []
  pub taken : v.taken ≡ []
  pub may_put : v.may_put ≡ true
  pub may_take : v.may_take ≡ true

-- ---- a put asks once

-- the slot was empty, and has the piece now
abbrev pub after_put : Piece → Known → Known
after_put piece v = record v { put = v.put ++ piece ∷ []; found = v.found ++ false ∷ [] }

-- the slot was full
abbrev pub after_full : Known → Known
after_full v = record v { found = v.found ++ true ∷ [] }

-- ---- a take asks once

-- the piece was in the slot
abbrev pub after_take : Piece → Known → Known
after_take piece v = record v { taken = v.taken ++ piece ∷ []; found = v.found ++ true ∷ [] }

-- the slot was empty
abbrev pub after_empty : Known → Known
after_empty v = record v { found = v.found ++ false ∷ [] }

-- ---- a join

-- the seat that may take has the pieces that the other put, and its right
abbrev pub after_join : Known → Known → Known
after_join other v = record v { put = other.put; may_put = true }
