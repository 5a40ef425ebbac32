-- What a reader puts on a post, piece by piece.
use Rattle.std.proofs.Common.{◌≡◌, ℕ, ◌+◌, ◌≤◌, Bool, true, false, List, [], ◌∷◌, ◌++◌, Option, None, Some}
use Rattle.std.proofs.Common.{refl, sym, ap, ◌∙◌, subst, append_assoc, append-nil, arith}
use Rattle.std.proofs.KnownBytes.{Appends-nil, Appends-trans, Consumes-nil, Consumes-trans}
use Rattle.std.specs.Io.KnownBytes.{Appends, Consumes, Keeps}
use Rattle.atomic_table.specs.Seated.{TableId}
use Rattle.dp_outside.specs.Causes.{Rose}
use Rattle.dp_polled.specs.declared.piece.Piece.{Piece}
use Rattle.dp_polled.specs.declared.piece.Piece.TheVariants as piece
use Rattle.dp_polled.specs.Posts.{Known}
use Rattle.dp_polled.specs.Posted.{bytes_in as bytes_in_piece, bytes_of as bytes_in, is_over}
use Rattle.dp_async.specs.Beside.{Flow, Gives}
use Rattle.dp_async.specs.inner.Reading.{AllGoOn, HasPut, IsReader, ReadsOut, ReadsSoFar}

-- ---- what a source gives

consumes_none : (a b : Option (List ℕ)) → Keeps a b → Consumes a b []
consumes_none None b k = tt
consumes_none (Some xs) None k = absurd k
consumes_none (Some xs) (Some ys) k = sym k

appends_none : (a b : Option (List ℕ)) → Keeps a b → Appends a b []
appends_none None b k = tt
appends_none (Some xs) None k = absurd k
appends_none (Some xs) (Some ys) k = k ∙ sym (append-nil xs)

pub gives_none : (a b : Flow) → Keeps a.left b.left → Keeps a.given b.given → Gives a b []
gives_none a b left given = record {
  left = consumes_none a.left b.left left;
  given = appends_none a.given b.given given;
}

pub gives_itself : (a : Flow) → Gives a a []
gives_itself a = record { left = Consumes-nil a.left; given = Appends-nil a.given }

pub gives_then : (a b c : Flow) (xs ys : List ℕ) → Gives a b xs → Gives b c ys → Gives a c (xs ++ ys)
gives_then a b c xs ys g h = record {
  left = Consumes-trans a.left b.left c.left xs ys g.left h.left;
  given = Appends-trans a.given b.given c.given xs ys g.given h.given;
}

-- ---- what is put

pub bytes_more : (ps : List Piece) (p : Piece) → bytes_in (ps ++ p ∷ []) ≡ bytes_in ps ++ bytes_in_piece p
bytes_more [] p = append-nil (bytes_in_piece p)
bytes_more (q ∷ ps) p =
    ap (λ (l : List ℕ). bytes_in_piece q ++ l) (bytes_more ps p)
    ∙ sym (append_assoc (bytes_in_piece q) (bytes_in ps) (bytes_in_piece p))

go_on_more : (ps : List Piece) (p : Piece) → AllGoOn ps → is_over (Some p) ≡ false → AllGoOn (ps ++ p ∷ [])
go_on_more [] p all e = (e, tt)
go_on_more (q ∷ ps) p all e = (all.0, go_on_more ps p all.1 e)

pub reads_first : (f : Flow) (post : TableId) (seat : Known) → IsReader post seat → ReadsSoFar f f post seat
reads_first f post seat r = record {
  post_is = r.post_is;
  right = r.right;
  go_on = subst AllGoOn (sym r.none) tt;
  gives = subst (λ (l : List Piece). Gives f f (bytes_in l)) (sym r.none) (gives_itself f);
  later = omega arith;
}

module _ (before mid now : Flow) (post : TableId) (s t : Known) (r : ReadsSoFar before mid post s)
    (later : mid.faults ≤ now.faults) where
  pub reads_more : (bytes : List ℕ) → HasPut (piece.Bytes bytes) s t → Gives mid now bytes
      → ReadsSoFar before now post t
  reads_more bytes h gives = record {
    post_is = h.post ∙ r.post_is;
    right = h.right ∙ r.right;
    go_on = subst AllGoOn (sym h.put) (go_on_more s.put (piece.Bytes bytes) r.go_on refl);
    gives = subst (Gives before now) (sym (ap bytes_in h.put ∙ bytes_more s.put (piece.Bytes bytes)))
        (gives_then before mid now (bytes_in s.put) bytes r.gives gives);
    later = omega (arith, r.later, later);
  }

  -- the last piece was put: the end or the failure of the source, or a failure where memory ran out
  pub reads_out : (last : Piece) (starved : Bool) (more : List ℕ) → HasPut last s t → is_over (Some last) ≡ true
      → Gives mid now more → (starved ≡ false → more ≡ [])
      → (starved ≡ false → last ≡ piece.Failed → Rose mid.faults now.faults) → ReadsOut before now post t starved
  reads_out last starved more h over gives none failed = record {
    post_is = h.post ∙ r.post_is;
    right = h.right ∙ r.right;
    pieces = s.put;
    last = last;
    put = h.put;
    go_on = r.go_on;
    over = over;
    bytes = bytes_in s.put ++ more;
    gives = gives_then before mid now (bytes_in s.put) more r.gives gives;
    front = (more, refl);
    all = λ fed. sym (ap (λ (l : List ℕ). bytes_in s.put ++ l) (none fed) ∙ append-nil (bytes_in s.put));
    failed = λ fed is. let rose = failed fed is in omega (arith, r.later, rose);
    later = omega (arith, r.later, later);
  }
