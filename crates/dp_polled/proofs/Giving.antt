-- What a post has given, as pieces are taken and given.
use Rattle.std.proofs.Common.{◌≡◌, ℕ, ◌+◌, ◌-◌, ◌≤◌, min, Bool, true, false, true≢false, List, [], ◌∷◌, ◌++◌, length, take, drop}
use Rattle.std.proofs.Common.{Option, None, Some, Result, Ok, Err, refl, sym, ap, ◌∙◌, subst, arith}
use Rattle.std.proofs.Common.{append_assoc, append-nil, take-append-drop, length-append}
use Rattle.std.proofs.lemmas.Bool.Decides.{nat_tests}
use Rattle.std.proofs.lemmas.List.{drop-drop, drop_all, length-take, take_at}
use mathlib.Core.List.{IsPrefix}
use Rattle.dp_polled.proofs.Coming.{take_rest}
use Rattle.dp_polled.specs.declared.piece.Piece.{Piece}
use Rattle.dp_polled.specs.declared.piece.Piece.TheVariants as piece
use Rattle.dp_polled.specs.declared.polled.Look.{Look}
use Rattle.dp_polled.specs.Posts.{Known, after_empty, after_take}
use Rattle.dp_polled.specs.Posted.{State, Asked, AskedIf, HasOnlyTaken, IsKept, bytes_in, bytes_of, given}
use Rattle.dp_polled.specs.Posted.{is_spent, moved, rest, with_found}

bytes_last : (ps : List Piece) (p : Piece) → bytes_of (ps ++ p ∷ []) ≡ bytes_of ps ++ bytes_in p
bytes_last [] p = append-nil (bytes_in p)
bytes_last (q ∷ ps) p =
    ap (λ (l : List ℕ). bytes_in q ++ l) (bytes_last ps p) ∙ sym (append_assoc (bytes_in q) (bytes_of ps) (bytes_in p))

-- nothing is kept
pub keeps_none : (taken : List Piece) (faults : ℕ) → faults ≡ 0 → IsKept taken None 0 faults
keeps_none taken faults none = record {
  before = bytes_of taken;
  whole = sym (append-nil (bytes_of taken));
  within = omega arith;
  last = tt;
  failed = λ some. absurd (omega (arith, none, some));
}

-- a piece that was taken just now, behind one that was given whole
pub keeps_next : (taken : List Piece) (kept : Option Piece) (at faults : ℕ) (p : Piece) → is_spent kept at ≡ true →
    IsKept taken kept at faults → IsKept (taken ++ p ∷ []) (Some p) 0 faults
keeps_next taken kept at faults p spent k = record {
  before = bytes_of taken;
  whole = bytes_last taken p;
  within = omega arith;
  last = (taken, refl);
  failed = λ some. absurd (true≢false
      (sym spent ∙ ap (λ (o : Option Piece). is_spent o at) (k.failed some)));
}

-- so many bytes of it were given
further : (before bytes : List ℕ) (at n : ℕ) →
    before ++ drop at bytes ≡ (before ++ take n (drop at bytes)) ++ drop (at + n) bytes
further before bytes at n =
    sym (ap (λ (l : List ℕ). before ++ l) (take-append-drop n (drop at bytes)))
    ∙ sym (append_assoc before (take n (drop at bytes)) (drop n (drop at bytes)))
    ∙ ap (λ (l : List ℕ). (before ++ take n (drop at bytes)) ++ l) (drop-drop n at bytes)

keeps_further : (taken : List Piece) (bytes : List ℕ) (at n faults : ℕ) → at + n ≤ length bytes →
    IsKept taken (Some (piece.Bytes bytes)) at faults → IsKept taken (Some (piece.Bytes bytes)) (at + n) faults
keeps_further taken bytes at n faults most k = record {
  before = k.before ++ take n (drop at bytes);
  whole = k.whole ∙ further k.before bytes at n;
  within = most;
  last = k.last;
  failed = k.failed;
}

pub keeps_more : (taken : List Piece) (kept : Option Piece) (bytes : List ℕ) (at n faults : ℕ) →
    kept ≡ Some (piece.Bytes bytes) → at + n ≤ length bytes → IsKept taken kept at faults →
    IsKept taken kept (at + n) faults
keeps_more taken kept bytes at n faults is most k =
    subst (λ (o : Option Piece). IsKept taken o (at + n) faults) (sym is)
    (keeps_further taken bytes at n faults most (subst (λ (o : Option Piece). IsKept taken o at faults) is k))

-- no more were given than it has
pub kept_within : (taken : List Piece) (kept : Option Piece) (bytes : List ℕ) (at faults : ℕ) →
    kept ≡ Some (piece.Bytes bytes) → IsKept taken kept at faults → at ≤ length bytes
kept_within taken kept bytes at faults is k =
    (subst (λ (o : Option Piece). IsKept taken o at faults) is k).within

-- what was given is what stands before the rest
before_is : (all before after : List ℕ) → all ≡ before ++ after → take (length all - length after) all ≡ before
before_is all before after e =
    ap (λ (l : List ℕ). take (length l - length after) l) e
    ∙ take_at before after (length (before ++ after) - length after)
    (let sum = length-append before after in omega arith)

-- nothing is left of a piece that is spent
spent_rest : (kept : Option Piece) (at : ℕ) → is_spent kept at ≡ true → rest kept at ≡ []
spent_rest None at e = drop_all at [] (omega arith)
spent_rest (Some (piece.Bytes bytes)) at e = drop_all at bytes (grind (arith, nat_tests))
spent_rest (Some piece.End) at e = drop_all at [] (omega arith)
spent_rest (Some piece.Failed) at e = drop_all at [] (omega arith)

spent_all : (v : State) → is_spent v.kept v.at ≡ true → given v ≡ bytes_of v.seat.taken
spent_all v e =
    before_is (bytes_of v.seat.taken) (bytes_of v.seat.taken) (rest v.kept v.at)
    (sym (append-nil (bytes_of v.seat.taken)) ∙ ap (λ (l : List ℕ). bytes_of v.seat.taken ++ l)
    (sym (spent_rest v.kept v.at e)))

-- asking for a piece gives nothing
pub found_given : (v : State) (found : Option Piece) → is_spent v.kept v.at ≡ true →
    given (with_found found v) ≡ given v
found_given v None e = refl
found_given v (Some p) e =
    before_is (bytes_of (v.seat.taken ++ p ∷ [])) (bytes_of v.seat.taken) (bytes_in p) (bytes_last v.seat.taken p)
    ∙ sym (spent_all v e)

pub took_given : (seat : Known) (v : State) (p : Piece) → seat ≡ after_take p v.seat → is_spent v.kept v.at ≡ true →
    given (record v { seat = seat; kept = Some p; at = 0 }) ≡ given v
took_given seat v p e spent =
    ap (λ (s : Known). given (record v { seat = s; kept = Some p; at = 0 })) e ∙ found_given v (Some p) spent

asked_by : (v w : State) (b : Bool) → is_spent v.kept v.at ≡ b → AskedIf b v w → given w ≡ given v
asked_by v w true e a = ap given a.1 ∙ found_given v a.0 e
asked_by v w false e a = ap given a

pub asked_given : (v w : State) → Asked v w → given w ≡ given v
asked_given v w a = asked_by v w (is_spent v.kept v.at) refl a

-- the seat has only asked and taken
pub goes_itself : (v : Known) → HasOnlyTaken v v
goes_itself v = record {
  post = refl;
  put = refl;
  may_put = refl;
  may_take = refl;
  taken = ([], append-nil v.taken);
  found = ([], append-nil v.found);
}

pub goes_empty : (v : Known) → HasOnlyTaken v (after_empty v)
goes_empty v = record {
  post = refl;
  put = refl;
  may_put = refl;
  may_take = refl;
  taken = ([], append-nil v.taken);
  found = (false ∷ [], refl);
}

pub goes_take : (v : Known) (p : Piece) → HasOnlyTaken v (after_take p v)
goes_take v p = record {
  post = refl;
  put = refl;
  may_put = refl;
  may_take = refl;
  taken = (p ∷ [], refl);
  found = (true ∷ [], refl);
}

found_goes : (v : State) (found : Option Piece) → HasOnlyTaken v.seat (with_found found v).seat
found_goes v None = goes_empty v.seat
found_goes v (Some p) = goes_take v.seat p

goes_by : (v w : State) (b : Bool) → AskedIf b v w → HasOnlyTaken v.seat w.seat
goes_by v w true a = subst (λ (u : State). HasOnlyTaken v.seat u.seat) (sym a.1) (found_goes v a.0)
goes_by v w false a = subst (λ (u : State). HasOnlyTaken v.seat u.seat) (sym a) (goes_itself v.seat)

pub asked_goes : (v w : State) → Asked v w → HasOnlyTaken v.seat w.seat
asked_goes v w a = goes_by v w (is_spent v.kept v.at) a

prefix_trans : {A : Type 0} (xs ys zs : List A) → IsPrefix xs ys → IsPrefix ys zs → IsPrefix xs zs
prefix_trans xs ys zs p q = (p.0 ++ q.0, sym (append_assoc xs p.0 q.0) ∙ (ap (λ w. w ++ q.0) p.1 ∙ q.1))

pub goes_on_and_on : (u v w : Known) → HasOnlyTaken u v → HasOnlyTaken v w → HasOnlyTaken u w
goes_on_and_on u v w p q = record {
  post = q.post ∙ p.post;
  put = q.put ∙ p.put;
  may_put = q.may_put ∙ p.may_put;
  may_take = q.may_take ∙ p.may_take;
  taken = prefix_trans u.taken v.taken w.taken p.taken q.taken;
  found = prefix_trans u.found v.found w.found p.found q.found;
}

-- bytes of the piece that is kept are given
pub moved_given : (v : State) (bytes : List ℕ) (n : ℕ) → v.kept ≡ Some (piece.Bytes bytes) →
    IsKept v.seat.taken v.kept v.at v.faults →
    given (record v { at = v.at + n }) ≡ given v ++ take n (drop v.at bytes)
moved_given v bytes n is k =
    let old : IsKept v.seat.taken (Some (piece.Bytes bytes)) v.at v.faults =
    subst (λ (o : Option Piece). IsKept v.seat.taken o v.at v.faults) is k in
    let whole = old.whole ∙ further old.before bytes v.at n in
    let first : given v ≡ old.before =
    ap (λ (o : Option Piece). take (length (bytes_of v.seat.taken) - length (rest o v.at)) (bytes_of v.seat.taken)) is
    ∙ before_is (bytes_of v.seat.taken) old.before (drop v.at bytes) old.whole in
    ap (λ (o : Option Piece). take (length (bytes_of v.seat.taken) - length (rest o (v.at + n)))
    (bytes_of v.seat.taken)) is
    ∙ before_is (bytes_of v.seat.taken) (old.before ++ take n (drop v.at bytes)) (drop (v.at + n) bytes) whole
    ∙ ap (λ (l : List ℕ). l ++ take n (drop v.at bytes)) (sym first)

-- what was copied into the buffer are the next bytes of the piece
pub copied_is : (copied bytes slice buf : List ℕ) (at n : ℕ) → slice ≡ bytes → length copied ≡ length (take n buf) →
    n ≡ min (length buf) (length (take (length slice - at) (drop at slice))) →
    copied ≡ take n (take (length slice - at) (drop at slice)) →
    take n (drop at bytes) ≡ take n (copied ++ drop n buf)
copied_is copied bytes slice buf at n is size least e =
    let taken = length-take n buf in
    sym (take_at copied (drop n buf) n (omega (arith, size, least, taken)) ∙ e
    ∙ ap (λ (l : List ℕ). take n l) (take_rest slice at) ∙ ap (λ (l : List ℕ). take n (drop at l)) is)

-- ---- whether the input is over

moved_kept : {E : Type 0} (result : Result Look E) (v : State) → (moved result v).kept ≡ v.kept
moved_kept (Ok look) v = refl
moved_kept (Err failed) v = refl
