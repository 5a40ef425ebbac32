-- A wait at a post, try by try.
use Rattle.std.proofs.Common.{◌≡◌, ℕ, ◌+◌, ◌≤◌, ◌<◌, suc, Bool, true, false, true≢false, ◌&&◌, nat_lt, min}
use Rattle.std.proofs.Common.{List, [], ◌∷◌, ◌++◌, length, drop, replicate, Option, None, Some, Result, Ok, Err, IsErr, is_err}
use Rattle.std.proofs.Common.{refl, sym, ap, ◌∙◌, subst, arith, append_assoc, add-zero}
use Rattle.std.specs.Prelude.{nat_le}
use Rattle.std.proofs.lemmas.Bool.Decides.{nat_tests}
use Rattle.std.proofs.lemmas.List.{length-drop, replicate_more}
use Rattle.dp_polled.specs.declared.piece.Piece.{Piece}
use Rattle.dp_polled.specs.declared.piece.Piece.TheVariants as piece
use Rattle.dp_polled.specs.declared.polled.Look.{Look}
use Rattle.dp_polled.specs.declared.polled.Look.TheVariants.{NotYet, Bytes, End}
use Rattle.dp_polled.specs.Polls.{count_of}
use Rattle.dp_polled.specs.Posted.{State, Answers, AskedIf, CameIf, CameTo, HasOnlyTaken, Tried, WaitAnswers, Waited}
use Rattle.dp_polled.specs.Posted.{given, is_over, is_spent, moved, some_of, wait_moved, waits, with_found}
use Rattle.dp_polled.proofs.Giving.{asked_given, asked_goes, goes_on_and_on}

-- ---- a wait answers as the look does that found something
abbrev pub wait_of : {E : Type 0} → Result Look E → Result ℕ E
wait_of (Ok look) = Ok (count_of look)
wait_of (Err failed) = Err failed

some_count : (room : ℕ) (bytes : List ℕ) → count_of (some_of room bytes) ≡ min room (length bytes)
some_count room [] = omega arith
some_count room (b ∷ bytes) = refl

pub wait_answers : {E : Type 0} (room : ℕ) (kept : Option Piece) (at : ℕ) (result : Result Look E) →
    Answers room kept at result → WaitAnswers room kept at (wait_of result)
wait_answers room None at result e = ap wait_of e
wait_answers room (Some (piece.Bytes bytes)) at result e =
    ap wait_of e ∙ ap (λ (n : ℕ). Ok n) (some_count room (drop at bytes))
wait_answers room (Some piece.End) at result e = ap wait_of e
wait_answers room (Some piece.Failed) at (Ok look) e = absurd (true≢false (sym e))
wait_answers room (Some piece.Failed) at (Err failed) e = e

pub wait_moves : {E : Type 0} (result : Result Look E) (p : State) → moved result p ≡ wait_moved (wait_of result) p
wait_moves (Ok look) p = refl
wait_moves (Err failed) p = refl

-- ---- without room nothing is asked for
waits_not : (p : State) (room : ℕ) → room ≡ 0 → waits room p ≡ false
waits_not p room none =
    let test : nat_lt 0 room ≡ false = grind (arith, nat_tests) in
    ap (λ (b : Bool). b && is_spent p.kept p.at) test

pub waited_without_room : {E : Type 0} (room : ℕ) (p : State) (result : Result Look E) (q : State) → room ≡ 0 →
    Answers room p.kept p.at result → q ≡ moved result p → Waited room p (wait_of result) q
waited_without_room room p result q none e moves = record {
  middle = p;
  comes = subst (λ (b : Bool). CameIf b p p) (sym (waits_not p room none)) refl;
  answer = wait_answers room p.kept p.at result e;
  moves = moves ∙ wait_moves result p;
}

-- ---- whether a look found something
abbrev pub says : {E : Type 0} → Result Look E → Bool
says (Ok NotYet) = false
says (Ok (Bytes n)) = true
says (Ok End) = true
says (Err failed) = true

left_some : (E : Type 0) (room : ℕ) (bytes rest : List ℕ) (at : ℕ) → drop at bytes ≡ rest →
    says {E = E} (Ok (some_of room rest)) ≡ true → nat_le (length bytes) at ≡ false
left_some E room bytes [] at is e = absurd (true≢false (sym e))
left_some E room bytes (x ∷ xs) at is e =
    let size : length bytes ≡ at + length (x ∷ xs) =
    (let less = length-drop at bytes in let same = ap length is in omega arith) in grind (arith, nat_tests)

left_none : (E : Type 0) (room : ℕ) (bytes rest : List ℕ) (at : ℕ) → drop at bytes ≡ rest →
    says {E = E} (Ok (some_of room rest)) ≡ false → nat_le (length bytes) at ≡ true
left_none E room bytes [] at is e =
    let size : length bytes ≤ at = (let less = length-drop at bytes in let same = ap length is in omega arith) in
    grind (arith, nat_tests)
left_none E room bytes (x ∷ xs) at is e = absurd (true≢false e)

says_unspent : {E : Type 0} (room : ℕ) (kept : Option Piece) (at : ℕ) (result : Result Look E) →
    Answers room kept at result → says result ≡ true → is_spent kept at ≡ false
says_unspent room None at result e said = absurd (true≢false (sym said ∙ ap says e))
says_unspent {E} room (Some (piece.Bytes bytes)) at result e said =
    left_some E room bytes (drop at bytes) at refl (sym (ap says e) ∙ said)
says_unspent room (Some piece.End) at result e said = refl
says_unspent room (Some piece.Failed) at result e said = refl

quiet_spent : {E : Type 0} (room : ℕ) (kept : Option Piece) (at : ℕ) (result : Result Look E) →
    Answers room kept at result → says result ≡ false → is_spent kept at ≡ true
quiet_spent room None at result e quiet = refl
quiet_spent {E} room (Some (piece.Bytes bytes)) at result e quiet =
    left_none E room bytes (drop at bytes) at refl (sym (ap says e) ∙ quiet)
quiet_spent room (Some piece.End) at result e quiet = absurd (true≢false (sym (ap says e) ∙ quiet))
quiet_spent room (Some piece.Failed) at (Ok look) e quiet = absurd (true≢false (sym e))
quiet_spent room (Some piece.Failed) at (Err failed) e quiet = absurd (true≢false quiet)

spent_not_over : (kept : Option Piece) (at : ℕ) → is_spent kept at ≡ true → is_over kept ≡ false
spent_not_over None at e = refl
spent_not_over (Some (piece.Bytes bytes)) at e = refl
spent_not_over (Some piece.End) at e = absurd (true≢false (sym e))
spent_not_over (Some piece.Failed) at e = absurd (true≢false (sym e))

-- ---- only pieces without bytes were taken
pub record IsQuiet (p s : State) : Type 0 where
  pub empty : ℕ
  pub taken : s.seat.taken ≡ p.seat.taken ++ replicate empty (piece.Bytes [])
  pub spent : is_spent s.kept s.at ≡ is_spent p.kept p.at
  pub same : is_spent p.kept p.at ≡ false → s ≡ p
  pub looks : s.looks ≡ p.looks
  pub faults : s.faults ≡ p.faults
  pub gives : given s ≡ given p
  pub over : is_over s.kept ≡ is_over p.kept
  pub goes : HasOnlyTaken p.seat s.seat

-- a try that found nothing
no_bytes : (next : Piece) → is_spent (Some next) 0 ≡ true → next ≡ piece.Bytes []
no_bytes (piece.Bytes []) e = refl
no_bytes (piece.Bytes (x ∷ xs)) e =
    let bad : suc (length xs) ≤ 0 = grind (arith, nat_tests) in absurd (omega arith)
no_bytes piece.End e = absurd (true≢false (sym e))
no_bytes piece.Failed e = absurd (true≢false (sym e))

more_empty : (p s : State) (q : IsQuiet p s) (found : Option Piece) →
    is_spent (with_found found s).kept (with_found found s).at ≡ true →
    (n : ℕ) × ((with_found found s).seat.taken ≡ p.seat.taken ++ replicate n (piece.Bytes []))
more_empty p s q None e = (q.empty, q.taken)
more_empty p s q (Some next) e = (
  q.empty + 1,
  ap (λ (l : List Piece). l ++ next ∷ []) q.taken
      ∙ append_assoc p.seat.taken (replicate q.empty (piece.Bytes [])) (next ∷ [])
      ∙ ap (λ (l : List Piece). p.seat.taken ++ (replicate q.empty (piece.Bytes []) ++ l))
      (ap (λ (x : Piece). x ∷ []) (no_bytes next e))
      ∙ ap (λ (l : List Piece). p.seat.taken ++ l) (replicate_more q.empty (piece.Bytes [])),
)

found_looks : (found : Option Piece) (s : State) → (with_found found s).looks ≡ s.looks
found_looks None s = refl
found_looks (Some next) s = refl

found_faults : (found : Option Piece) (s : State) → (with_found found s).faults ≡ s.faults
found_faults None s = refl
found_faults (Some next) s = refl

quiet_by : (p s asked : State) (b : Bool) → IsQuiet p s → is_spent s.kept s.at ≡ b → AskedIf b s asked →
    is_spent asked.kept asked.at ≡ true → given asked ≡ given s → HasOnlyTaken s.seat asked.seat → IsQuiet p asked
quiet_by p s asked false q is a e gives goes =
    absurd (true≢false (sym e ∙ ap (λ (u : State). is_spent u.kept u.at) a ∙ is))
quiet_by p s asked true q is a e gives goes =
    let whole : is_spent p.kept p.at ≡ true = sym q.spent ∙ is in
    let more = more_empty p s q a.0 (sym (ap (λ (u : State). is_spent u.kept u.at) a.1) ∙ e) in
    record {
      empty = more.0;
      taken = ap (λ (u : State). u.seat.taken) a.1 ∙ more.1;
      spent = e ∙ sym whole;
      same = λ left. absurd (true≢false (sym whole ∙ left));
      looks = ap (λ (u : State). u.looks) a.1 ∙ found_looks a.0 s ∙ q.looks;
      faults = ap (λ (u : State). u.faults) a.1 ∙ found_faults a.0 s ∙ q.faults;
      gives = gives ∙ q.gives;
      over = spent_not_over asked.kept asked.at e ∙ sym (spent_not_over p.kept p.at whole);
      goes = goes_on_and_on p.seat s.seat asked.seat q.goes goes;
    }

stays_there : (asked : State) → (record asked { at = asked.at + 0 }) ≡ asked
stays_there asked = ap (λ (n : ℕ). record asked { at = n }) (add-zero asked.at)

pub quiet_on : {E : Type 0} (room : ℕ) (p s t : State) → IsQuiet p s → Tried {E = E} room s (Ok NotYet) t → IsQuiet p t
quiet_on room p s t q tried =
    subst (IsQuiet p) (sym (tried.moves ∙ stays_there tried.middle))
    (quiet_by p s tried.middle (is_spent s.kept s.at) q refl tried.asks
    (quiet_spent room tried.middle.kept tried.middle.at (Ok NotYet) tried.answer refl)
    (asked_given s tried.middle tried.asks) (asked_goes s tried.middle tried.asks))

-- ---- a try that found something
came_with : (p s asked : State) (found : Option Piece) → IsQuiet p s → is_spent s.kept s.at ≡ true →
    asked ≡ with_found found s → is_spent asked.kept asked.at ≡ false → CameTo p asked
came_with p s asked None q is a e =
    absurd (true≢false (sym is ∙ sym (ap (λ (u : State). is_spent u.kept u.at) a) ∙ e))
came_with p s asked (Some next) q is a e = record {
  empty = q.empty;
  next = next;
  to_give = sym (ap (λ (u : State). is_spent u.kept u.at) a) ∙ e;
  taken = ap (λ (u : State). u.seat.taken) a ∙ ap (λ (l : List Piece). l ++ next ∷ []) q.taken
      ∙ append_assoc p.seat.taken (replicate q.empty (piece.Bytes [])) (next ∷ []);
  kept = ap (λ (u : State). u.kept) a;
  at = ap (λ (u : State). u.at) a;
  looks = ap (λ (u : State). u.looks) a ∙ q.looks;
  faults = ap (λ (u : State). u.faults) a ∙ q.faults;
}

and_false : (b : Bool) → (b && false) ≡ false
and_false true = refl
and_false false = refl

comes_by : (room : ℕ) (p s asked : State) (b : Bool) → 0 < room → IsQuiet p s → is_spent s.kept s.at ≡ b →
    AskedIf b s asked → is_spent asked.kept asked.at ≡ false → CameIf (waits room p) p asked
comes_by room p s asked true some q is a e =
    let test : nat_lt 0 room ≡ true = grind (arith, nat_tests) in
    let waiting : waits room p ≡ true =
    ap (λ (b : Bool). b && is_spent p.kept p.at) test ∙ (sym q.spent ∙ is) in
    subst (λ (b : Bool). CameIf b p asked) (sym waiting) (came_with p s asked a.0 q is a.1 e)
comes_by room p s asked false some q is a e =
    let left : is_spent p.kept p.at ≡ false = sym q.spent ∙ is in
    let waiting : waits room p ≡ false =
    ap (λ (b : Bool). nat_lt 0 room && b) left ∙ and_false (nat_lt 0 room) in
    subst (λ (b : Bool). CameIf b p asked) (sym waiting) (a ∙ q.same left)

pub waited_on : {E : Type 0} (room : ℕ) (p s : State) (result : Result Look E) (t : State) → 0 < room → IsQuiet p s →
    Tried room s result t → says result ≡ true → Waited room p (wait_of result) t
waited_on room p s result t some q tried said = record {
  middle = tried.middle;
  comes = comes_by room p s tried.middle (is_spent s.kept s.at) some q refl tried.asks
      (says_unspent room tried.middle.kept tried.middle.at result tried.answer said);
  answer = wait_answers room tried.middle.kept tried.middle.at result tried.answer;
  moves = tried.moves ∙ wait_moves result tried.middle;
}

-- ---- whatever the failure is
err_answers : {E : Type 0} (room : ℕ) (kept : Option Piece) (at : ℕ) (e f : E) →
    WaitAnswers room kept at (Err e) → WaitAnswers room kept at (Err f)
err_answers room None at e f a = absurd (true≢false (ap is_err a))
err_answers room (Some (piece.Bytes bytes)) at e f a = absurd (true≢false (ap is_err a))
err_answers room (Some piece.End) at e f a = absurd (true≢false (ap is_err a))
err_answers room (Some piece.Failed) at e f a = a

pub waited_err : {E : Type 0} (room : ℕ) (p : State) (e : E) (result : Result ℕ E) (q : State) → IsErr result →
    Waited room p (Err e) q → Waited room p result q
waited_err room p e (Ok n) q is w = absurd (true≢false (sym is))
waited_err room p e (Err f) q is w = record {
  middle = w.middle;
  comes = w.comes;
  answer = err_answers room w.middle.kept w.middle.at e f w.answer;
  moves = w.moves;
}
