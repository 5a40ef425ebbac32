-- The end of a turn, and what a call leaves its caller to know.
use Rattle.std.proofs.Common.{◌≡◌, ℕ, ◌<◌, ◌≤◌, nat_lt, true, false, List, [], ◌∷◌, ◌++◌, length, Option, None, Some}
use Rattle.std.proofs.Common.{Result, Ok, Err, IfOk, Contains, refl, sym, ap, ◌∙◌, subst, arith}
use Rattle.std.proofs.lemmas.Bool.Decides.{nat_tests}
use Rattle.std.proofs.lemmas.List.{length_push}
use mathlib.Core.List.{IsPrefix}
use Rattle.atomic_table.specs.Seated.{TableId}
use Rattle.dp_registry.specs.declared.entry.Entry.{Entry}
use Rattle.dp_registry.specs.Legal.{IsLegal}
use Rattle.dp_registry.specs.declared.entry.Entry.TheVariants.{Admit}
use Rattle.dp_registry.specs.declared.pass.Pass.{Pass}
use Rattle.dp_registry.specs.declared.refusal.Refusal.{Refusal}
use Rattle.dp_registry.specs.Verdicts.{noted, admit_reply_of}
use Rattle.dp_desk.specs.declared.turns.View.{View}
use Rattle.dp_desk.specs.Made.{made_by}
use Rattle.dp_desk.specs.Desks.{held_after, held_by, Entered}
use Rattle.dp_desk.specs.Turns.{Account, Raised, known, view, last_of, CanHold, IsGrown, held_now}
use Rattle.dp_desk.proofs.Keeps.{last_of-push}

-- ---- what a turn found and what it leaves
pub grown : {R : Type 0} (seen at now : List Entry) (held : List ℕ) (entry : R → Entry) (reply : Option R) →
    now ≡ noted at entry reply → at ≡ seen → ((r : R) → reply ≡ Some r → CanHold (entry r) held) →
    IsGrown seen held now
grown seen at now held entry None is same can = (None, is ∙ same, tt)
grown seen at now held entry (Some r) is same can =
    (Some (entry r), is ∙ ap (λ (js : List Entry). js ++ entry r ∷ []) same, can r refl)

-- ---- the sessions that are held then
pub now_longer : (seen now : List Entry) (held : List ℕ) → length seen < length now →
    held_after (last_of now) held ≡ held_now seen now held
now_longer seen now held more =
    let yes : nat_lt (length seen) (length now) ≡ true = grind (arith, nat_tests) in rw yes refl

pub now_same : (seen now : List Entry) (held : List ℕ) → length now ≤ length seen → held ≡ held_now seen now held
now_same seen now held less =
    let no : nat_lt (length seen) (length now) ≡ false = grind (arith, nat_tests) in rw no refl

held_noted : {R : Type 0} (at : List Entry) (held : List ℕ) (entry : R → Entry) (reply : Option R) →
    held_now at (noted at entry reply) held ≡ held_by entry reply held
held_noted at held entry None = sym (now_same at at held (omega arith))
held_noted at held entry (Some r) =
    let size = length_push at (entry r) in
    sym (now_longer at (at ++ entry r ∷ []) held (omega arith))
    ∙ ap (λ (e : Entry). held_after e held) (last_of-push at (entry r))

-- v is the view before the call, u the one with the turn, and w the one after it
module _ {R : Type 0} (v u w : View) (at now : List Entry) (entry : R → Entry) (reply : Option R) where
  pub held_entered : u ≡ view at v.met v.held true → now ≡ noted at entry reply →
      w ≡ view now u.met (held_now u.seen now u.held) false → w.held ≡ held_by entry reply v.held
  held_entered turn is after =
      ap (λ (x : View). x.held) after
      ∙ (ap (λ (x : View). held_now x.seen now x.held) turn
      ∙ (ap (λ (js : List Entry). held_now at js v.held) is ∙ held_noted at v.held entry reply))

  pub entered : (z y : TableId) (t s : Account) → y ≡ z → IsPrefix v.seen at → u ≡ view at v.met v.held true →
      now ≡ noted at entry reply → w ≡ view now u.met (held_now u.seen now u.held) false → IsLegal now →
      Raised t (made_by entry reply) s → Entered (known z v t) at entry reply (known y w s)
  entered z y t s one begins turn is after legal raised = record {
    begins = begins;
    seen = ap (λ (x : View). x.seen) after ∙ is;
    legal = subst (λ (js : List Entry). IsLegal js) (sym (ap (λ (x : View). x.seen) after)) legal;
    made = raised.0;
    held = held_entered turn is after;
    desk = one;
    share = raised.1;
  }

-- who is admitted holds the session
pub gives_hold : (held after : List ℕ) (key : List ℕ) (r : Result Pass Refusal) →
    after ≡ held_by (λ reply. Admit key reply) (admit_reply_of r) held → IfOk r (λ pass. Contains after pass.session)
gives_hold held after key (Ok pass) is =
    subst (λ (ns : List ℕ). Contains ns pass.session) (sym is) (0, omega arith, refl)
gives_hold held after key (Err why) is = tt
