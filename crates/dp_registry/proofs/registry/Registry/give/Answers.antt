use Rattle.std.proofs.Common.{◌≡◌, ◌+◌, ◌++◌, ◌∷◌, [], ℕ, List, Contains, length, if◌then◌else◌, rules, sym, ap, subst}
use Rattle.std.proofs.Common.{◌∙◌}
use Rattle.std.proofs.Common.{arith}
use Rattle.std.specs.Str.{bytes_eq}
use Rattle.dp_registry.specs.declared.entry.Entry.{Entry}
use Rattle.dp_registry.specs.declared.entry.Entry.TheVariants.{Admit}
use Rattle.dp_registry.specs.declared.entry.AdmitReply.TheVariants.{Given}
use Rattle.dp_registry.specs.Journal.{IsNew, live, next_session}
use Rattle.dp_registry.specs.Legal.{IsFit}
use Rattle.dp_registry.specs.Verdicts.{is_crowded}
use Rattle.dp_registry.specs.inner.Kept.{IsKept}
use Rattle.dp_registry.specs.inner.Tables.{sessions_of}
use Rattle.dp_registry.proofs.JournalLaws.{kept_given, given_lives, next_is_new}
use Rattle.dp_registry.proofs.registry.Registry.give.Goals as goal

pub invariant_of-self-2 : goal.invariant_of-self-2
invariant_of-self-2 c =
    let old = c.self.inside in
    let j = old.journal.items in
    let k = c.args.key in
    let s = c.next_session-session.result in
    let e : Entry = Admit k (Given s c.args.host c.args.port) in
    let items = c.push_reserved-2.ensures.items ∙ ap (λ (es : List Entry). es ++ e ∷ []) c.reserve.ensures.items in
    let next : s ≡ next_session j = c.next_session-session.ensures ∙ ap next_session (sym c.self.view_is) in
    let fit : IsFit j e =
    subst (λ (n : ℕ). IsFit j (Admit k (Given n c.args.host c.args.port))) (sym next)
    (subst (λ (js : List Entry). IsFit js (Admit k (Given (next_session js) c.args.host c.args.port)))
    (sym c.self.view_is) c.requires.fit) in
    let free = ap is_crowded c.self.view_is ∙ c.requires.room in
    let at : c.len-at.result ≡ length j = search rules in
    let places : c.push_reserved.new.self.items ≡ old.admissions.items ++ length j ∷ [] =
    c.push_reserved.ensures.items
    ∙ ap (λ (ns : List ℕ). ns ++ c.len-at.result ∷ []) c.reserve-2.ensures.items
    ∙ ap (λ (n : ℕ). old.admissions.items ++ n ∷ []) at in
    let more : (other : List ℕ) → sessions_of c.add.new.self other ≡
    (if bytes_eq k other then sessions_of old.under other ++ s ∷ [] else sessions_of old.under other) = λ other.
    c.in_ok-add.ensures.ok other
    ∙ ap (λ (x : List ℕ). if bytes_eq x other then sessions_of old.under other ++ s ∷ [] else sessions_of old.under
    other) c.in_ok-again.ensures in
    let kept = kept_given j old.held old.under old.admissions.items old.living c.self.invariant.0 k s c.args.host
    c.args.port next free c.add.new.self fit more in (
      subst (λ (js : List Entry). IsKept js old.held c.add.new.self c.push_reserved.new.self.items (old.living + 1))
          (sym items)
          (subst (λ (ns : List ℕ). IsKept (j ++ e ∷ []) old.held c.add.new.self ns (old.living + 1)) (sym places) kept),
      omega (arith, c.push_reserved-2.ensures.len, c.push_reserved-2.ensures.capacity, c.in_ok-reserve.ensures.ok),
    )

pub returns-clause-lives : goal.returns-clause-lives
returns-clause-lives c =
    let old = c.self.inside in
    let j = old.journal.items in
    let k = c.args.key in
    let s = c.next_session-session.result in
    let e : Entry = Admit k (Given s c.args.host c.args.port) in
    let items = c.push_reserved-2.ensures.items ∙ ap (λ (es : List Entry). es ++ e ∷ []) c.reserve.ensures.items in
    let next : s ≡ next_session j = c.next_session-session.ensures ∙ ap next_session (sym c.self.view_is) in
    let free = ap is_crowded c.self.view_is ∙ c.requires.room in
    let lives = given_lives j old.held old.under old.admissions.items old.living c.self.invariant.0 k s c.args.host
    c.args.port next free in
    subst (λ (js : List Entry). Contains (live js) (next_session c.args.self.now)) (sym items)
    (subst (λ (n : ℕ). Contains (live (j ++ e ∷ [])) n) c.next_session-session.ensures lives)

pub returns-clause-unused : goal.returns-clause-unused
returns-clause-unused c =
    let old = c.self.inside in
    subst (λ (js : List Entry). IsNew js (next_session js)) c.self.view_is
    (next_is_new old.journal.items old.held old.under old.admissions.items old.living c.self.invariant.0)
