-- Who holds a key in a legal journal is reached at a host.
use Rattle.std.proofs.Common.{◌≡◌, ℕ, Bool, true, false, if◌then◌else◌, List, [], ◌∷◌, ◌++◌, filter, Option, Some, None}
use Rattle.std.proofs.Common.{Result, Ok, Err, IfOk, refl, sym, subst, ⊎_elim}
use Rattle.std.specs.Bool.{⊤}
use Rattle.std.specs.List.{last_or}
use Rattle.dp_registry.specs.declared.entry.Entry.{Entry}
use Rattle.dp_registry.specs.declared.entry.Entry.TheVariants.{Register, Stop, Admit, Dismiss}
use Rattle.dp_registry.specs.declared.pass.Pass.{Pass}
use Rattle.dp_registry.specs.declared.refusal.Refusal.{Refusal}
use Rattle.dp_registry.specs.declared.refusal.Refusal.TheVariants.{Memory}
use Rattle.dp_registry.specs.Journal.{Holder, decides, registrant, holder, live_under, next_session, least}
use Rattle.dp_registry.specs.Legal.{IsFit, AreFit, IsLegal}
use Rattle.dp_outside.specs.Names.{IsHost}
use Rattle.dp_registry.specs.Verdicts.{is_crowded, full, unless_busy, admitting, admit_verdict, IsAnswer}

abbrev pub IsReached : Option Holder → Type 0
IsReached None = ⊤
IsReached (Some holder) = IsHost holder.host

entry_reached : (before : List Entry) (e : Entry) → IsFit before e → IsReached (registrant (Some e))
entry_reached before (Register host port key multiple reply) fit = fit.0
entry_reached before (Stop host key reply) fit = tt
entry_reached before (Admit key reply) fit = tt
entry_reached before (Dismiss session) fit = tt

last-more : (key : List ℕ) (o : Option Entry) (e : Entry) (es : List Entry) (b : Bool) → decides key e ≡ b →
    IsReached (registrant (last_or (Some e) (filter (decides key) es))) →
    IsReached (registrant (last_or o (filter (decides key) es))) →
    IsReached (registrant (last_or o (filter (decides key) (e ∷ es))))
last-more key o e es true is here before = rw is here
last-more key o e es false is here before = rw is before

last_reached : (key : List ℕ) (o : Option Entry) (before rest : List Entry) → AreFit before rest →
    IsReached (registrant o) → IsReached (registrant (last_or o (filter (decides key) rest)))
last_reached key o before [] fit h = h
last_reached key o before (e ∷ es) fit h =
    last-more key o e es (decides key e) refl
    (last_reached key (Some e) (before ++ e ∷ []) es fit.1 (entry_reached before e fit.0))
    (last_reached key o (before ++ e ∷ []) es fit.1 h)

pub holder_reached : (j : List Entry) → IsLegal j → (key : List ℕ) → IsReached (holder j key)
holder_reached j legal key = last_reached key None [] j legal.fit tt

unless_reached : (b : Option ℕ) (pass p : Pass) → Ok p ≡ unless_busy b pass → IsHost pass.host → IsHost p.host
unless_reached None pass p e h =
    let same : p ≡ pass = cc in subst (λ (q : Pass). IsHost q.host) (sym same) h
unless_reached (Some s) pass p e h = absurd (cc)

admitting_reached : (o : Option Holder) (sessions : List ℕ) (n : ℕ) (p : Pass) → Ok p ≡ admitting o sessions n →
    IsReached o → IsHost p.host
admitting_reached None sessions n p e h = absurd (cc)
admitting_reached (Some holder) sessions n p e h =
    unless_reached (if holder.multiple then None else least sessions)
    (record { session = n; host = holder.host; port = holder.port }) p e h

verdict_reached : (j : List Entry) (key : List ℕ) (p : Pass) (b : Bool) → is_crowded j ≡ b →
    Ok p ≡ admit_verdict j key → IsReached (holder j key) → IsHost p.host
verdict_reached j key p true crowded e h = let no : Ok p ≡ Err (full j) = rw crowded at e in absurd (cc)
verdict_reached j key p false crowded e h =
    admitting_reached (holder j key) (live_under key j) (next_session j) p (rw crowded at e) h

-- a pass names a host
pub pass_reached : (j : List Entry) (key : List ℕ) (r : Result Pass Refusal) → IsLegal j →
    IsAnswer (admit_verdict j key) r → IfOk r (λ pass. IsHost pass.host)
pass_reached j key (Ok p) legal answer = ⊎_elim
    (λ (no : Ok p ≡ Err Memory). absurd (cc))
    (λ (is : Ok p ≡ admit_verdict j key). verdict_reached j key p (is_crowded j) refl is (holder_reached j legal key))
    answer
pass_reached j key (Err e) legal answer = tt
