-- The texts of the output events are what the program writes in a session over the gateway.
use Rattle.std.proofs.Common.{◌≡◌, ◌≢◌, ℕ, ◌+◌, Bool, true, false, List, [], ◌∷◌, ◌++◌, map, Option, Some, None, Result, Ok, Err, refl, sym, subst, ap, ◌∙◌, append-nil, codes, length, arith, ◌==◌}
use Rattle.std.specs.Prelude.{◌&&◌, ◌||◌, if◌then◌else◌, take_while}
use Rattle.std.specs.List.{find, flat_map, list_any}
use Rattle.std.specs.Option.{option_map_or}
use Rattle.std.specs.Str.{bytes_eq}
use Rattle.std.proofs.lemmas.Bool.{eqb-true}
use Rattle.std.proofs.lemmas.List.{map-append}
use Rattle.std.proofs.lemmas.List.Concat.{flat_map-append}
use Rattle.std.proofs.lemmas.List.Folds.{list_any-append}
use Rattle.serde_json.specs.Data.{Data}
use Rattle.serde_json.specs.Written.{compact_text}
use Rattle.dp_bodies.specs.Requests.{Request, request_in}
use Rattle.dp_conversation.specs.Folds.{Reply, nothing_sent, replies, unless_ended}
use Rattle.dp_dap_messages.specs.declared.effects.News.{News}
use Rattle.dp_dap_messages.specs.declared.effects.News.TheVariants as news
use Rattle.dp_dap_messages.specs.declared.effects.Refusal.{Refusal}
use Rattle.dp_dap_messages.specs.declared.table.RequestName.{RequestName}
use Rattle.dp_dap_messages.specs.declared.table.RequestName.TheVariants as name
use Rattle.dp_dap.specs.Answers.{Effect, answer, messages_of, tried, with_result}
use Rattle.dp_dap.specs.Dap.{ending, is_request, reply, rest}
use Rattle.dp_dap.specs.Known.{Known, opening}
use Rattle.dp_dap_messages.specs.Messages.{news_events, numbered, output_body, output_events, refused, success}
use Rattle.dp_dap_messages.specs.Table.{every_name, name_of, text_of}
use Rattle.dp_dap_messages.specs.Values.{php}
use Rattle.dp_dap_laws.specs.Shown.{ShowsRun, is_evaluated, output_in}
use Rattle.dp_dap_laws.proofs.Effects.{DoesNamed, named_does}
use Rattle.dp_dap_laws.proofs.Leads.{Leads, leads_both, leads_run}
use Rattle.dp_engine.specs.declared.session.SessionEnd.{SessionEnd}
use Rattle.dp_engine.specs.Session.{State}
use Rattle.dp_meaning.specs.declared.writes.NumberedWrite.{NumberedWrite}
use Rattle.dp_session_laws.specs.AllOutput.{IsRunWith}
use Rattle.dp_tree.specs.declared.bundle.Bundle.{Bundle}

-- ---- messages

nothing_of : (l : List ℕ) → length l ≡ 0 → l ≡ []
nothing_of [] e = refl
nothing_of (b ∷ l) e = absurd (omega (arith, e))

-- an output event is sent where the program wrote something
abbrev texts_if : Bool → List ℕ → List (List ℕ)
texts_if none written = if none then [] else written ∷ []

abbrev texts_of : List ℕ → List (List ℕ)
texts_of written = texts_if (length written == 0) written

texts_whole : (written : List ℕ) → flat_map (λ text. text) (texts_of written) ≡ written
texts_whole written = by (length written == 0) refl where
  by : (none : Bool) → (length written == 0) ≡ none → flat_map (λ text. text) (texts_if none written) ≡ written
  by true e = sym (nothing_of written (eqb-true (length written) 0 e))
  by false e = append-nil written

news_told : (sent : ℕ) (told : News) → flat_map output_in (numbered sent (news_events told)) ≡ []
news_told sent news.Nothing = refl
news_told sent news.Initialized = refl
news_told sent (news.Stopped reason) = refl
news_told sent (news.Ended code) = refl

events_told : (sent : ℕ) (written : List ℕ) (told : News)
    → flat_map output_in (numbered sent (output_events written ++ news_events told)) ≡ map php (texts_of written)
events_told sent written told = by (length written == 0) where
  by : (none : Bool)
      → flat_map output_in
      (numbered sent ((if none then [] else (codes "output", Some (output_body written)) ∷ []) ++ news_events told))
      ≡ map php (texts_if none written)
  by true = news_told sent told
  by false = ap (λ (l : List Data). php written ∷ l) (news_told (sent + 1) told)

success_told : (seq : ℕ) (request : Request) (body : Option Data) → output_in (success seq request body) ≡ []
success_told seq request None = refl
success_told seq request (Some body) = refl

messages_told : (sent : ℕ) (request : Request) (effect : Effect)
    → flat_map output_in (messages_of sent request effect) ≡ map php (texts_of effect.written)
messages_told sent request effect =
    ap (λ (l : List Data).
    l ++ flat_map output_in (numbered (sent + 1) (output_events effect.written ++ news_events effect.news)))
    (success_told (sent + 1) request effect.body)
    ∙ events_told (sent + 1) effect.written effect.news

found : {X : Type 0} (test : X → Bool) (xs : List X) (y : X) → find test xs ≡ Some y → test y ≡ true
found test [] y e = absurd cc
found test (x ∷ xs) y e = by (test x) refl e (found test xs y) where
  by : (b : Bool) → test x ≡ b → (if b then Some x else find test xs) ≡ Some y
      → (find test xs ≡ Some y → test y ≡ true) → test y ≡ true
  by true h e later = let same : x ≡ y = cc in ap test (sym same) ∙ h
  by false h e later = later e

evaluates : (command : List ℕ) → name_of command ≡ Some name.Evaluate
    → bytes_eq (codes "evaluate") command ≡ true
unfolding name_of
evaluates command e = found (λ n. bytes_eq (text_of n) command) every_name name.Evaluate e

-- the answer to an evaluation that succeeded is one
told_evaluated : (seq : ℕ) (request : Request) (body : Option Data)
    → bytes_eq (codes "evaluate") request.command ≡ true → is_evaluated (success seq request body) ≡ true
told_evaluated seq request None e = ap (λ b. b && true) e
told_evaluated seq request (Some body) e = ap (λ b. b && true) e

-- ---- replies

-- what the messages of a reply tell is what the program writes meanwhile
record Tells (session : State) (r : Reply Known SessionEnd) : Type 0 where
  messages : List Data
  sent : r.packets ≡ map compact_text messages
  texts : List (List ℕ)
  told : flat_map output_in messages ≡ map php texts
  lines : List (List ℕ)
  leads : Leads session lines r.state.session (flat_map (λ text. text) texts)
  quiet : list_any is_evaluated messages ≡ false → r.state.session.writes ≡ session.writes

none_told : (known : Known) → Tells known.session (nothing_sent known)
none_told known = record {
  messages = [];
  sent = refl;
  texts = [];
  told = refl;
  lines = [];
  leads = (refl, refl);
  quiet = λ none. refl;
}

result_tells : (request : Request) (known : Known) (r : Result Effect Refusal)
    → DoesNamed known.session (name_of request.command) r → Tells known.session (with_result request known r)
result_tells request known (Err why) h = record {
  messages = refused (known.sent + 1) request why ∷ [];
  sent = refl;
  texts = [];
  told = refl;
  lines = [];
  leads = (refl, refl);
  quiet = λ none. refl;
}
result_tells request known (Ok effect) h = record {
  messages = messages_of known.sent request effect;
  sent = refl;
  texts = texts_of effect.written;
  told = messages_told known.sent request effect;
  lines = h.2.lines;
  leads =
      subst (λ (w : List ℕ). Leads known.session h.2.lines effect.next.session w)
      (sym (texts_whole effect.written)) h.2.leads;
  quiet = λ none. h.2.quiet (other none);
} where
  other : list_any is_evaluated (messages_of known.sent request effect) ≡ false → h.0 ≢ name.Evaluate
  other none is =
      let named : name_of request.command ≡ Some name.Evaluate =
      h.1 ∙ ap (λ (n : RequestName). Some n) is in
      let yes : is_evaluated (success (known.sent + 1) request effect.body) ≡ true =
      told_evaluated (known.sent + 1) request effect.body (evaluates request.command named) in
      let clash : true ≡ false =
      sym (ap (λ b. b || list_any is_evaluated
      (numbered (known.sent + 1) (output_events effect.written ++ news_events effect.news))) yes) ∙ none in
      absurd cc

reply_tells : (known : Known) (text : List ℕ) → Tells known.session (reply known text)
unfolding answer
reply_tells known text = by (request_in text) where
  by : (request : Option Request)
      → Tells known.session (option_map_or (answer known) request (nothing_sent known))
  by None = none_told known
  by (Some request) =
      result_tells request known (tried request known)
      (named_does (name_of request.command) request.arguments known)

neither : (a b : Bool) → (a || b) ≡ false → (a ≡ false) × (b ≡ false)
neither true b e = absurd cc
neither false b e = (refl, e)

both_tell : (session : State) (ended : Option SessionEnd) (first later : Reply Known SessionEnd)
    → Tells session first → Tells first.state.session later → Tells session (unless_ended ended first later)
both_tell session (Some end) first later a b = a
both_tell session None first later a b = record {
  messages = a.messages ++ b.messages;
  sent = (λ i. a.sent i ++ b.sent i) ∙ sym (map-append compact_text a.messages b.messages);
  texts = a.texts ++ b.texts;
  told =
      flat_map-append output_in a.messages b.messages ∙ (λ i. a.told i ++ b.told i)
      ∙ sym (map-append php a.texts b.texts);
  lines = a.lines ++ b.lines;
  leads =
      subst (λ (w : List ℕ). Leads session (a.lines ++ b.lines) later.state.session w)
      (sym (flat_map-append (λ text. text) a.texts b.texts))
      (leads_both session a.lines first.state.session (flat_map (λ text. text) a.texts) b.lines later.state.session
      (flat_map (λ text. text) b.texts) a.leads b.leads);
  quiet = λ none.
      let each = neither (list_any is_evaluated a.messages) (list_any is_evaluated b.messages)
      (sym (list_any-append is_evaluated a.messages b.messages) ∙ none) in
      b.quiet each.1 ∙ a.quiet each.0;
}

replies_tell : (known : Known) (texts : List (List ℕ)) → Tells known.session (replies reply known texts)
replies_tell known [] = none_told known
replies_tell known (text ∷ texts) =
    both_tell known.session (reply known text).ended (reply known text)
    (replies reply (reply known text).state texts) (reply_tells known text)
    (replies_tell (reply known text).state texts)

-- ---- sessions

pub shows_run : (bundle : Bundle) (bound : ℕ) (bodies : List (List ℕ)) → ShowsRun bundle bound bodies
shows_run bundle bound bodies =
    let known = opening bundle bound in
    let all = replies reply known (take_while is_request bodies) in
    let t = replies_tell known (take_while is_request bodies) in
    let run = leads_run bundle bound t.lines all.ended all.state.session (flat_map (λ text. text) t.texts) t.leads in
    record {
      messages = t.messages;
      sent = t.sent;
      texts = t.texts;
      outputs = t.told;
      run = run;
      plain = λ none.
          subst (λ (w : List NumberedWrite). IsRunWith bundle bound w
          (flat_map (λ text. text) t.texts ++ rest bundle bound bodies) (ending bundle bound bodies))
          (t.quiet none) run;
    }
