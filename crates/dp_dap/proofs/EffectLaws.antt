-- What a request led to in the code, in the words of the definitions.
use Rattle.std.proofs.Common.{◌≡◌, ◌+◌, ℕ, suc, true, false, cond, List, [], ◌∷◌, ◌++◌, length, map, Option, Some, None, Result, Ok, Err, refl, sym, subst, ap, ◌∙◌, option_map, codes}
use Rattle.std.specs.Prelude.{Bool, nat_le, not}
use Rattle.std.proofs.lemmas.Bool.{false≢true, true≢false}
use Rattle.serde_json.specs.Data.{Data}
use Rattle.serde_json.specs.View.{view}
use Rattle.serde_json.specs.declared.value.Value.{Value}
use Rattle.dp_command.specs.Canonical.{canonical}
use Rattle.dp_command.specs.declared.command.Continuation.{Continuation}
use Rattle.dp_command.specs.declared.line.Line.{Line}
use Rattle.dp_engine.specs.Answers.{Turn, turn, turn_with}
use Rattle.dp_engine.specs.Session.{State, written_between}
use Rattle.dp_engine.specs.declared.session.Report.{Report}
use Rattle.dp_dap_messages.specs.declared.arguments.Asked.{Asked}
use Rattle.dp_dap.specs.declared.effects.Effect.{Effect}
use Rattle.dp_dap_messages.specs.declared.effects.News.{News}
use Rattle.dp_dap_messages.specs.declared.effects.News.TheVariants as news
use Rattle.dp_dap_messages.specs.declared.effects.Refusal.{Refusal}
use Rattle.dp_dap_messages.specs.declared.effects.Refusal.TheVariants as refusal
use Rattle.dp_dap_messages.specs.declared.effects.StopReason.{StopReason}
use Rattle.dp_dap.specs.declared.effects.Unanswered.{Unanswered}
use Rattle.dp_dap.specs.declared.effects.Unanswered.TheVariants.{Refused, Memory}
use Rattle.dp_dap_messages.specs.declared.lines.Place.{Place}
use Rattle.dp_dap.specs.Answers as spec
use Rattle.dp_dap.specs.Known.{Known}
use Rattle.dp_dap_messages.specs.Lines.{contexts_line, eval_line, frame_line, going_line}
use Rattle.dp_dap_messages.specs.Messages.{list, result_body}
use Rattle.dp_dap_messages.specs.Values as spec_values
use Rattle.dp_dap.specs.inner.Effects.{Advances, DidSo, IsBare, IsNotReplied, IsReplied, Looks, Refuses, Settles, effect_of}
use Rattle.dp_dap.proofs.AskLaws.{behind_refused, not_replied, replied_is}
use Rattle.dp_dap.proofs.TurnLaws.{contexts_stay, frame_stays}

-- an effect with a body alone
pub bare_is : (effect : Effect) (body : Option Value) (shown : Option Data) (old new : Known) → IsBare body effect
    → option_map view body ≡ shown → new ≡ old → effect_of effect new ≡ spec.bare shown old
bare_is effect body shown old new is seen same = λ i. record {
  body = (ap (option_map view) is.is_body ∙ seen) i;
  written = is.written i;
  news = is.is_news i;
  next = same i;
  ended = is.goes_on i;
}

-- a line that changes nothing of the session changes nothing of what is known
pub nothing_new : (line : Line) (report : Report) (old new : Known) → ((s : State) → (turn s (canonical line)).next ≡ s)
    → IsReplied (canonical line) report old new → new ≡ old
nothing_new line report old new stays is =
    is.reports.kept
    ∙ ap (λ s. record old { session = s })
    (ap (λ (t : Turn). t.next) is.reports.turned ∙ stays old.session)

-- what is shown of a line's answer is a body alone
pub looked : (line : Line) (shown : Turn → Data) (report : Report) (old new : Known) (effect : Effect) (body : Value)
    → ((s : State) → (turn s (canonical line)).next ≡ s) → IsReplied (canonical line) report old new
    → IsBare (Some body) effect → view body ≡ shown (spec.turned old.session line)
    → DidSo (spec.and_then (λ taken. Ok (spec.bare (Some (shown taken)) old)) (spec.replied old line)) effect new
looked line shown report old new effect body stays is bare seen =
    ap (spec.and_then (λ taken. Ok (spec.bare (Some (shown taken)) old))) (replied_is line report old new is)
    ∙ ap Ok (sym (bare_is effect (Some body) _ old new bare (ap Some seen) (nothing_new line report old new stays is)))

-- ---- looks

-- a look that was replied
pub looks_are : (line : Line) (report : Report) (old new : Known) → ((s : State) → (turn s (canonical line)).next ≡ s)
    → IsReplied (canonical line) report old new → Looks (spec.replied old line) report old new
looks_are line report old new stays is = record {
  is_turn = replied_is line report old new is ∙ ap Ok (sym is.reports.turned);
  stays = nothing_new line report old new stays is;
}

-- the contexts of a frame were looked at
pub frame_looks : (level : ℕ) (first report : Report) (old mid new : Known)
    → IsReplied (canonical (frame_line level)) first old mid → IsReplied (canonical contexts_line) report mid new
    → Looks (spec.frame_known old level (spec.replied old (frame_line level))) report old new
frame_looks level first report old mid new there is =
    let stays = nothing_new (frame_line level) first old mid (λ s. frame_stays s level) there in
    let looks = looks_are contexts_line report old new contexts_stay
    (subst (λ (k : Known). IsReplied (canonical contexts_line) report k new) stays is) in
    record {
      is_turn =
          ap (spec.frame_known old level) (replied_is (frame_line level) first old mid there) ∙ looks.is_turn;
      stays = looks.stays;
    }

-- there is no such frame
pub no_frame : (level : ℕ) (why : Refusal) (old mid : Known)
    → IsNotReplied (canonical (frame_line level)) (Refused why) old mid
    → Refuses (spec.frame_known old level (spec.replied old (frame_line level))) (Refused refusal.BadArguments) old mid
no_frame level why old mid is =
    let refused = not_replied (frame_line level) (Refused why) old mid is in
    (ap (spec.frame_known old level) refused.0, refused.1)

-- its contexts are refused
pub frame_refused : (level : ℕ) (first : Report) (why : Unanswered) (old mid new : Known)
    → IsReplied (canonical (frame_line level)) first old mid → IsNotReplied (canonical contexts_line) why mid new
    → Refuses (spec.frame_known old level (spec.replied old (frame_line level))) why old new
frame_refused level first (Refused why) old mid new there is =
    let stays = nothing_new (frame_line level) first old mid (λ s. frame_stays s level) there in
    let refused = not_replied contexts_line (Refused why) old new
    (subst (λ (k : Known). IsNotReplied (canonical contexts_line) (Refused why) k new) stays is) in
    (ap (spec.frame_known old level) (replied_is (frame_line level) first old mid there) ∙ refused.0, refused.1)
frame_refused level first Memory old mid new there is = tt

-- the scopes of a frame that cannot be looked at are refused
pub scopes_refused : (frame level : ℕ) (why : Unanswered) (old new : Known) → suc level ≡ frame
    → Refuses (spec.frame_known old level (spec.replied old (frame_line level))) why old new
    → Refuses (spec.scopes_shown frame old) why old new
scopes_refused frame level why old new is refused =
    subst (λ (n : ℕ). Refuses (spec.scopes_shown n old) why old new) is
    (behind_refused (spec.contexts_shown level old) (spec.frame_known old level (spec.replied old (frame_line level)))
    why old new refused)

-- ---- places that are listed

-- there is room for them
pub listed_is : (more : List Place) (shown : Data) (known new : Known) (effect : Effect) (body : Value)
    → nat_le (length known.places + length more) spec.reference_limit ≡ true → IsBare (Some body) effect
    → view body ≡ shown → new ≡ (record known { places = known.places ++ more })
    → DidSo (spec.with_places more shown known) effect new
listed_is more shown known new effect body fits bare seen same =
    ap (λ b. cond b (Ok (spec.bare (Some shown) (record known { places = known.places ++ more })))
    (Err refusal.TooManyReferences)) fits
    ∙ ap Ok (sym (bare_is effect (Some body) _ (record known { places = known.places ++ more }) new bare (ap Some seen)
    same))

-- there is none
pub listed_full : (more : List Place) (shown : Data) (known : Known)
    → nat_le (length known.places + length more) spec.reference_limit ≡ false
    → spec.with_places more shown known ≡ Err refusal.TooManyReferences
listed_full more shown known full =
    ap (λ b. cond b (Ok (spec.bare (Some shown) (record known { places = known.places ++ more })))
    (Err refusal.TooManyReferences)) full

-- what was looked at is listed
pub list_looked : (result : Result Turn Refusal) (shown : Turn → Result spec.Effect Refusal) (report : Report)
    (old mid new : Known) (more places : List Place) (told : Data) (effect : Effect) (body : Value)
    → Looks result report old mid → shown (turn_with report mid.session) ≡ spec.with_places more told old
    → places ≡ more → nat_le (length mid.places + length more) spec.reference_limit ≡ true → IsBare (Some body) effect
    → view body ≡ told → new ≡ (record mid { places = mid.places ++ places })
    → DidSo (spec.and_then shown result) effect new
list_looked result shown report old mid new more places told effect body looks lists are fits bare seen same =
    ap (spec.and_then shown) looks.is_turn ∙ lists
    ∙ listed_is more told old new effect body
    (ap (λ (k : Known). nat_le (length k.places + length more) spec.reference_limit) (sym looks.stays) ∙ fits) bare seen
    (same ∙ (λ i. record (looks.stays i) { places = (looks.stays i).places ++ are i }))

-- there is no room for it
pub list_full : (result : Result Turn Refusal) (shown : Turn → Result spec.Effect Refusal) (report : Report)
    (old mid : Known) (more : List Place) (told : Data)
    → Looks result report old mid → shown (turn_with report mid.session) ≡ spec.with_places more told old
    → nat_le (length mid.places + length more) spec.reference_limit ≡ false
    → Refuses (spec.and_then shown result) (Refused refusal.TooManyReferences) old mid
list_full result shown report old mid more told looks lists full = (
  ap (spec.and_then shown) looks.is_turn ∙ lists
      ∙ listed_full more told old
      (ap (λ (k : Known). nat_le (length k.places + length more) spec.reference_limit) (sym looks.stays) ∙ full),
  looks.stays,
)

-- whether there is room, by the test
pub has_room : (full fits : Bool) → full ≡ not fits → full ≡ false → fits ≡ true
has_room full true is room = refl
has_room full false is room = absurd (true≢false (sym is ∙ room))

pub no_room : (full fits : Bool) → full ≡ not fits → full ≡ true → fits ≡ false
no_room full false is shut = refl
no_room full true is shut = absurd (false≢true (sym is ∙ shut))

-- each context has one place
pub places_count : (level : ℕ) (contexts : List (List ℕ × ℕ))
    → length (spec_values.context_places level contexts) ≡ length contexts
places_count level [] = refl
places_count level (c ∷ cs) = ap (λ n. suc n) (places_count level cs)

-- ---- going on

-- where a program that went on has come to
pub gone_is : (mode : Continuation) (why : StopReason) (shown : Option Data) (written : List ℕ) (told : News)
    (old mid new : Known) (effect : Effect) → Advances mode written old mid → Settles why told mid new
    → option_map view effect.body ≡ shown → effect.written ≡ written → effect.news ≡ told → effect.ended ≡ None
    → DidSo (Ok (spec.gone_on mode why shown old)) effect new
gone_is mode why shown written told old mid new effect went settles body wrote news_are goes_on =
    ap Ok (ap (λ (k : Known). spec.settled (spec.has_ended k.session.phase) why shown
    (written_between old.session (spec.turned old.session (going_line mode)).next) k) (sym went.1)
    ∙ settles shown (written_between old.session (spec.turned old.session (going_line mode)).next)
    ∙ (λ i. record {
      body = sym body i;
      written = (sym went.0 ∙ sym wrote) i;
      news = sym news_are i;
      next = new;
      ended = sym goes_on i;
    }))

-- ---- evaluating

-- the result, and what the program wrote
pub evaluated_is : (expression : List ℕ) (report : Report) (old new : Known) (effect : Effect) (body : Value)
    → IsReplied (canonical (eval_line expression)) report old new → effect.body ≡ Some body
    → view body ≡ result_body (spec.result_in (spec.shown_in report.response.body)) → effect.written ≡ report.written
    → effect.news ≡ news.Nothing → effect.ended ≡ None → DidSo (spec.evaluated expression old) effect new
evaluated_is expression report old new effect body is bodies seen wrote nothing goes_on =
    ap (spec.and_then done) (replied_is (eval_line expression) report old new is)
    ∙ ap done (sym is.reports.turned)
    ∙ ap Ok (λ i. record {
      body = (ap Some (sym seen) ∙ ap (option_map view) (sym bodies)) i;
      written = (sym is.reports.written ∙ sym wrote) i;
      news = sym nothing i;
      next = sym is.reports.kept i;
      ended = sym goes_on i;
    }) where
      done : Turn → Result spec.Effect Refusal
      done taken = Ok (record {
        body = Some (result_body (spec.result_in (spec.shown_in taken.response.body)));
        written = written_between old.session taken.next;
        news = news.Nothing;
        next = record old { session = taken.next };
        ended = None;
      })

-- ---- breakpoints

-- what is told of breakpoints that were set
pub set_are : (path : List ℕ) (asked : List Asked) (old mid new : Known) (told : List Value) (effect : Effect)
    (body : Value) → mid ≡ spec.cleared path old → (map view told, new) ≡ spec.set_all path asked mid
    → IsBare (Some body) effect → view body ≡ list (codes "breakpoints") (map view told)
    → DidSo (Ok (spec.breakpoints_set path asked old)) effect new
set_are path asked old mid new told effect body cleared are bare seen =
    let all : (map view told, new) ≡ spec.set_all path asked (spec.cleared path old) =
    are ∙ ap (spec.set_all path asked) cleared in
    ap Ok (sym (bare_is effect (Some body) _ _ new bare
    (ap Some (seen ∙ ap (λ (p : List Data × Known). list (codes "breakpoints") p.0) all))
    (ap (λ (p : List Data × Known). p.1) all)))
