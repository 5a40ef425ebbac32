-- What a line is answered, in the words of the definitions.
use Rattle.std.proofs.Common.{◌≡◌, ℕ, List, cond, Some, None, Result, Ok, Err, sym, subst, ap, ◌∙◌}
use Rattle.std.specs.Option.{option_map_or}
use Rattle.std.proofs.lemmas.Bool.{le-leb, lt-leb}
use Rattle.dp_command.specs.Canonical.{canonical}
use Rattle.dp_command.specs.declared.line.Line.{Line}
use Rattle.dp_engine.specs.Answers.{Turn}
use Rattle.dp_engine.specs.Responses.{fault_in}
use Rattle.dp_engine.specs.declared.session.Report.{Report}
use Rattle.dp_dap_messages.specs.declared.effects.Refusal.{Refusal}
use Rattle.dp_dap_messages.specs.declared.effects.Refusal.TheVariants as refusal
use Rattle.dp_dap.specs.declared.effects.Unanswered.{Unanswered}
use Rattle.dp_dap.specs.declared.effects.Unanswered.TheVariants.{Refused, Memory}
use Rattle.dp_dap.specs.Answers.{and_then, replied, turned, unless_fault}
use Rattle.dp_dap.specs.Known.{Known}
use Rattle.dp_dap.specs.inner.Effects.{IsNotReplied, IsReplied, Refuses}
use Rattle.dp_dap.proofs.TurnLaws.{refused_stays}

-- the session that is known stands for the whole
kept_known : (old new : Known) → new ≡ (record old { session = new.session }) → new.session ≡ old.session → new ≡ old
kept_known old new kept same = kept ∙ ap (λ s. record old { session = s }) same

-- a line that is replied leads to the turn of the session
pub replied_is : (line : Line) (report : Report) (old new : Known) → IsReplied (canonical line) report old new
    → replied old line ≡ Ok (turned old.session line)
replied_is line report old new is =
    let whole : fault_in (turned old.session line).response.body ≡ None =
    sym (ap (λ (t : Turn). fault_in t.response.body) is.reports.turned) ∙ is.no_fault in
    ap (λ b. cond b (unless_fault (turned old.session line)) (Err refusal.BadArguments)) (le-leb _ _ is.fits)
    ∙ ap (λ f. option_map_or (λ code. Err (refusal.Code code)) f (Ok (turned old.session line))) whole

-- a line that is refused is refused by the definition, and nothing has changed
pub not_replied : (line : Line) (why : Unanswered) (old new : Known) → IsNotReplied (canonical line) why old new
    → Refuses (replied old line) why old new
not_replied line (Refused refusal.BadArguments) old new is = (
  ap (λ b. cond b (unless_fault (turned old.session line)) (Err refusal.BadArguments)) (lt-leb _ _ is.0),
  is.1,
)
not_replied line (Refused (refusal.Code code)) old new is =
    let report = is.0 in
    let fits = is.1 in
    let reports = is.2 in
    let fault : fault_in (turned old.session line).response.body ≡ Some code =
    sym (ap (λ (t : Turn). fault_in t.response.body) reports.turned) ∙ is.3 in (
      ap (λ b. cond b (unless_fault (turned old.session line)) (Err refusal.BadArguments)) (le-leb _ _ fits)
          ∙ ap (λ f. option_map_or (λ c. Err (refusal.Code c)) f (Ok (turned old.session line))) fault,
      kept_known old new reports.kept
          (ap (λ (t : Turn). t.next) reports.turned ∙ refused_stays old.session (canonical line) code fault),
    )
not_replied line (Refused refusal.Unsupported) old new is = absurd is
not_replied line (Refused refusal.NotNow) old new is = absurd is
not_replied line (Refused refusal.TooManyReferences) old new is = absurd is
not_replied line Memory old new is = tt

-- the bytes that were asked are this line
pub replied_at : (line : Line) (bytes : List ℕ) (report : Report) (old new : Known) → bytes ≡ canonical line
    → IsReplied bytes report old new → IsReplied (canonical line) report old new
replied_at line bytes report old new same is = subst (λ (l : List ℕ). IsReplied l report old new) same is

pub not_replied_at : (line : Line) (bytes : List ℕ) (why : Unanswered) (old new : Known) → bytes ≡ canonical line
    → IsNotReplied bytes why old new → IsNotReplied (canonical line) why old new
not_replied_at line bytes why old new same is = subst (λ (l : List ℕ). IsNotReplied l why old new) same is

-- what stands behind a line is refused with it
pub behind_refused : {A B : Type 0} (f : A → Result B Refusal) (r : Result A Refusal) (why : Unanswered)
    (old new : Known)
    → Refuses r why old new → Refuses (and_then f r) why old new
behind_refused f r (Refused why) old new is = (ap (and_then f) is.0, is.1)
behind_refused f r Memory old new is = tt
