-- More commands only add.
use Rattle.std.proofs.Common.{◌≡◌, ℕ, Bool, true, false, cond, leb, eqb, List, [], ◌∷◌, ◌++◌, length, Option, None, Some, refl, sym, ap, ◌∙◌, subst, append_assoc, append-nil}
use Rattle.dp_wire.specs.Frames.{command_limit, commands_in, ended_texts, widened, up_to_limit}
use Rattle.dp_conversation.specs.Folds.{Reply, nothing_sent, unless_ended, followed, replies}
use Rattle.dp_conversation.specs.Growth.{served, GrowsInto}

-- ---- the commands of more bytes

-- a list of texts goes on with others
abbrev Extends : List (List ℕ) → List (List ℕ) → Type 0
Extends lines longer = (others : List (List ℕ)) × (longer ≡ lines ++ others)

widened_extends : (byte : ℕ) (texts longer : List (List ℕ)) → Extends texts longer
    → Extends (widened byte texts) (widened byte longer)
widened_extends byte [] longer h = (widened byte longer, refl)
widened_extends byte (text ∷ texts) longer h = (h.0, ap (widened byte) h.1)

ended_extend : (bytes more : List ℕ) → Extends (ended_texts bytes) (ended_texts (bytes ++ more))
ended_extend [] more = (ended_texts more, refl)
ended_extend (byte ∷ bytes) more = cases (eqb byte 0) (ended_extend bytes more) where
  cases : (t : Bool) → Extends (ended_texts bytes) (ended_texts (bytes ++ more))
      → Extends (cond t ([] ∷ ended_texts bytes) (widened byte (ended_texts bytes)))
      (cond t ([] ∷ ended_texts (bytes ++ more)) (widened byte (ended_texts (bytes ++ more))))
  cases true h = (h.0, ap (λ l. [] ∷ l) h.1)
  cases false h = widened_extends byte (ended_texts bytes) (ended_texts (bytes ++ more)) h

up_extends : (texts others : List (List ℕ)) → Extends (up_to_limit texts) (up_to_limit (texts ++ others))
up_extends [] others = (up_to_limit others, refl)
up_extends (text ∷ texts) others = cases (leb (length text) command_limit) (up_extends texts others) where
  cases : (t : Bool) → Extends (up_to_limit texts) (up_to_limit (texts ++ others))
      → Extends (cond t (text ∷ up_to_limit texts) []) (cond t (text ∷ up_to_limit (texts ++ others)) [])
  cases true h = (h.0, ap (λ l. text ∷ l) h.1)
  cases false h = ([], refl)

commands_extend : (bytes more : List ℕ) → Extends (commands_in bytes) (commands_in (bytes ++ more))
commands_extend bytes more =
    let ended = ended_extend bytes more in
    let up = up_extends (ended_texts bytes) ended.0 in
    (up.0, ap up_to_limit ended.1 ∙ up.1)

-- ---- what more commands lead to

module _ {S E : Type 0} where
  goes_on_nothing : (state : S) (second : Reply S E) → GrowsInto (nothing_sent state) second
  goes_on_nothing state second = record {
    packets = second.packets;
    program = second.program;
    more_packets = refl;
    more_program = refl;
    over = λ end e. absurd cc;
  }

  goes_on_followed : (first rest longer : Reply S E) → GrowsInto rest longer
      → GrowsInto (followed first rest) (followed first longer)
  goes_on_followed first rest longer g = cases first.ended where
    cases : (ended : Option E) → GrowsInto (unless_ended ended first rest) (unless_ended ended first longer)
    cases (Some end) =
        record {
          packets = [];
          program = [];
          more_packets = sym (append-nil first.packets);
          more_program = sym
              (append-nil first.program);
          over = λ end e. refl;
        }
    cases None = record {
      packets = g.packets;
      program = g.program;
      more_packets =
          ap (λ l. first.packets ++ l) g.more_packets ∙ sym (append_assoc first.packets rest.packets g.packets);
      more_program =
          ap (λ l. first.program ++ l) g.more_program ∙ sym (append_assoc first.program rest.program g.program);
      over =
          λ end e. ap (λ (r : Reply S E). record {
            packets = first.packets ++ r.packets;
            program = first.program
                ++ r.program;
            state = r.state;
            ended = r.ended;
          }) (g.over end e);
    }

  pub replies_go_on : (step : S → List ℕ → Reply S E) (state : S) (lines others : List (List ℕ))
      → GrowsInto (replies step state lines) (replies step state (lines ++ others))
  replies_go_on step state [] others = goes_on_nothing state (replies step state others)
  replies_go_on step state (line ∷ lines) others =
      goes_on_followed (step state line) (replies step (step state line).state lines)
      (replies step (step state line).state (lines ++ others))
      (replies_go_on step (step state line).state lines others)

  pub served_goes_on : (step : S → List ℕ → Reply S E) (start : S) (bytes more : List ℕ)
      → GrowsInto (served step start bytes) (served step start (bytes ++ more))
  served_goes_on step start bytes more =
      let longer = commands_extend bytes more in
      subst (λ (l : List (List ℕ)). GrowsInto (served step start bytes) (replies step start l)) (sym longer.1)
      (replies_go_on step start (commands_in bytes) longer.0)
