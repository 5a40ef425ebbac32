-- The first message, and the commands of a script.
use Rattle.std.proofs.Common.{◌≡◌, ◌↔◌, inl, inr, ℕ, suc, ◌+◌, Bool, true, false, List, [], ◌∷◌, ◌++◌, length, refl, sym, ap, ◌∙◌, subst, append-nil, arith, length-append, decimal}
use Rattle.std.specs.Prelude.{Result, Ok, Err, IfOk, IfErr, IsOk, IsTrue}
use Rattle.std.specs.List.{All}
use Rattle.std.specs.Io.KnownBytes.{Consumes}
use Rattle.std.proofs.lemmas.Bool.{false≢true}
use Rattle.std.proofs.lemmas.List.Elements.{All-push}
use Rattle.dp_outside.specs.Changes.{Change}
use Rattle.dp_wire.specs.Frames.{packet_frame}
use Rattle.dp_wire.specs.Received.{Received}
use Rattle.dp_ide.specs.declared.errors.IdeError.{IdeError}
use Rattle.dp_ide.specs.declared.errors.IdeError.TheVariants.{BadPacket}
use Rattle.dp_ide.specs.declared.heard.Heard.{Heard as Kept}
use Rattle.dp_ide.specs.declared.heard.Message.{Message}
use Rattle.dp_ide.specs.declared.instruction.Act.{Act}
use Rattle.dp_ide.specs.declared.instruction.Act.TheVariants.{Send}
use Rattle.dp_ide.specs.declared.instruction.Instruction.{Instruction}
use Rattle.dp_ide.specs.Messages.{is_init}
use Rattle.dp_grammar.specs.Lines.{AreSaid}
use Rattle.dp_ide.specs.Plays.{IsReadUpTo}
use Rattle.dp_ide.specs.Scripts.{ActLine, Says, SaysAt}
use Rattle.dp_ide.specs.inner.Progress.{TakesNext, LacksNext, NextFails, ComesFor, OpenFails, Stood, StoodUpTo, IsPlayable}
use Rattle.dp_ide.proofs.EndLaws.{one_message_of}

-- ---- the init

module _ (old new : Received) (source : Change) (last : Message) (none : old.held ≡ []) (first : old.dropped ≡ 0)
    (t : TakesNext old new source last) where
  whole : t.piece ≡ (packet_frame t.text ++ []) ++ new.held
  whole = ap (λ (l : List ℕ). l ++ t.piece) (sym none) ∙ t.takes.whole

  abbrev stood : (heard : Kept) → is_init last.packet ≡ true → heard.last ≡ last → heard.output.items ≡ []
      → Stood t.piece [] new heard []
  stood heard is same empty = record {
    texts = t.text ∷ [];
    each = t.takes.each;
    whole = whole;
    place = t.takes.place [] (first ∙ omega arith);
    messages = last ∷ [];
    are = (t.is, tt);
    played = record {
      init = last;
      later = [];
      whole = refl;
      is = is;
      goes = (refl, λ i. record { last = same i; output = empty i; printed = [] });
    };
  }

  some : t.piece ≡ [] → ⊥
  some nothing =
      let some_byte : length (packet_frame t.text) ≡ length (decimal (length t.text) ++ 0 ∷ [] ++ t.text)
      + 1 = length-append (decimal (length t.text) ++ 0 ∷ [] ++ t.text) (0 ∷ []) in
      omega (
        arith,
        some_byte,
        ap length (sym whole ∙ nothing),
        length-append (packet_frame t.text ++ []) new.held,
        length-append (packet_frame t.text) [],
      )

  up_to : ComesFor old.held t.piece (t.text ∷ []) → IsReadUpTo (t.text ∷ []) t.piece
  up_to (inl nothing) = absurd (some nothing)
  up_to (inr wanted) = subst (λ (held : List ℕ). IsReadUpTo (t.text ∷ []) (held ++ t.piece)) none wanted

  pub opened : (r : Result Kept IdeError) → IsOk r ↔ IsTrue (is_init last.packet)
      → IfOk r (λ heard. (heard.last ≡ last) × (heard.output.items ≡ []))
      → IfOk r (λ heard. (read : List ℕ) × Consumes source.told_before source.told read
      × StoodUpTo read [] new heard [])
  opened (Ok heard) is h =
      (t.piece, t.consumed, record { stood = stood heard (is.0 refl) h.0 h.1; up_to = up_to t.wanted })
  opened (Err why) is h = tt

  not_init : (r : Result Kept IdeError) (why : IdeError) → r ≡ Err why → IsOk r ↔ IsTrue (is_init last.packet)
      → (b : Bool) → is_init last.packet ≡ b → b ≡ false
  not_init r why same is false e = refl
  not_init r why same is true e =
      let ok : IsOk r = is.1 e in absurd (false≢true (subst (λ (x : Result Kept IdeError). IsOk x) same ok))

  pub unopened : (r : Result Kept IdeError) → IsOk r ↔ IsTrue (is_init last.packet) → IfErr r (λ why. why ≡ BadPacket 0)
      → IfErr r (λ why. OpenFails why source)
  unopened (Ok heard) is h = tt
  unopened (Err why) is h = record {
    read = t.piece;
    consumed = t.consumed;
    lacks = inr (
      t.text,
      new.held,
      record {
        is_text = t.takes.each.0;
        whole = whole ∙ ap (λ (l : List ℕ). l ++ new.held)
            (append-nil (packet_frame t.text));
      },
      h,
      λ message there. ap (λ (m : Message). is_init m.packet) (one_message_of t.text message last there t.is)
          ∙ not_init (Err why) why refl is (is_init last.packet) refl,
    );
  }

pub unread : (why : IdeError) (old : Received) (source : Change) → old.held ≡ [] → old.dropped ≡ 0
    → NextFails why old source → OpenFails why source
unread why old source none first f = record {
  read = f.piece;
  consumed = f.consumed;
  lacks =
      inl (subst (λ (r : Received). LacksNext why r source) (λ i. record
      { held = none i ++ f.piece; dropped = first i }) f.lacks);
}

-- ---- the commands of a script

line_playable : (one : Instruction) (line : List ℕ) → ActLine one.act line → IsPlayable one
line_playable one line asks =
    λ command id is. let spelt : ActLine (Send command id) line = subst
    (λ (a : Act). ActLine a line) is asks in spelt.second.is_command

said_playable : (number : ℕ) (line : List ℕ) (before said : List Instruction) → Says number line said
    → All IsPlayable before → All IsPlayable (before ++ said)
said_playable number line before [] says all = subst (All IsPlayable) (sym (append-nil before)) all
said_playable number line before (one ∷ []) says all =
    All-push IsPlayable before one all (line_playable one line says.1)
said_playable number line before (one ∷ other ∷ rest) says all = absurd says

pub playable : (before : List Instruction) (number : ℕ) (lines : List (List ℕ)) (instructions : List Instruction)
    → All IsPlayable before → AreSaid SaysAt before number lines instructions → All IsPlayable instructions
playable before number [] instructions all are = subst (All IsPlayable) (sym are) all
playable before number (line ∷ lines) instructions all are =
    playable (before ++ are.0) (suc number) lines instructions (said_playable number line before are.0 are.1 all) are.2
