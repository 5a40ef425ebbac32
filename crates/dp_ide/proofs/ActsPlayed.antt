-- What each instruction does where it is played, and why it is not.
use Rattle.std.proofs.Common.{◌≡◌, inl, ℕ, ◌≤◌, List, [], ◌∷◌, ◌++◌, Option, Some, refl, sym, ap, ◌∙◌, subst, append_assoc, append-nil, codes, decimal}
use Rattle.std.specs.Prelude.{Result, Ok, Err, OnOk}
use Rattle.std.specs.Str.Parse.{digits_value}
use Rattle.std.specs.Io.KnownBytes.{Appends, Consumes}
use Rattle.std.proofs.KnownBytes.{Appends-nil, Consumes-nil}
use Rattle.dp_markup.specs.Grammar.{value_of}
use Rattle.dp_markup.specs.Texts.{written}
use Rattle.dp_outside.specs.Changes.{Change}
use Rattle.dp_wire.specs.Frames.{command_frame, packet_limit}
use Rattle.dp_wire.proofs.PacketLaws.{value-decimal}
use Rattle.dp_wire.specs.Received.{Received}
use Rattle.dp_ide.specs.declared.errors.IdeError.{IdeError}
use Rattle.dp_ide.specs.declared.heard.Heard.{Heard as Kept}
use Rattle.dp_ide.specs.declared.instruction.Act.{Act}
use Rattle.dp_ide.specs.declared.instruction.Act.TheVariants.{Send, Attr, Code, Prop, Out, Print}
use Rattle.dp_ide.specs.declared.instruction.Instruction.{Instruction}
use Rattle.dp_ide.specs.Messages.{code_in, content_in}
use Rattle.dp_ide.specs.Instructions.{Does, sent_by}
use Rattle.dp_ide.specs.inner.Progress.{heard_of, TakesAnswer, Performs, printed_line}
use Rattle.dp_ide.proofs.AwaitLaws.{takes_none}
use Rattle.dp_ide.proofs.PlayLaws.{performs_one, performs_quiet}

pub ok_then : (r : Result (Unit {0}) IdeError) (P Q : Type 0) → (P → Q) → OnOk r P → OnOk r Q
ok_then (Ok u) P Q f h = f h
ok_then (Err e) P Q f h = tt

pub both_then : (r : Result (Unit {0}) IdeError) (O P Q : Type 0) → (O → P → Q) → OnOk r O → OnOk r P → OnOk r Q
both_then (Ok u) O P Q f g h = f g h
both_then (Err e) O P Q f g h = tt

-- a number is told by its decimal
pub same_numbers : (r : Result (Unit {0}) IdeError) (found wanted : ℕ) (x y : List ℕ) → found ≤ packet_limit
    → wanted ≤ packet_limit → x ≡ decimal found → y ≡ decimal wanted
    → OnOk r (Some x ≡ Some y) → OnOk r (found ≡ wanted)
same_numbers r found wanted x y few small is are =
    ok_then r _ _ (λ (same : Some x ≡ Some y).
    let both : x ≡ y = cc in
    sym (value-decimal found few) ∙ ap (digits_value 10) (sym is ∙ both ∙ are) ∙ value-decimal wanted small)

module _ (one : Instruction) (old : Received) (before : Kept) (source sink out : Change) where
  -- ---- `send`

  pub sent_performed : (new : Received) (after : Kept) (line id : List ℕ) → one.act ≡ Send line id
      → out.told_before ≡ out.told
      → Appends sink.told_before sink.told (command_frame line) → TakesAnswer id before after old new source
      → Performs (one ∷ []) old new before after source sink out
  sent_performed new after line id is prints sends t =
      performs_one one old new before after source sink out t.piece [] t.texts t.messages t.consumed t.takes t.wanted
      t.are
      (λ printed. subst (λ (a : Act). Does a (heard_of before printed) t.messages (heard_of after (printed ++ [])))
      (sym is)
      (subst (λ (l : List ℕ). Does (Send line id) (heard_of before printed) t.messages (heard_of after l))
      (sym (append-nil printed)) (t.answered printed)))
      (subst (Appends sink.told_before sink.told) (ap sent_by (sym is)) sends)
      (subst (λ (t : Option (List ℕ)). Appends out.told_before t []) prints (Appends-nil out.told_before))

  -- ---- what prints

  pub print_performed : one.act ≡ Print → source.told_before ≡ source.told → sink.told_before ≡ sink.told
      → Appends out.told_before out.told (printed_line before)
      → Performs (one ∷ []) old old before before source sink out
  print_performed is reads sends prints =
      performs_one one old old before before source sink out [] (printed_line before) [] []
      (subst (λ (t : Option (List ℕ)). Consumes source.told_before t []) reads (Consumes-nil source.told_before))
      (takes_none old) (inl refl) tt
      (λ printed. subst (λ (a : Act). Does a (heard_of before printed) []
      (heard_of before (printed ++ printed_line before))) (sym is) (
        tt,
        refl,
        λ i. record {
          last = before.last;
          output = before.output.items;
          printed = sym
              (append_assoc printed (written before.last.root) (codes "\n")) i;
        },
      ))
      (subst (λ (l : List ℕ). Appends sink.told_before sink.told l) (ap sent_by (sym is))
      (subst (λ (t : Option (List ℕ)). Appends sink.told_before t []) sends (Appends-nil sink.told_before)))
      prints

  -- ---- what expects

  module _ (reads : source.told_before ≡ source.told) (sends : sink.told_before ≡ sink.told)
      (prints : out.told_before ≡ out.told) where
    pub attr_performed : (name text : List ℕ) → one.act ≡ Attr name text
        → value_of before.last.root.attributes name ≡ Some text
        → Performs (one ∷ []) old old before before source sink out
    attr_performed name text is h =
        performs_quiet one old before before source sink out reads sends prints (ap sent_by is)
        (λ printed. subst (λ (a : Act). Does a (heard_of before printed) [] (heard_of before printed)) (sym is)
        (h, refl, refl))

    pub code_performed : (n : ℕ) → one.act ≡ Code n → code_in before.last.packet ≡ n
        → Performs (one ∷ []) old old before before source sink out
    code_performed n is h =
        performs_quiet one old before before source sink out reads sends prints (ap sent_by is)
        (λ printed. subst (λ (a : Act). Does a (heard_of before printed) [] (heard_of before printed)) (sym is)
        (ap (λ (m : ℕ). Some (decimal m)) h, refl, refl))

    pub prop_performed : (name text : List ℕ) → one.act ≡ Prop name text
        → content_in name before.last.packet ≡ Some text
        → Performs (one ∷ []) old old before before source sink out
    prop_performed name text is h =
        performs_quiet one old before before source sink out reads sends prints (ap sent_by is)
        (λ printed. subst (λ (a : Act). Does a (heard_of before printed) [] (heard_of before printed)) (sym is)
        (h, refl, refl))

    pub out_performed : (after : Kept) (text : List ℕ) → one.act ≡ Out text → before.output.items ≡ text
        → after.last ≡ before.last → after.output.items ≡ []
        → Performs (one ∷ []) old old before after source sink out
    out_performed after text is h last forgotten =
        performs_quiet one old before after source sink out reads sends prints (ap sent_by is)
        (λ printed. subst (λ (a : Act). Does a (heard_of before printed) [] (heard_of after printed)) (sym is)
        (ap (λ (l : List ℕ). Some l) h, refl, λ i. record { last = last i; output = forgotten i; printed = printed }))
