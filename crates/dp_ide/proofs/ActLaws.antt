-- What an instruction is spelt as, and that a line spells one at most.
use Rattle.std.proofs.Common.{◌≡◌, ◌≢◌, ◌⊎◌, inl, inr, ℕ, ◌<◌, true, false, eqb, List, [], ◌∷◌, ◌++◌, Option, Some, None, length, take, drop, codes, option_map, refl, sym, ap, ◌∙◌, subst, arith, length-take}
use Rattle.std.proofs.lemmas.Bool.{eqb-false, false≢true}
use Rattle.std.proofs.lemmas.List.{append_cancel_left, length-drop, take-append-drop, take_all}
use Rattle.dp_command.specs.declared.line.Line.{Line}
use Rattle.dp_command.specs.Grammar.{spelt}
use Rattle.dp_grammar.specs.Parts.{Part, Mark, ◌>>◌}
use Rattle.dp_command.specs.Letters as letter
use Rattle.dp_command.specs.Options.{given}
use Rattle.dp_reply.specs.Contents.{most_16}
use Rattle.dp_bytes.specs.Decimals.{decimal_in}
use Rattle.dp_wire.specs.Frames.{IsCommand, has_no_nul}
use Rattle.dp_wire.proofs.FrameLaws.{no_nul-at}
use Rattle.dp_ide.specs.declared.instruction.Act.{Act}
use Rattle.dp_ide.specs.declared.instruction.Act.TheVariants.{Send, Attr, Code, Prop, Out, Print}
use Rattle.dp_ide.specs.declared.instruction.Instruction.{Instruction}
use Rattle.dp_grammar.specs.Lines.{is_idle}
use Rattle.dp_ide.specs.Scripts.{ActLine, Behind, Command, Name, Number, Says}
use Rattle.dp_ide.specs.inner.Readers.{IsNamed, IsRun, Reads}
use Rattle.dp_ide.proofs.LineLaws.{Lacks, lacks_head, lacks_tail}

-- What is read by one rule is read by another, where the two fit at these bytes.
pub reads_as : {A B : Type 0} (rule : A → List ℕ → Type 0) (wider : B → List ℕ → Type 0) (make : A → B) (xs ys : List ℕ)
    → ((a : A) → rule a xs → wider (make a) ys) → ((b : B) → wider b ys → (a : A) × (b ≡ make a) × rule a xs)
    → (found : Option A) → Reads rule xs found → Reads wider ys (option_map make found)
reads_as rule wider make xs ys into from None none = λ b is. let f = from b is in none f.0 f.2
reads_as rule wider make xs ys into from (Some a) is =
    (into a is.0, λ b also. let f = from b also in f.1 ∙ ap make (is.1 f.0 f.2))

-- ---- behind a word

marked : (mark rest : List ℕ) (rule : Part ℕ) → rule rest → (Mark mark >> rule) (mark ++ rest)
marked mark rest rule is = record { front = mark; back = rest; whole = refl; first = refl; second = is }

unmarked : (mark rest : List ℕ) (rule : Part ℕ) → (Mark mark >> rule) (mark ++ rest) → rule rest
unmarked mark rest rule is =
    subst rule (append_cancel_left mark is.back rest (ap (λ l. l ++ is.back) (sym is.first) ∙ sym is.whole)) is.second

abbrev Begins : List ℕ → List ℕ → Type 0
Begins mark bytes = (rest : List ℕ) × (bytes ≡ mark ++ rest)

begun : (mark bytes : List ℕ) (rule : Part ℕ) → (Mark mark >> rule) bytes → Begins mark bytes
begun mark bytes rule is = (is.back, is.whole ∙ ap (λ l. l ++ is.back) is.first)

apart : (a b : ℕ) (xs ys : List ℕ) → eqb a b ≡ false → a ∷ xs ≡ b ∷ ys → ⊥
apart a b xs ys ne e = let same : a ≡ b = cc in eqb-false a b ne same

-- ---- each instruction by its word

-- the command that a `send` sends, by its id
abbrev pub Sent : List ℕ → List ℕ → Type 0
Sent id line = Command line id line

pub reads_send : (rest : List ℕ) (found : Option (List ℕ)) → Reads Sent rest found
    → Reads ActLine (codes "send " ++ rest) (option_map (λ id. Send rest id) found)
reads_send rest =
    reads_as Sent ActLine (λ id. Send rest id) rest (codes "send " ++ rest)
    (λ id h. marked (codes "send ") rest (Command rest id) h) from where
      from : (act : Act) → ActLine act (codes "send " ++ rest) → (id : List ℕ) × (act ≡ Send rest id) × Sent id rest
      from (Send line id) is =
          let c = unmarked (codes "send ") rest (Command line id) is in
          (id, (λ i. Send (sym c.same i) id), subst (λ (l : List ℕ). Command l id rest) (sym c.same) c)
      from (Attr name text) is = let b = begun (codes "attr ") _ _ is in absurd (apart 115 97 _ _ refl b.1)
      from (Code n) is = let b = begun (codes "code ") _ _ is in absurd (apart 115 99 _ _ refl b.1)
      from (Prop name text) is = let b = begun (codes "prop ") _ _ is in absurd (apart 115 112 _ _ refl b.1)
      from (Out text) is = let b = begun (codes "out") _ _ is in absurd (apart 115 111 _ _ refl b.1)
      from Print is = absurd (apart 115 112 _ _ refl is)

pub reads_attr : (rest : List ℕ) (found : Option (List ℕ × List ℕ)) → Reads IsNamed rest found
    → Reads ActLine (codes "attr " ++ rest) (option_map (λ n. Attr n.0 n.1) found)
reads_attr rest =
    reads_as IsNamed ActLine (λ n. Attr n.0 n.1) rest (codes "attr " ++ rest)
    (λ n h. marked (codes "attr ") rest (Name n.0 >> Behind n.1) h) from where
      from : (act : Act) → ActLine act (codes "attr " ++ rest)
          → (n : List ℕ × List ℕ) × (act ≡ Attr n.0 n.1) × IsNamed n rest
      from (Send line id) is = let b = begun (codes "send ") _ _ is in absurd (apart 97 115 _ _ refl b.1)
      from (Attr name text) is = ((name, text), refl, unmarked (codes "attr ") rest (Name name >> Behind text) is)
      from (Code n) is = let b = begun (codes "code ") _ _ is in absurd (apart 97 99 _ _ refl b.1)
      from (Prop name text) is = let b = begun (codes "prop ") _ _ is in absurd (apart 97 112 _ _ refl b.1)
      from (Out text) is = let b = begun (codes "out") _ _ is in absurd (apart 97 111 _ _ refl b.1)
      from Print is = absurd (apart 97 112 _ _ refl is)

pub reads_code : (rest : List ℕ) (found : Option ℕ) → Reads Number rest found
    → Reads ActLine (codes "code " ++ rest) (option_map Code found)
reads_code rest =
    reads_as Number ActLine Code rest (codes "code " ++ rest)
    (λ n h. marked (codes "code ") rest (Number n) h) from where
      from : (act : Act) → ActLine act (codes "code " ++ rest) → (n : ℕ) × (act ≡ Code n) × Number n rest
      from (Send line id) is = let b = begun (codes "send ") _ _ is in absurd (apart 99 115 _ _ refl b.1)
      from (Attr name text) is = let b = begun (codes "attr ") _ _ is in absurd (apart 99 97 _ _ refl b.1)
      from (Code n) is = (n, refl, unmarked (codes "code ") rest (Number n) is)
      from (Prop name text) is = let b = begun (codes "prop ") _ _ is in absurd (apart 99 112 _ _ refl b.1)
      from (Out text) is = let b = begun (codes "out") _ _ is in absurd (apart 99 111 _ _ refl b.1)
      from Print is = absurd (apart 99 112 _ _ refl is)

pub reads_prop : (rest : List ℕ) (found : Option (List ℕ × List ℕ)) → Reads IsNamed rest found
    → Reads ActLine (codes "prop " ++ rest) (option_map (λ n. Prop n.0 n.1) found)
reads_prop rest =
    reads_as IsNamed ActLine (λ n. Prop n.0 n.1) rest (codes "prop " ++ rest)
    (λ n h. marked (codes "prop ") rest (Name n.0 >> Behind n.1) h) from where
      from : (act : Act) → ActLine act (codes "prop " ++ rest)
          → (n : List ℕ × List ℕ) × (act ≡ Prop n.0 n.1) × IsNamed n rest
      from (Send line id) is = let b = begun (codes "send ") _ _ is in absurd (apart 112 115 _ _ refl b.1)
      from (Attr name text) is = let b = begun (codes "attr ") _ _ is in absurd (apart 112 97 _ _ refl b.1)
      from (Code n) is = let b = begun (codes "code ") _ _ is in absurd (apart 112 99 _ _ refl b.1)
      from (Prop name text) is = ((name, text), refl, unmarked (codes "prop ") rest (Name name >> Behind text) is)
      from (Out text) is = let b = begun (codes "out") _ _ is in absurd (apart 112 111 _ _ refl b.1)
      from Print is = absurd (apart 111 105 _ _ refl (ap (drop 2) is))

pub reads_out : (rest : List ℕ) (found : Option (List ℕ)) → Reads Behind rest found
    → Reads ActLine (codes "out" ++ rest) (option_map Out found)
reads_out rest =
    reads_as Behind ActLine Out rest (codes "out" ++ rest)
    (λ text h. marked (codes "out") rest (Behind text) h) from where
      from : (act : Act) → ActLine act (codes "out" ++ rest) → (text : List ℕ) × (act ≡ Out text) × Behind text rest
      from (Send line id) is = let b = begun (codes "send ") _ _ is in absurd (apart 111 115 _ _ refl b.1)
      from (Attr name text) is = let b = begun (codes "attr ") _ _ is in absurd (apart 111 97 _ _ refl b.1)
      from (Code n) is = let b = begun (codes "code ") _ _ is in absurd (apart 111 99 _ _ refl b.1)
      from (Prop name text) is = let b = begun (codes "prop ") _ _ is in absurd (apart 111 112 _ _ refl b.1)
      from (Out text) is = (text, refl, unmarked (codes "out") rest (Behind text) is)
      from Print is = absurd (apart 111 112 _ _ refl is)

pub reads_print : (line : List ℕ) → line ≡ codes "print" → Reads ActLine line (Some Print)
reads_print line same = (same, alone) where
  alone : (other : Act) → ActLine other line → other ≡ Print
  alone Print is = refl
  alone (Send l id) is = let b = begun (codes "send ") _ _ is in absurd (apart 112 115 _ _ refl (sym same ∙ b.1))
  alone (Attr name text) is = let b = begun (codes "attr ") _ _ is in absurd (apart 112 97 _ _ refl (sym same ∙ b.1))
  alone (Code n) is = let b = begun (codes "code ") _ _ is in absurd (apart 112 99 _ _ refl (sym same ∙ b.1))
  alone (Prop name text) is =
      let b = begun (codes "prop ") _ _ is in absurd (apart 105 111 _ _ refl (ap (drop 2) (sym same ∙ b.1)))
  alone (Out text) is = let b = begun (codes "out") _ _ is in absurd (apart 112 111 _ _ refl (sym same ∙ b.1))

abbrev Lacked : List ℕ → List ℕ → Type 0
Lacked mark bytes = (rest : List ℕ) → bytes ≢ mark ++ rest

pub reads_nothing : (line : List ℕ) → Lacked (codes "send ") line → Lacked (codes "attr ") line
    → Lacked (codes "code ") line → Lacked (codes "prop ") line → line ≢ codes "print" → Lacked (codes "out") line
    → Reads ActLine line None
reads_nothing line s a c p print o = no where
  no : (act : Act) → ActLine act line → ⊥
  no (Send l id) is = let b = begun (codes "send ") _ _ is in s b.0 b.1
  no (Attr name text) is = let b = begun (codes "attr ") _ _ is in a b.0 b.1
  no (Code n) is = let b = begun (codes "code ") _ _ is in c b.0 b.1
  no (Prop name text) is = let b = begun (codes "prop ") _ _ is in p b.0 b.1
  no (Out text) is = let b = begun (codes "out") _ _ is in o b.0 b.1
  no Print is = print is

-- ---- a name and a text

abbrev StopsAt : ℕ → List ℕ → Type 0
StopsAt mark bytes = (bytes ≡ []) ⊎ ((rest : List ℕ) × (bytes ≡ mark ∷ rest))

meets : (mark c : ℕ) (cs back : List ℕ) → StopsAt mark back → Lacks mark (c ∷ cs) → (more : List ℕ) → back ≡ c ∷ more
    → ⊥
meets mark c cs back (inl none) lacks more same = let both : [] ≡ c ∷ more = sym none ∙ same in cc
meets mark c cs back (inr (rest, is)) lacks more same =
    let both : mark ∷ rest ≡ c ∷ more = sym is ∙ same in
    let is_mark : c ≡ mark = cc in
    eqb-false c mark (lacks_head mark c cs lacks) is_mark

-- what stands before the first of a kind is one
runs_meet : (mark : ℕ) (one other back rest : List ℕ) → Lacks mark one → Lacks mark other → StopsAt mark back
    → StopsAt mark rest → one ++ back ≡ other ++ rest → (one ≡ other) × (back ≡ rest)
runs_meet mark [] [] back rest p q s t e = (refl, e)
runs_meet mark [] (c ∷ cs) back rest p q s t e = absurd (meets mark c cs back s q (cs ++ rest) e)
runs_meet mark (b ∷ bs) [] back rest p q s t e = absurd (meets mark b bs rest t p (bs ++ back) (sym e))
runs_meet mark (b ∷ bs) (c ∷ cs) back rest p q s t e =
    let head : b ≡ c = cc in
    let tail : bs ++ back ≡ cs ++ rest = cc in
    let more = runs_meet mark bs cs back rest (lacks_tail mark b bs p) (lacks_tail mark c cs q) s t tail in
    (λ i. head i ∷ more.0 i, more.1)

behind_stops : (text back : List ℕ) → Behind text back → StopsAt 32 back
behind_stops text back (inl (none, same)) = inl same
behind_stops text back (inr is) = inr (is.back, is.whole ∙ ap (λ l. l ++ is.back) is.first)

module _ (bytes : List ℕ) (n : ℕ) (run : IsRun 32 bytes n) where
  split : bytes ≡ take n bytes ++ drop n bytes
  split = sym (take-append-drop n bytes)

  into : 0 < n → (text : List ℕ) → Behind text (drop n bytes) → IsNamed (take n bytes, text) bytes
  into some text is = record {
    front = take n bytes;
    back = drop n bytes;
    whole = split;
    first =
        record { same = refl; some_byte = omega (arith, some, run.within, length-take n bytes); whole = run.before };
    second = is;
  }

  meet : (named : List ℕ × List ℕ) (is : IsNamed named bytes) → (take n bytes ≡ is.front) × (drop n bytes ≡ is.back)
  meet named is =
      runs_meet 32 (take n bytes) is.front (drop n bytes) is.back run.before
      (subst (Lacks 32) (sym is.first.same) is.first.whole) run.stops (behind_stops named.1 is.back is.second)
      (sym split ∙ is.whole)

  from : (named : List ℕ × List ℕ) → IsNamed named bytes
      → (text : List ℕ) × (named ≡ (take n bytes, text)) × Behind text (drop n bytes)
  from named is =
      let same = meet named is in
      (named.1, (λ i. (sym (same.0 ∙ is.first.same) i, named.1)), subst (Behind named.1) (sym same.1) is.second)

  pub reads_named : 0 < n → (found : Option (List ℕ)) → Reads Behind (drop n bytes) found
      → Reads IsNamed bytes (option_map (λ (text : List ℕ). (take n bytes, text)) found)
  reads_named some found is =
      reads_as Behind IsNamed (λ text. (take n bytes, text)) (drop n bytes) bytes (into some) from found is

  pub reads_unnamed : n ≡ 0 → Reads IsNamed bytes None
  reads_unnamed none = λ named is.
      let same = meet named is in
      absurd (omega (arith, none, length-take n bytes, ap length same.0, ap length is.first.same, is.first.some_byte))

-- ---- a number

pub reads_number : (rest : List ℕ) (found : Option ℕ) → found ≡ decimal_in most_16 rest
    → Reads ActLine (codes "code " ++ rest) (option_map Code found)
reads_number rest found same = reads_code rest found (by found same) where
  by : (found : Option ℕ) → found ≡ decimal_in most_16 rest → Reads Number rest found
  by None same = λ n is. let both : None ≡ Some n = same ∙ is in cc
  by (Some n) same = (sym same, λ m is. let both : Some n ≡ Some m = same ∙ is in cc)

-- ---- a command

pub run_no_nul : (line : List ℕ) (n : ℕ) → IsRun 0 line n → n ≡ length line → has_no_nul line ≡ true
run_no_nul line n run all =
    subst (λ (l : List ℕ). has_no_nul l ≡ true) (take_all n line (omega (arith, all))) run.before

pub run_all : (line : List ℕ) (n : ℕ) → IsRun 0 line n → has_no_nul line ≡ true → n ≡ length line
run_all line n run none = stop run.stops where
  stop : (drop n line ≡ []) ⊎ ((rest : List ℕ) × (drop n line ≡ 0 ∷ rest)) → n ≡ length line
  stop (inl end) = omega (arith, run.within, ap length end, length-drop n line)
  stop (inr (rest, is)) =
      absurd (no_nul-at (take n line) rest (subst (λ (l : List ℕ). has_no_nul l ≡ true)
      (sym (take-append-drop n line) ∙ ap (λ l. take n line ++ l) is) none))

module _ (line : List ℕ) where
  pub no_command : (IsCommand line → ⊥) → Reads Sent line None
  no_command none = λ id is. none is.is_command

  pub no_line : ((parts : Line) → spelt line parts → ⊥) → Reads Sent line None
  no_line none = λ id is. none is.parts is.is_spelt

  module _ (parts : Line) (only : (other : Line) → spelt line other → other ≡ parts) where
    its_id : (id : List ℕ) → Sent id line → given letter.i parts.options ≡ Some id
    its_id id is = ap (λ (p : Line). given letter.i p.options) (sym (only is.parts is.is_spelt)) ∙ is.asks

    pub no_id : given letter.i parts.options ≡ None → Reads Sent line None
    no_id none = λ id is. let both : None ≡ Some id = sym none ∙ its_id id is in cc

    pub reads_command : (id : List ℕ) → IsCommand line → spelt line parts → given letter.i parts.options ≡ Some id
        → Reads Sent line (Some id)
    reads_command id is spells asks = (
      record { same = refl; is_command = is; parts = parts; is_spelt = spells; asks = asks },
      λ other h. let both : Some id ≡ Some other = sym asks ∙ its_id other h in cc,
    )

-- ---- answers

-- a line that does nothing asks for nothing
begins_idle : (b : ℕ) (bs line : List ℕ) → eqb b 35 ≡ false → line ≡ b ∷ bs → is_idle line ≡ true → ⊥
begins_idle b bs line other same idle = false≢true (sym other ∙ subst (λ (l : List ℕ). is_idle l ≡ true) same idle)

act_not_idle : (act : Act) (line : List ℕ) → ActLine act line → is_idle line ≡ true → ⊥
act_not_idle (Send l id) line is = let b = begun (codes "send ") _ _ is in begins_idle 115 _ line refl b.1
act_not_idle (Attr name text) line is = let b = begun (codes "attr ") _ _ is in begins_idle 97 _ line refl b.1
act_not_idle (Code n) line is = let b = begun (codes "code ") _ _ is in begins_idle 99 _ line refl b.1
act_not_idle (Prop name text) line is = let b = begun (codes "prop ") _ _ is in begins_idle 112 _ line refl b.1
act_not_idle (Out text) line is = let b = begun (codes "out") _ _ is in begins_idle 111 _ line refl b.1
act_not_idle Print line is = begins_idle 112 _ line refl is

pub idle_alone : (number : ℕ) (line : List ℕ) → is_idle line ≡ true → (other : List Instruction)
    → Says number line other → other ≡ []
idle_alone number line idle [] says = refl
idle_alone number line idle (one ∷ []) says = absurd (act_not_idle one.act line says.1 idle)
idle_alone number line idle (one ∷ more ∷ others) says = absurd says
