-- How a command and the words behind it are read.
use Rattle.std.proofs.Common.{◌≡◌, ℕ, suc, ◌≤◌, Bool, true, false, ◌&&◌, not, List, [], ◌∷◌, ◌++◌, length, Option, Some, None, refl, sym, ap, ap₂, subst, ◌∙◌, arith, codes, append_assoc, append-nil}
use Rattle.std.specs.Prelude.{if◌then◌else◌, fold, option_and_then, nat_lt, ◌==◌}
use Rattle.std.specs.List.{list_all}
use Rattle.std.specs.Option.{option_map_or}
use Rattle.std.specs.Str.{bytes_eq}
use Rattle.clap.specs.Lexer.{long_of, long_of_rest, short_of, short_of_rest, strip_byte}
use Rattle.clap.specs.Simple.{Shape, built_leaf, inherited}
use Rattle.clap.specs.Kinds.{Kinds, or_else, range_kinds, values_kinds}
use Rattle.clap.specs.declared.error.kind.ErrorKind.TheVariants as kind
use Rattle.clap.specs.declared.builder.value_parser.ValueParser.TheVariants as vp
use Rattle.std.proofs.lemmas.Bool.Decides.{nat_tests}
use Rattle.clap.specs.Faults.{level_fault, walk_fault, turn_fault, other_fault, flag_word_fault, bundle_fault, step_fault, settle_fault, defaults_fault, check_fault}
use Rattle.clap.specs.Walk.{Held, Row, Rule, Text, Waiting, Walk, Step, idle, option, positional, value, walked, walk, nothing_held, after_step, arg_by_index, plain_word, subcommand_or_other, long_or_other, short_or_plain, to_positional, trailing, rows_after, settled, finished}
use Rattle.clap.proofs.OnLiterals.{clap_on_literals}
use Rattle.dp_words.specs.Plain.{is_plain}
use Rattle.dp_words.specs.inner.Given.{bound_rows, bounded, row, word_rows}
use Rattle.dp_words.specs.inner.Shapes.{engine_words, ide_words, plain_row, program_row, proxy_words, replay_words, soak_words, talk_words, top}

-- ---- words that are plain

pub both : (a b : Bool) → (a && b) ≡ true → (a ≡ true) × (b ≡ true)
both false b h = absurd cc
both true b h = (refl, h)

pub record Plain (word : Text) : Type 0 where
  pub no_long : long_of word ≡ None
  pub no_short : short_of word ≡ None
  pub no_dashes : bytes_eq word (45 ∷ 45 ∷ []) ≡ false

pub plain_is : (word : Text) → is_plain word ≡ true → Plain word
plain_is [] h = absurd cc
plain_is (b ∷ bs) h = by (b == 45) refl h where
  by : (t : Bool) → (b == 45) ≡ t → not t ≡ true → Plain (b ∷ bs)
  by true e n = absurd cc
  by false e n = record {
    no_long =
        ap (λ (t : Bool). option_and_then long_of_rest (option_and_then (strip_byte 45) (if t then Some bs else
        None)))
        e;
    no_short = ap (λ (t : Bool). option_and_then short_of_rest (if t then Some bs else None)) e;
    no_dashes = ap (λ (t : Bool). t && bytes_eq bs (45 ∷ [])) e;
  }

-- ---- the built command

abbrev pub above : Shape
above = record top { is_leaf = false; is_built = true }

abbrev pub leaf : Shape → Shape
leaf s = built_leaf (inherited above s)

-- ---- a word

abbrev pub at : ℕ → List Row → Option (Text × List Text) → Waiting → Walk
at position rows pending waiting = record {
  held = record { rows = rows; pending = pending; skip = 0 };
  waiting = waiting;
  position = position;
  is_trailing = false;
  stopped = None;
}

-- a plain word
pub met : (c : List Rule) (waiting : Waiting) (position : ℕ) (word : Text) (h : Held) → Plain word
    → subcommand_or_other c None waiting position word h ≡ plain_word c waiting word h
met c waiting position word h p =
    ap (λ (t : Bool). if t then (h, trailing position) else long_or_other c waiting word (long_of word) h) p.no_dashes
    ∙ ap (λ (l : Option (Text × Option Text)). long_or_other c waiting word l h) p.no_long
    ∙ ap (λ (s : Option Text). short_or_plain c waiting word s h) p.no_short

-- a plain word is no flag
pub no_flag : (s : Shape) (word : Text) (h : Held) → Plain word → other_fault s None word h ≡ []
no_flag s word h p =
    ap (λ (t : Bool). if t then [] else flag_word_fault s.rules s.args_override_self (long_of word) word h)
    p.no_dashes
    ∙ ap (λ (l : Option (Text × Option Text)). flag_word_fault s.rules s.args_override_self l word h) p.no_long
    ∙ ap (λ (f : Option Text). option_map_or (λ flags. bundle_fault s.rules s.args_override_self flags h) f [])
    p.no_short

abbrev pub by_met : List Rule → Text → Walk → Held × Step → Walk
by_met c word w m = after_step c word w m.0 m.1

abbrev pub fault_met : Shape → ℕ → Held × Step → Kinds
fault_met s position m = step_fault s position m.0 m.1

-- from one walk these words lead to another, and none of them is refused
pub record Passes (s : Shape) (w : Walk) (words : List Text) (end : Walk) : Type 0 where
  pub walks : fold (walked s.rules []) w words ≡ end
  pub taken : walk_fault s [] w words ≡ []

pub passed : (s : Shape) (w : Walk) → Passes s w [] w
unfolding walk_fault
passed s w = record { walks = refl; taken = refl }

-- a plain word goes to the positional whose turn it is, where nothing waits for a value
pub pass_idle : (s : Shape) (position : ℕ) (rows : List Row) (pending : Option (Text × List Text)) (word : Text)
    (next : Walk) → is_plain word ≡ true
    → to_positional s.rules (arg_by_index s.rules position) word (at position rows pending idle)
    (at position rows pending idle).held ≡ next
    → step_fault s position (at position rows pending idle).held value ≡ []
    → (words : List Text) (end : Walk) → Passes s next words end
    → Passes s (at position rows pending idle) (word ∷ words) end
unfolding walked walk_fault
pass_idle s position rows pending word next plain goes fine words end rest =
    let w = at position rows pending idle in
    let p = plain_is word plain in
    let step : walked s.rules [] w word ≡ next = ap (by_met s.rules word w)
    (met s.rules idle position word w.held p) ∙ goes in
    record {
      walks = ap (λ (x : Walk). fold (walked s.rules []) x words) step ∙ rest.walks;
      taken = ap₂ or_else
          (ap₂ or_else (no_flag s word w.held p) (ap (fault_met s position) (met s.rules idle position word w.held p)
          ∙ fine))
          (ap (λ (x : Walk). walk_fault s [] x words) step ∙ rest.taken);
    }

-- likewise where the last positional takes more
pub pass_more : (s : Shape) (position : ℕ) (rows : List Row) (pending : Option (Text × List Text)) (word : Text)
    (next : Walk) → is_plain word ≡ true
    → to_positional s.rules (arg_by_index s.rules position) word (at position rows pending positional)
    (at position rows pending positional).held ≡ next
    → step_fault s position (at position rows pending positional).held value ≡ []
    → (words : List Text) (end : Walk) → Passes s next words end
    → Passes s (at position rows pending positional) (word ∷ words) end
unfolding walked walk_fault
pass_more s position rows pending word next plain goes fine words end rest =
    let w = at position rows pending positional in
    let p = plain_is word plain in
    let step : walked s.rules [] w word ≡ next = ap (by_met s.rules word w)
    (met s.rules positional position word w.held p) ∙ goes in
    record {
      walks = ap (λ (x : Walk). fold (walked s.rules []) x words) step ∙ rest.walks;
      taken = ap₂ or_else
          (ap₂ or_else (no_flag s word w.held p) (ap (fault_met s position) (met s.rules positional position word
          w.held
          p) ∙ fine))
          (ap (λ (x : Walk). walk_fault s [] x words) step ∙ rest.taken);
    }

abbrev pub begun : Option Text → Walk
begun None = at 1 [] None idle
begun (Some number) = at 1 [] (Some (codes "bound", number ∷ [])) idle

-- ---- a bound

abbrev pub P : Text → List Text → Shape
P name ids = leaf (program_row name ids)

pub flag_walk : (name : Text) (ids : List Text)
    → walked (P name ids).rules [] (begun None) (codes "--bound")
    ≡ at 1 [] (Some (codes "bound", [])) (option (codes "bound"))
unfolding clap_on_literals
flag_walk name ids = refl

pub flag_taken : (name : Text) (ids : List Text) → turn_fault (P name ids) [] (begun None) (codes "--bound") ≡ []
unfolding clap_on_literals
flag_taken name ids = refl

pub number_walk : (name : Text) (ids : List Text) (n : Text) → Plain n
    → walked (P name ids).rules [] (at 1 [] (Some (codes "bound", [])) (option (codes "bound"))) n ≡ begun (Some n)
unfolding walked
number_walk name ids n p =
    let w = at 1 [] (Some (codes "bound", [])) (option (codes "bound")) in
    ap (by_met (P name ids).rules n w) (met (P name ids).rules (option (codes "bound")) 1 n w.held p)

pub number_taken : (name : Text) (ids : List Text) (n : Text) → Plain n
    → turn_fault (P name ids) [] (at 1 [] (Some (codes "bound", [])) (option (codes "bound"))) n ≡ []
number_taken name ids n p =
    let w = at 1 [] (Some (codes "bound", [])) (option (codes "bound")) in
    ap₂ or_else (no_flag (P name ids) n w.held p)
    (ap (fault_met (P name ids) 1) (met (P name ids).rules (option (codes "bound")) 1 n w.held p))

-- a bound that is plain, if there is one
abbrev pub is_plain_bound : Option Text → Bool
is_plain_bound None = true
is_plain_bound (Some number) = is_plain number

pub pass_bound : (name : Text) (ids : List Text) (bound : Option Text) (words : List Text) (end : Walk)
    → is_plain_bound bound ≡ true → Passes (P name ids) (begun bound) words end
    → Passes (P name ids) (begun None) (bounded bound words) end
unfolding walk_fault
pass_bound name ids None words end plain rest = rest
pass_bound name ids (Some n) words end plain rest =
    let p = plain_is n plain in record {
      walks = ap (λ (x : Walk). fold (walked (P name ids).rules []) x (n ∷ words)) (flag_walk name ids)
          ∙ ap (λ (x : Walk). fold (walked (P name ids).rules []) x words) (number_walk name ids n p) ∙ rest.walks;
      taken = ap₂ or_else (flag_taken name ids)
          (ap (λ (x : Walk). walk_fault (P name ids) [] x (n ∷ words)) (flag_walk name ids)
          ∙ ap₂ or_else (number_taken name ids n p)
          (ap (λ (x : Walk). walk_fault (P name ids) [] x words) (number_walk name ids n p) ∙ rest.taken));
    }

-- ---- behind the walk

-- what is wrong once the walk has come to its end
abbrev pub tail_fault : Shape → Held → Kinds
tail_fault s e =
    or_else (settle_fault s.rules s.args_override_self e)
    (or_else (defaults_fault (settled s.rules e).rows s.rules) (check_fault s (finished s.rules e) false))

abbrev pub fault : Shape → List Text → Kinds
fault s words = level_fault s [] nothing_held words false []

pub level : (s : Shape) (words : List Text) (end : Walk) (kinds : Kinds) → Passes s (begun None) words end
    → tail_fault s end.held ≡ kinds → fault s words ≡ kinds
level s words end kinds p tail = ap₂ or_else p.taken (ap (λ (x : Walk). tail_fault s x.held) p.walks ∙ tail)

pub rows_at_end : (s : Shape) (words : List Text) (end : Walk) → Passes s (begun None) words end
    → rows_after s.rules [] words ≡ finished s.rules end.held
rows_at_end s words end p = ap (λ (x : Walk). finished s.rules x.held) p.walks

abbrev pub wanting : Kinds
wanting = kind.MissingRequiredArgument ∷ []

abbrev pub too_many : Kinds
too_many = kind.TooManyValues ∷ []

pub accepted : (vs : List Text) → values_kinds false vp.String vs ≡ []
accepted [] = refl
accepted (v ∷ vs) = accepted vs

abbrev in_range : Bool → Bool → Bool → Kinds
in_range no_value too_few too_many =
    if no_value then kind.InvalidValue ∷ []
    else (if too_few then kind.TooFewValues ∷ [] else (if too_many then kind.TooManyValues ∷ [] else []))

-- as many files as a program may have, and more
pub few : (n : ℕ) → suc n ≤ 64 → range_kinds 1 64 (suc n) ≡ []
few n small =
    let some : (suc n == 0) ≡ false = grind (arith, nat_tests) in
    let enough : nat_lt (suc n) 1 ≡ false = grind (arith, nat_tests) in
    let no_more : nat_lt 64 (suc n) ≡ false = grind (arith, nat_tests) in
    λ i. in_range (some i) (enough i) (no_more i)

pub many : (n : ℕ) → 65 ≤ suc n → range_kinds 1 64 (suc n) ≡ too_many
many n large =
    let some : (suc n == 0) ≡ false = grind (arith, nat_tests) in
    let enough : nat_lt (suc n) 1 ≡ false = grind (arith, nat_tests) in
    let more : nat_lt 64 (suc n) ≡ true = grind (arith, nat_tests) in
    λ i. in_range (some i) (enough i) (more i)

-- ---- the files of a program

abbrev pub files : ℕ → List Row → List Text → Walk
files position rows fs = at position rows (Some (codes "FILE", fs)) positional

-- a place at which a command takes its files
pub record TakesFiles (s : Shape) (position : ℕ) (rows : List Row) : Type 0 where
  pub goes : (fs : List Text) (f : Text)
      → to_positional s.rules (arg_by_index s.rules position) f (files position rows fs)
      (files position rows fs).held ≡ files position rows (fs ++ f ∷ [])
  pub fine : (fs : List Text) → step_fault s position (files position rows fs).held value ≡ []
  pub fits : (f : Text) (fs : List Text) (kinds : Kinds) → range_kinds 1 64 (suc (length fs)) ≡ kinds
      → tail_fault s (files position rows (f ∷ fs)).held ≡ kinds
  pub found : (f : Text) (fs : List Text)
      → finished s.rules (files position rows (f ∷ fs)).held ≡ rows ++ row (codes "FILE") (f ∷ fs) ∷ []

pub more_files : (s : Shape) (position : ℕ) (rows : List Row) → TakesFiles s position rows → (fs more : List Text)
    → list_all is_plain more ≡ true → Passes s (files position rows fs) more (files position rows (fs ++ more))
more_files s position rows t fs [] h =
    record {
      walks = ap (files position rows) (sym (append-nil fs));
      taken = (passed s (files position rows
          fs)).taken;
    }
more_files s position rows t fs (f ∷ more) h =
    let parts = both (is_plain f) (list_all is_plain more) h in
    let rest = more_files s position rows t (fs ++ f ∷ []) more parts.1 in
    pass_more s position rows (Some (codes "FILE", fs)) f (files position rows (fs ++ f ∷ [])) parts.0
    (t.goes fs f) (t.fine fs) more (files position rows (fs ++ f ∷ more))
    (record { walks = rest.walks ∙ ap (files position rows) (append_assoc fs (f ∷ []) more); taken = rest.taken })

last_of : (kinds : Kinds) (f : Text) (fs : List Text)
    → or_else (or_else kinds (values_kinds false vp.String (f ∷ fs))) [] ≡ kinds
last_of [] f fs = ap (λ (k : Kinds). or_else k []) (accepted (f ∷ fs))
last_of (k ∷ ks) f fs = refl

-- ---- `run`

abbrev pub run_rows : Option Text → List Row
run_rows bound = bound_rows bound ++ word_rows [] []

pub run_takes : (name : Text) (bound : Option Text) → TakesFiles (P name []) 1 (run_rows bound)
unfolding defaults_fault
run_takes name None = record {
  goes = λ fs f. refl;
  fine = λ fs. refl;
  fits = λ f fs kinds is. ap (λ (k : Kinds). or_else (or_else k (values_kinds false vp.String (f ∷ fs))) []) is
      ∙ last_of kinds f fs;
  found = λ f fs. refl;
}
run_takes name (Some n) = record {
  goes = λ fs f. refl;
  fine = λ fs. refl;
  fits = λ f fs kinds is. ap (λ (k : Kinds). or_else (or_else k (values_kinds false vp.String (f ∷ fs))) []) is
      ∙ last_of kinds f fs;
  found = λ f fs. refl;
}

pub run_read : (name : Text) (bound : Option Text) (f : Text) (fs : List Text) → is_plain f ≡ true
    → list_all is_plain fs ≡ true
    → Passes (P name []) (begun bound) (f ∷ fs) (files 1 (run_rows bound) (f ∷ fs))
run_read name None f fs hf hs =
    pass_idle (P name []) 1 _ _ f _ hf refl refl _ _
    (more_files (P name []) 1 _ (run_takes name None) (f ∷ []) fs hs)
run_read name (Some n) f fs hf hs =
    pass_idle (P name []) 1 _ _ f _ hf refl refl _ _
    (more_files (P name []) 1 _ (run_takes name (Some n)) (f ∷ []) fs hs)

pub run_lacks_1 : (name : Text) (bound : Option Text) → is_plain_bound bound ≡ true
    → fault (P name []) (bounded bound ([])) ≡ wanting
unfolding defaults_fault
run_lacks_1 name None plain =
    level (P name []) (bounded None ([])) _ wanting (pass_bound name [] None ([]) _ plain
    (passed (P name []) _)) refl
run_lacks_1 name (Some n) plain =
    level (P name []) (bounded (Some n) ([])) _ wanting (pass_bound name [] (Some n) ([]) _ plain
    (passed (P name []) _)) refl

-- ---- `talk`

abbrev pub talk_rows : Option Text → Text → List Row
talk_rows bound k = bound_rows bound ++ word_rows talk_words (k ∷ [])

pub talk_takes : (name : Text) (bound : Option Text) (k : Text) → TakesFiles (P name talk_words) 2 (talk_rows bound k)
unfolding defaults_fault
talk_takes name None k = record {
  goes = λ fs f. refl;
  fine = λ fs. refl;
  fits = λ f fs kinds is. ap (λ (k : Kinds). or_else (or_else k (values_kinds false vp.String (f ∷ fs))) []) is
      ∙ last_of kinds f fs;
  found = λ f fs. refl;
}
talk_takes name (Some n) k = record {
  goes = λ fs f. refl;
  fine = λ fs. refl;
  fits = λ f fs kinds is. ap (λ (k : Kinds). or_else (or_else k (values_kinds false vp.String (f ∷ fs))) []) is
      ∙ last_of kinds f fs;
  found = λ f fs. refl;
}

pub talk_read : (name : Text) (bound : Option Text) (k : Text) (f : Text) (fs : List Text)
    → is_plain k ≡ true → is_plain f ≡ true
    → list_all is_plain fs ≡ true
    → Passes (P name talk_words) (begun bound) (k ∷ f ∷ fs) (files 2 (talk_rows bound k) (f ∷ fs))
talk_read name None k f fs hk hf hs =
    pass_idle (P name talk_words) 1 _ _ k _ hk refl refl _ _
    (pass_idle (P name talk_words) 2 _ _ f _ hf refl refl _ _
    (more_files (P name talk_words) 2 _ (talk_takes name None k) (f ∷ []) fs hs))
talk_read name (Some n) k f fs hk hf hs =
    pass_idle (P name talk_words) 1 _ _ k _ hk refl refl _ _
    (pass_idle (P name talk_words) 2 _ _ f _ hf refl refl _ _
    (more_files (P name talk_words) 2 _ (talk_takes name (Some n) k) (f ∷ []) fs hs))

pub talk_lacks_2 : (name : Text) (bound : Option Text) → is_plain_bound bound ≡ true
    → fault (P name talk_words) (bounded bound ([])) ≡ wanting
unfolding defaults_fault
talk_lacks_2 name None plain =
    level (P name talk_words) (bounded None ([])) _ wanting (pass_bound name talk_words None ([]) _ plain
    (passed (P name talk_words) _)) refl
talk_lacks_2 name (Some n) plain =
    level (P name talk_words) (bounded (Some n) ([])) _ wanting (pass_bound name talk_words (Some n) ([]) _ plain
    (passed (P name talk_words) _)) refl

pub talk_lacks_1 : (name : Text) (bound : Option Text) (k : Text) → is_plain_bound bound ≡ true → is_plain k ≡ true
    → fault (P name talk_words) (bounded bound (k ∷ [])) ≡ wanting
unfolding defaults_fault
talk_lacks_1 name None k plain hk =
    level (P name talk_words) (bounded None (k ∷ [])) _ wanting (pass_bound name talk_words None (k ∷ []) _ plain
    (pass_idle (P name talk_words) 1 _ _ k _ hk refl refl _ _ (passed (P name talk_words) _))) refl
talk_lacks_1 name (Some n) k plain hk =
    level (P name talk_words) (bounded (Some n) (k ∷ [])) _ wanting
    (pass_bound name talk_words (Some n) (k ∷ []) _ plain
    (pass_idle (P name talk_words) 1 _ _ k _ hk refl refl _ _ (passed (P name talk_words) _))) refl

-- ---- `engine`

abbrev pub engine_rows : Option Text → Text → Text → Text → List Row
engine_rows bound h p k = bound_rows bound ++ word_rows engine_words (h ∷ p ∷ k ∷ [])

pub engine_takes : (name : Text) (bound : Option Text) (h p k : Text) → TakesFiles (P name engine_words) 4
    (engine_rows bound h p k)
unfolding defaults_fault
engine_takes name None h p k = record {
  goes = λ fs f. refl;
  fine = λ fs. refl;
  fits = λ f fs kinds is. ap (λ (k : Kinds). or_else (or_else k (values_kinds false vp.String (f ∷ fs))) []) is
      ∙ last_of kinds f fs;
  found = λ f fs. refl;
}
engine_takes name (Some n) h p k = record {
  goes = λ fs f. refl;
  fine = λ fs. refl;
  fits = λ f fs kinds is. ap (λ (k : Kinds). or_else (or_else k (values_kinds false vp.String (f ∷ fs))) []) is
      ∙ last_of kinds f fs;
  found = λ f fs. refl;
}

pub engine_read : (name : Text) (bound : Option Text) (h p k : Text) (f : Text) (fs : List Text)
    → is_plain h ≡ true → is_plain p ≡ true → is_plain k ≡ true → is_plain f ≡ true
    → list_all is_plain fs ≡ true
    → Passes (P name engine_words) (begun bound) (h ∷ p ∷ k ∷ f ∷ fs) (files 4 (engine_rows bound h p k) (f ∷ fs))
engine_read name None h p k f fs hh hp hk hf hs =
    pass_idle (P name engine_words) 1 _ _ h _ hh refl refl _ _
    (pass_idle (P name engine_words) 2 _ _ p _ hp refl refl _ _
    (pass_idle (P name engine_words) 3 _ _ k _ hk refl refl _ _
    (pass_idle (P name engine_words) 4 _ _ f _ hf refl refl _ _
    (more_files (P name engine_words) 4 _ (engine_takes name None h p k) (f ∷ []) fs hs))))
engine_read name (Some n) h p k f fs hh hp hk hf hs =
    pass_idle (P name engine_words) 1 _ _ h _ hh refl refl _ _
    (pass_idle (P name engine_words) 2 _ _ p _ hp refl refl _ _
    (pass_idle (P name engine_words) 3 _ _ k _ hk refl refl _ _
    (pass_idle (P name engine_words) 4 _ _ f _ hf refl refl _ _
    (more_files (P name engine_words) 4 _ (engine_takes name (Some n) h p k) (f ∷ []) fs hs))))

pub engine_lacks_4 : (name : Text) (bound : Option Text) → is_plain_bound bound ≡ true
    → fault (P name engine_words) (bounded bound ([])) ≡ wanting
unfolding defaults_fault
engine_lacks_4 name None plain =
    level (P name engine_words) (bounded None ([])) _ wanting (pass_bound name engine_words None ([]) _ plain
    (passed (P name engine_words) _)) refl
engine_lacks_4 name (Some n) plain =
    level (P name engine_words) (bounded (Some n) ([])) _ wanting (pass_bound name engine_words (Some n) ([]) _ plain
    (passed (P name engine_words) _)) refl

pub engine_lacks_3 : (name : Text) (bound : Option Text) (h : Text) → is_plain_bound bound ≡ true → is_plain h ≡ true
    → fault (P name engine_words) (bounded bound (h ∷ [])) ≡ wanting
unfolding defaults_fault
engine_lacks_3 name None h plain hh =
    level (P name engine_words) (bounded None (h ∷ [])) _ wanting (pass_bound name engine_words None (h ∷ []) _ plain
    (pass_idle (P name engine_words) 1 _ _ h _ hh refl refl _ _ (passed (P name engine_words) _))) refl
engine_lacks_3 name (Some n) h plain hh =
    level (P name engine_words) (bounded (Some n) (h ∷ [])) _ wanting
    (pass_bound name engine_words (Some n) (h ∷ []) _ plain
    (pass_idle (P name engine_words) 1 _ _ h _ hh refl refl _ _ (passed (P name engine_words) _))) refl

pub engine_lacks_2 : (name : Text) (bound : Option Text) (h p : Text) → is_plain_bound bound ≡ true
    → is_plain h ≡ true → is_plain p ≡ true
    → fault (P name engine_words) (bounded bound (h ∷ p ∷ [])) ≡ wanting
unfolding defaults_fault
engine_lacks_2 name None h p plain hh hp =
    level (P name engine_words) (bounded None (h ∷ p ∷ [])) _ wanting
    (pass_bound name engine_words None (h ∷ p ∷ []) _ plain
    (pass_idle (P name engine_words) 1 _ _ h _ hh refl refl _ _
    (pass_idle (P name engine_words) 2 _ _ p _ hp refl refl _ _
    (passed (P name engine_words) _)))) refl
engine_lacks_2 name (Some n) h p plain hh hp =
    level (P name engine_words) (bounded (Some n) (h ∷ p ∷ [])) _ wanting
    (pass_bound name engine_words (Some n) (h ∷ p ∷ []) _ plain
    (pass_idle (P name engine_words) 1 _ _ h _ hh refl refl _ _
    (pass_idle (P name engine_words) 2 _ _ p _ hp refl refl _ _
    (passed (P name engine_words) _)))) refl

pub engine_lacks_1 : (name : Text) (bound : Option Text) (h p k : Text) → is_plain_bound bound ≡ true
    → is_plain h ≡ true → is_plain p ≡ true → is_plain k ≡ true
    → fault (P name engine_words) (bounded bound (h ∷ p ∷ k ∷ [])) ≡ wanting
unfolding defaults_fault
engine_lacks_1 name None h p k plain hh hp hk =
    level (P name engine_words) (bounded None (h ∷ p ∷ k ∷ [])) _ wanting
    (pass_bound name engine_words None (h ∷ p ∷ k ∷ []) _ plain
    (pass_idle (P name engine_words) 1 _ _ h _ hh refl refl _ _
    (pass_idle (P name engine_words) 2 _ _ p _ hp refl refl _ _
    (pass_idle (P name engine_words) 3 _ _ k _ hk refl refl _ _
    (passed (P name engine_words) _))))) refl
engine_lacks_1 name (Some n) h p k plain hh hp hk =
    level (P name engine_words) (bounded (Some n) (h ∷ p ∷ k ∷ [])) _ wanting
    (pass_bound name engine_words (Some n) (h ∷ p ∷ k ∷ []) _ plain
    (pass_idle (P name engine_words) 1 _ _ h _ hh refl refl _ _
    (pass_idle (P name engine_words) 2 _ _ p _ hp refl refl _ _
    (pass_idle (P name engine_words) 3 _ _ k _ hk refl refl _ _
    (passed (P name engine_words) _))))) refl

-- ---- `replay`

abbrev pub replay_rows : Option Text → Text → List Row
replay_rows bound e = bound_rows bound ++ word_rows replay_words (e ∷ [])

pub replay_takes : (name : Text) (bound : Option Text) (e : Text) → TakesFiles (P name replay_words) 2 (replay_rows
    bound e)
unfolding defaults_fault
replay_takes name None e = record {
  goes = λ fs f. refl;
  fine = λ fs. refl;
  fits = λ f fs kinds is. ap (λ (k : Kinds). or_else (or_else k (values_kinds false vp.String (f ∷ fs))) []) is
      ∙ last_of kinds f fs;
  found = λ f fs. refl;
}
replay_takes name (Some n) e = record {
  goes = λ fs f. refl;
  fine = λ fs. refl;
  fits = λ f fs kinds is. ap (λ (k : Kinds). or_else (or_else k (values_kinds false vp.String (f ∷ fs))) []) is
      ∙ last_of kinds f fs;
  found = λ f fs. refl;
}

pub replay_read : (name : Text) (bound : Option Text) (e : Text) (f : Text) (fs : List Text)
    → is_plain e ≡ true → is_plain f ≡ true
    → list_all is_plain fs ≡ true
    → Passes (P name replay_words) (begun bound) (e ∷ f ∷ fs) (files 2 (replay_rows bound e) (f ∷ fs))
replay_read name None e f fs he hf hs =
    pass_idle (P name replay_words) 1 _ _ e _ he refl refl _ _
    (pass_idle (P name replay_words) 2 _ _ f _ hf refl refl _ _
    (more_files (P name replay_words) 2 _ (replay_takes name None e) (f ∷ []) fs hs))
replay_read name (Some n) e f fs he hf hs =
    pass_idle (P name replay_words) 1 _ _ e _ he refl refl _ _
    (pass_idle (P name replay_words) 2 _ _ f _ hf refl refl _ _
    (more_files (P name replay_words) 2 _ (replay_takes name (Some n) e) (f ∷ []) fs hs))

pub replay_lacks_2 : (name : Text) (bound : Option Text) → is_plain_bound bound ≡ true
    → fault (P name replay_words) (bounded bound ([])) ≡ wanting
unfolding defaults_fault
replay_lacks_2 name None plain =
    level (P name replay_words) (bounded None ([])) _ wanting (pass_bound name replay_words None ([]) _ plain
    (passed (P name replay_words) _)) refl
replay_lacks_2 name (Some n) plain =
    level (P name replay_words) (bounded (Some n) ([])) _ wanting (pass_bound name replay_words (Some n) ([]) _ plain
    (passed (P name replay_words) _)) refl

pub replay_lacks_1 : (name : Text) (bound : Option Text) (e : Text) → is_plain_bound bound ≡ true → is_plain e ≡ true
    → fault (P name replay_words) (bounded bound (e ∷ [])) ≡ wanting
unfolding defaults_fault
replay_lacks_1 name None e plain he =
    level (P name replay_words) (bounded None (e ∷ [])) _ wanting (pass_bound name replay_words None (e ∷ []) _ plain
    (pass_idle (P name replay_words) 1 _ _ e _ he refl refl _ _ (passed (P name replay_words) _))) refl
replay_lacks_1 name (Some n) e plain he =
    level (P name replay_words) (bounded (Some n) (e ∷ [])) _ wanting
    (pass_bound name replay_words (Some n) (e ∷ []) _ plain
    (pass_idle (P name replay_words) 1 _ _ e _ he refl refl _ _ (passed (P name replay_words) _))) refl

-- ---- `ide`

abbrev pub I : Text → Shape
I name = leaf (plain_row name ide_words)

pub ide_read : (name p s : Text) → is_plain p ≡ true → is_plain s ≡ true
    → Passes (I name) (begun None) (p ∷ s ∷ [])
    (at 3 (word_rows ide_words (p ∷ [])) (Some (codes "SCRIPT", s ∷ [])) idle)
ide_read name p s hp hs =
    pass_idle (I name) 1 _ _ p _ hp refl refl _ _ (pass_idle (I name) 2 _ _ s _ hs refl refl _ _ (passed (I name) _))

pub ide_fine : (name p s : Text) → is_plain p ≡ true → is_plain s ≡ true → fault (I name) (p ∷ s ∷ []) ≡ []
unfolding defaults_fault
ide_fine name p s hp hs = level (I name) (p ∷ s ∷ []) _ [] (ide_read name p s hp hs) refl

pub ide_found : (name p s : Text) → is_plain p ≡ true → is_plain s ≡ true
    → rows_after (I name).rules [] (p ∷ s ∷ []) ≡ word_rows ide_words (p ∷ s ∷ [])
ide_found name p s hp hs = rows_at_end (I name) (p ∷ s ∷ []) _ (ide_read name p s hp hs)

pub ide_lacks_2 : (name : Text) → fault (I name) [] ≡ wanting
unfolding defaults_fault
ide_lacks_2 name = level (I name) [] _ wanting (passed (I name) _) refl

pub ide_lacks_1 : (name p : Text) → is_plain p ≡ true → fault (I name) (p ∷ []) ≡ wanting
unfolding defaults_fault
ide_lacks_1 name p hp =
    level (I name) (p ∷ []) _ wanting (pass_idle (I name) 1 _ _ p _ hp refl refl _ _ (passed (I name) _)) refl

-- ---- `soak`

abbrev pub S : Text → Shape
S name = leaf (plain_row name soak_words)

pub soak_read : (name n s : Text) → is_plain n ≡ true → is_plain s ≡ true
    → Passes (S name) (begun None) (n ∷ s ∷ [])
    (at 3 (word_rows soak_words (n ∷ [])) (Some (codes "SEED", s ∷ [])) idle)
soak_read name n s hn hs =
    pass_idle (S name) 1 _ _ n _ hn refl refl _ _ (pass_idle (S name) 2 _ _ s _ hs refl refl _ _ (passed (S name) _))

pub soak_fine : (name n s : Text) → is_plain n ≡ true → is_plain s ≡ true → fault (S name) (n ∷ s ∷ []) ≡ []
unfolding defaults_fault
soak_fine name n s hn hs = level (S name) (n ∷ s ∷ []) _ [] (soak_read name n s hn hs) refl

pub soak_found : (name n s : Text) → is_plain n ≡ true → is_plain s ≡ true
    → rows_after (S name).rules [] (n ∷ s ∷ []) ≡ word_rows soak_words (n ∷ s ∷ [])
soak_found name n s hn hs = rows_at_end (S name) (n ∷ s ∷ []) _ (soak_read name n s hn hs)

pub soak_lacks_2 : (name : Text) → fault (S name) [] ≡ wanting
unfolding defaults_fault
soak_lacks_2 name = level (S name) [] _ wanting (passed (S name) _) refl

pub soak_lacks_1 : (name n : Text) → is_plain n ≡ true → fault (S name) (n ∷ []) ≡ wanting
unfolding defaults_fault
soak_lacks_1 name n hn =
    level (S name) (n ∷ []) _ wanting (pass_idle (S name) 1 _ _ n _ hn refl refl _ _ (passed (S name) _)) refl

-- ---- `proxy`

abbrev pub relay : Text → Shape
relay name = leaf (plain_row name proxy_words)

pub proxy_read : (name i e r s : Text) → is_plain i ≡ true → is_plain e ≡ true → is_plain r ≡ true → is_plain s ≡ true
    → Passes (relay name) (begun None) (i ∷ e ∷ r ∷ s ∷ [])
    (at 5 (word_rows proxy_words (i ∷ e ∷ r ∷ [])) (Some (codes "SESSIONS", s ∷ [])) idle)
proxy_read name i e r s hi he hr hs =
    pass_idle (relay name) 1 _ _ i _ hi refl refl _ _ (pass_idle (relay name) 2 _ _ e _ he refl refl _ _
    (pass_idle (relay name) 3 _ _ r _ hr refl refl _ _ (pass_idle (relay name) 4 _ _ s _ hs refl refl _ _
    (passed (relay name) _))))

pub proxy_fine : (name i e r s : Text) → is_plain i ≡ true → is_plain e ≡ true → is_plain r ≡ true → is_plain s ≡ true
    → fault (relay name) (i ∷ e ∷ r ∷ s ∷ []) ≡ []
unfolding defaults_fault
proxy_fine name i e r s hi he hr hs =
    level (relay name) (i ∷ e ∷ r ∷ s ∷ []) _ [] (proxy_read name i e r s hi he hr hs) refl

pub proxy_found : (name i e r s : Text) → is_plain i ≡ true → is_plain e ≡ true → is_plain r ≡ true → is_plain s ≡ true
    → rows_after (relay name).rules [] (i ∷ e ∷ r ∷ s ∷ []) ≡ word_rows proxy_words (i ∷ e ∷ r ∷ s ∷ [])
proxy_found name i e r s hi he hr hs =
    rows_at_end (relay name) (i ∷ e ∷ r ∷ s ∷ []) _ (proxy_read name i e r s hi he hr hs)

pub proxy_lacks_4 : (name : Text) → fault (relay name) [] ≡ wanting
unfolding defaults_fault
proxy_lacks_4 name = level (relay name) [] _ wanting (passed (relay name) _) refl

pub proxy_lacks_3 : (name i : Text) → is_plain i ≡ true → fault (relay name) (i ∷ []) ≡ wanting
unfolding defaults_fault
proxy_lacks_3 name i hi =
    level (relay name) (i ∷ []) _ wanting (pass_idle (relay name) 1 _ _ i _ hi refl refl _ _ (passed (relay name) _))
    refl

pub proxy_lacks_2 : (name i e : Text) → is_plain i ≡ true → is_plain e ≡ true
    → fault (relay name) (i ∷ e ∷ []) ≡ wanting
unfolding defaults_fault
proxy_lacks_2 name i e hi he =
    level (relay name) (i ∷ e ∷ []) _ wanting (pass_idle (relay name) 1 _ _ i _ hi refl refl _ _
    (pass_idle (relay name) 2 _ _ e _ he refl refl _ _ (passed (relay name) _))) refl

pub proxy_lacks_1 : (name i e r : Text) → is_plain i ≡ true → is_plain e ≡ true → is_plain r ≡ true
    → fault (relay name) (i ∷ e ∷ r ∷ []) ≡ wanting
unfolding defaults_fault
proxy_lacks_1 name i e r hi he hr =
    level (relay name) (i ∷ e ∷ r ∷ []) _ wanting (pass_idle (relay name) 1 _ _ i _ hi refl refl _ _
    (pass_idle (relay name) 2 _ _ e _ he refl refl _ _ (pass_idle (relay name) 3 _ _ r _ hr refl refl _ _
    (passed (relay name) _)))) refl

-- ---- one word too many

abbrev pub HasFault : Kinds → Type 0
HasFault [] = ⊥
HasFault (k ∷ ks) = Unit {0}

refused : (first more rest : Kinds) → HasFault first → HasFault (or_else (or_else first more) rest)
refused [] more rest h = absurd h
refused (k ∷ ks) more rest h = tt

-- a plain word for which there is no positional
stray : (s : Shape) (position : ℕ) (rows : List Row) (pending : Option (Text × List Text)) (word : Text)
    → is_plain word ≡ true → HasFault (step_fault s position (at position rows pending idle).held value)
    → HasFault (turn_fault s [] (at position rows pending idle) word)
stray s position rows pending word plain none =
    let w = at position rows pending idle in
    let p = plain_is word plain in
    subst HasFault (sym (ap₂ or_else (no_flag s word w.held p)
    (ap (fault_met s position) (met s.rules idle position word w.held p)))) none

none_of : (first more : Kinds) → or_else first more ≡ [] → (first ≡ []) × (more ≡ [])
none_of [] more h = (refl, h)
none_of (k ∷ ks) more h = absurd cc

-- what is wrong with words behind those that pass
pass_then : (s : Shape) (w : Walk) (words more : List Text) (end : Walk) → Passes s w words end
    → walk_fault s [] w (words ++ more) ≡ walk_fault s [] end more
unfolding walk_fault
pass_then s w [] more end p = ap (λ (x : Walk). walk_fault s [] x more) p.walks
pass_then s w (word ∷ words) more end p =
    let parts = none_of (turn_fault s [] w word) (walk_fault s [] (walked s.rules [] w word) words) p.taken in
    ap₂ or_else parts.0 (pass_then s (walked s.rules [] w word) words more end
    (record { walks = p.walks; taken = parts.1 }))

pub ide_over : (name p s v : Text) (vs : List Text) → is_plain p ≡ true → is_plain s ≡ true → is_plain v ≡ true
    → HasFault (fault (I name) (p ∷ s ∷ v ∷ vs))
unfolding walk_fault
ide_over name p s v vs hp hs hv =
    let end = at 3 (word_rows ide_words (p ∷ [])) (Some (codes "SCRIPT", s ∷ [])) idle in
    let tail = tail_fault (I name) (walk (I name).rules [] nothing_held (p ∷ s ∷ v ∷ vs)).held in
    subst HasFault (sym (ap (λ (k : Kinds). or_else k tail) (pass_then (I name) (begun None) (p ∷ s ∷ []) (v ∷ vs) end
    (ide_read name p s hp hs))))
    (refused (turn_fault (I name) [] end v) (walk_fault (I name) [] (walked (I name).rules [] end v) vs) tail
    (stray (I name) 3 _ _ v hv tt))

pub soak_over : (name n s v : Text) (vs : List Text) → is_plain n ≡ true → is_plain s ≡ true → is_plain v ≡ true
    → HasFault (fault (S name) (n ∷ s ∷ v ∷ vs))
unfolding walk_fault
soak_over name n s v vs hn hs hv =
    let end = at 3 (word_rows soak_words (n ∷ [])) (Some (codes "SEED", s ∷ [])) idle in
    let tail = tail_fault (S name) (walk (S name).rules [] nothing_held (n ∷ s ∷ v ∷ vs)).held in
    subst HasFault (sym (ap (λ (k : Kinds). or_else k tail) (pass_then (S name) (begun None) (n ∷ s ∷ []) (v ∷ vs) end
    (soak_read name n s hn hs))))
    (refused (turn_fault (S name) [] end v) (walk_fault (S name) [] (walked (S name).rules [] end v) vs) tail
    (stray (S name) 3 _ _ v hv tt))

pub proxy_over : (name i e r s v : Text) (vs : List Text) → is_plain i ≡ true → is_plain e ≡ true → is_plain r ≡ true
    → is_plain s ≡ true → is_plain v ≡ true
    → HasFault (fault (relay name) (i ∷ e ∷ r ∷ s ∷ v ∷ vs))
unfolding walk_fault
proxy_over name i e r s v vs hi he hr hs hv =
    let end = at 5 (word_rows proxy_words (i ∷ e ∷ r ∷ [])) (Some (codes "SESSIONS", s ∷ [])) idle in
    let tail = tail_fault (relay name) (walk (relay name).rules [] nothing_held (i ∷ e ∷ r ∷ s ∷ v ∷ vs)).held in
    subst HasFault (sym (ap (λ (k : Kinds). or_else k tail) (pass_then (relay name) (begun None) (i ∷ e ∷ r ∷ s ∷ [])
    (v ∷ vs) end (proxy_read name i e r s hi he hr hs))))
    (refused (turn_fault (relay name) [] end v)
    (walk_fault (relay name) [] (walked (relay name).rules [] end v) vs) tail
    (stray (relay name) 5 _ _ v hv tt))

-- ---- `show`

abbrev pub alone : Text → Shape
alone name = leaf (plain_row name [])

pub show_fine : (name : Text) → fault (alone name) [] ≡ []
unfolding defaults_fault
show_fine name = level (alone name) [] _ [] (passed (alone name) _) refl

pub show_over : (name v : Text) (vs : List Text) → is_plain v ≡ true → HasFault (fault (alone name) (v ∷ vs))
unfolding walk_fault
show_over name v vs hv =
    refused (turn_fault (alone name) [] (begun None) v)
    (walk_fault (alone name) [] (walked (alone name).rules [] (begun None) v) vs)
    (tail_fault (alone name) (walk (alone name).rules [] nothing_held (v ∷ vs)).held)
    (stray (alone name) 1 [] None v hv tt)
