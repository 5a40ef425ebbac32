-- The run of a program: what is fetched, what its files make, and what its end is.
use Rattle.std.proofs.Common.{◌≡◌, ◌⊎◌, ℕ, suc, ◌+◌, ◌<◌, ◌≤◌, true, false, List, [], ◌∷◌, ◌++◌, length, map, All, Some}
use Rattle.std.proofs.Common.{None, Result, Ok, Err, refl, sym, ap, ◌∙◌, subst, arith, inl, inr, get_or, take, IsSome}
use Rattle.std.proofs.Common.{String, string_bytes}
use Rattle.std.specs.declared.alloc.Global.{Global}
use Rattle.std.specs.Prelude.{IfOk, IfErr, MatchResult}
use Rattle.std.specs.Io.KnownBytes.{Appends}
use Rattle.std.proofs.lemmas.List.{length-map, length-take, get_or-map, map-append, take-map, take_all, take_more}
use Rattle.std.proofs.lemmas.List.Elements.{All-push}
use Rattle.dp_outside.specs.Changes.{Change}
use Rattle.dp_outside.specs.Files.{Fetches, Lacks}
use Rattle.dp_outside.specs.Reports.{grown}
use Rattle.dp_program.proofs.GrownNames.{grown_again}
use Rattle.dp_bundle.specs.Bundles.{Given, AreForBundle, IsAnswer, Makes, MakesFrom}
use Rattle.dp_tree.specs.FileNames.{AreFileNames, file_limit}
use Rattle.dp_tree.specs.declared.bundle.BundleFile.{BundleFile}
use Rattle.dp_tree.specs.declared.bundle.Bundle.{Bundle}
use Rattle.dp_bundle.specs.declared.errors.BundleError.{BundleError}
use Rattle.dp_bundle.specs.declared.errors.BundleError.TheVariants as unmade
use Rattle.dp_state.specs.declared.moments.Outcome.{Outcome}
use Rattle.dp_state.specs.declared.moments.Outcome.TheVariants as way
use Rattle.dp_meaning.specs.Trace.{outcome_of, plain}
use Rattle.dp_meaning.proofs.Exits.{exit_small}
use Rattle.dp_program.specs.declared.errors.ProgramError.{ProgramError}
use Rattle.dp_program.specs.declared.errors.ProgramError.TheVariants as none
use Rattle.dp_program.specs.declared.errors.RunError.{RunError}
use Rattle.dp_program.specs.declared.errors.RunError.TheVariants as run
use Rattle.dp_program.specs.Programs.{AreFetched, Comes, Files, FilesMake, IsComplete, IsRefused, IsUnmade, IsUnread, NamesMake, ProgramCaused, RequestedNames, RequestsFiles, is_bad_file}
use Rattle.dp_program.specs.Programs.{refusal}
use Rattle.dp_program.specs.Runs.{Ends, RunCaused, Runs, judged, of_program}
use Rattle.dp_program.specs.inner.Steps.{FetchCaused, IsNext, RunFailed, RunWrites}

-- ---- what is fetched, one file after another

pub fetched_none : (files : Files) → AreFetched files [] []
fetched_none files = record { named = refl; contents = λ k d below. absurd (omega (arith, below)) }

pub fetched_next : (files : Files) (names : List (List ℕ)) (name : List ℕ) (fetched more : List Given)
    → AreFetched files names fetched → IsNext files name fetched more
    → AreFetched files (names ++ name ∷ []) more
fetched_next files names name fetched more are next = record {
  named = ap (map (λ (f : Given). f.0)) next.appended
      ∙ map-append (λ (f : Given). f.0) fetched ((name, next.content) ∷ [])
      ∙ ap (λ (l : List (List ℕ)). l ++ name ∷ []) are.named;
  contents = subst (All (λ (f : Given). Fetches files f.0 file_limit f.1)) (sym next.appended)
      (All-push (λ (f : Given). Fetches files f.0 file_limit f.1) fetched (name, next.content) are.contents
      next.is_content);
}

-- as many as names
pub fetched_count : (files : Files) (names : List (List ℕ)) (fetched : List Given) → AreFetched files names fetched
    → length fetched ≡ length names
fetched_count files names fetched are = sym (length-map fetched (λ (f : Given). f.0)) ∙ ap length are.named

-- why one file was not fetched is why there is no program
pub not_fetched : (why : ProgramError) (number : ℕ) (name : List ℕ) (files : Files) (first before after : ℕ)
    (names : List (List ℕ)) → FetchCaused why number name files before after
    → first ≤ before → Comes files names number → get_or names number [] ≡ name
    → ProgramCaused why files first after names
not_fetched (none.Shelf file) number name files first before after names h later comes at =
    (subst (Comes files names) (sym h.0) comes, omega (arith, h.1, later))
not_fetched (none.Missing file) number name files first before after names h later comes at =
    (subst (Comes files names) (sym h.0) comes, subst (Lacks files) (sym (ap (λ n. get_or names n []) h.0 ∙ at)) h.1)
not_fetched (none.TooLong file) number name files first before after names h later comes at = absurd h
not_fetched (none.Source file why) number name files first before after names h later comes at = absurd h
not_fetched none.Memory number name files first before after names h later comes at = tt

-- and none of them was read
pub unread : (why : ProgramError) (number : ℕ) (name : List ℕ) (files : Files) (before after : ℕ)
    → FetchCaused why number name files before after → IsUnread why
unread (none.Shelf file) number name files before after h = tt
unread (none.Missing file) number name files before after h = tt
unread (none.TooLong file) number name files before after h = h
unread (none.Source file why) number name files before after h = h
unread none.Memory number name files before after h = tt

-- files that are fetched under a program's names are for a bundle
pub for_bundle : (files : Files) (names : List (List ℕ)) (fetched : List Given) → AreFileNames names
    → AreFetched files names fetched → AreForBundle fetched
for_bundle files names fetched are given = subst AreFileNames (sym given.named) are

-- ---- a loop over names

module _ (files : Files) (names : List (String Global)) (i : ℕ) (fetched : List Given)
    (are : AreFetched files (map string_bytes (take i names)) fetched) (more : i < length names) where
  pub so_many : length fetched ≡ i
  so_many =
      omega (
        arith,
        more,
        fetched_count files (map string_bytes (take i names)) fetched are,
        length-map (take i names)
            string_bytes,
        length-take i names,
      )

  path_more : (item : String Global) → item ≡ get_or names i item
      → map string_bytes (take (i + 1) names) ≡ map string_bytes (take i names) ++ string_bytes item ∷ []
  path_more item is =
      ap (map string_bytes) (take_more names i item more)
      ∙ map-append string_bytes (take i names) (get_or names i item ∷ [])
      ∙ ap (λ (s : String Global). map string_bytes (take i names) ++ string_bytes s ∷ []) (sym is)

  pub one_more : (item : String Global) (after : List Given) → item ≡ get_or names i item
      → IsNext files (string_bytes item) fetched after
      → AreFetched files (map string_bytes (take (i + 1) names)) after
  one_more item after is next =
      subst (λ (l : List (List ℕ)). AreFetched files l after) (sym (path_more item is))
      (fetched_next files (map string_bytes (take i names)) (string_bytes item) fetched after are next)

  comes : Comes files (map string_bytes names) i
  comes = record {
    below = omega (arith, more, length-map names string_bytes);
    before = fetched;
    are = subst (λ (l : List (List ℕ)). AreFetched files l fetched) (sym (take-map string_bytes i names)) are;
  }

  pub none_more : (why : ProgramError) (item : String Global) (first before after : ℕ) → item ≡ get_or names i item
      → first ≤ before
      → FetchCaused why (length fetched) (string_bytes item) files before after
      → ProgramCaused why files first after (map string_bytes names)
  none_more why item first before after is later h =
      not_fetched why i (string_bytes item) files first before after (map string_bytes names)
      (subst (λ n. FetchCaused why n (string_bytes item) files before after) so_many h) later comes
      (get_or-map string_bytes names i item [] more ∙ ap string_bytes (sym is))

  -- one name more was asked for
  pub requested_more : (item : String Global) (start before after : RequestedNames) → item ≡ get_or names i item
      → before ≡ grown start (map string_bytes (take i names))
      → after ≡ grown before (string_bytes item ∷ []) → after ≡ grown start (map string_bytes (take (i + 1) names))
  requested_more item start before after is far one =
      one ∙ ap (λ (told : RequestedNames). grown told (string_bytes item ∷ [])) far
      ∙ grown_again start (map string_bytes (take i names)) (string_bytes item ∷ [])
      ∙ ap (grown start) (sym (path_more item is))

  -- and it is the last, where its file was not fetched
  pub requested_last : (why : ProgramError) (item : String Global) (first last : ℕ) (start after : RequestedNames)
      → after ≡ grown start (map string_bytes (take (i + 1) names))
      → FetchCaused why (length fetched) (string_bytes item) files first last
      → RequestsFiles {A = List Given} (Err why) start after (map string_bytes names)
  requested_last why item first last start after far h = by why h where
    upto : after ≡ grown start (take (i + 1) (map string_bytes names))
    upto = far ∙ ap (grown start) (sym (take-map string_bytes (i + 1) names))

    by : (why : ProgramError) → FetchCaused why (length fetched) (string_bytes item) files first last
        → RequestsFiles {A = List Given} (Err why) start after (map string_bytes names)
    by (none.Shelf file) h = upto ∙ ap (λ n. grown start (take (n + 1) (map string_bytes names))) (sym (h.0 ∙ so_many))
    by (none.Missing file) h = upto
        ∙ ap (λ n. grown start (take (n + 1) (map string_bytes names))) (sym (h.0 ∙ so_many))
    by (none.TooLong file) h = absurd h
    by (none.Source file why) h = absurd h
    by none.Memory h = (i + 1, upto)

pub all_requested : (names : List (String Global)) (i : ℕ) (start after : RequestedNames)
    → after ≡ grown start (map string_bytes (take i names)) → length names ≤ i
    → after ≡ grown start (map string_bytes names)
all_requested names i start after far over = far
    ∙ ap (λ (l : List (String Global)). grown start (map string_bytes l)) (take_all i names over)

pub all_fetched : (files : Files) (names : List (String Global)) (i : ℕ) (fetched : List Given)
    → AreFetched files (map string_bytes (take i names)) fetched → length names ≤ i
    → AreFetched files (map string_bytes names) fetched
all_fetched files names i fetched are over =
    subst (λ (l : List (String Global)). AreFetched files (map string_bytes l) fetched) (take_all i names over) are

-- ---- what fetched files make

pub made_ok : (fetched : List Given) (program : Bundle) → (Ok program ≡ Err unmade.Memory) ⊎ Makes fetched (Ok program)
    → Makes fetched (Ok program)
made_ok fetched program (inl e) = absurd (cc)
made_ok fetched program (inr makes) = makes

abbrev unmade_by : BundleError → Result Bundle BundleError
unmade_by why = Err why

pub made_err : (fetched : List Given) (why : BundleError) → (unmade_by why ≡ unmade_by unmade.Memory)
    ⊎ Makes fetched (Err why) → IsUnmade fetched (refusal why)
made_err fetched why (inl e) = let same : why ≡ unmade.Memory = cc in inl (ap refusal same)
made_err fetched why (inr makes) = inr (why, makes, refl)

pub only_ok : {A : Type 0} (program : Bundle) (a : A) (asked : Result Bundle BundleError) → IsAnswer asked (Ok program)
    → IsRefused asked (Ok a)
only_ok program a (Ok other) h = tt
only_ok program a (Err e) (inl same) = absurd (cc)
only_ok program a (Err e) (inr same) = absurd (cc)

pub only_err : (A : Type 0) (why : BundleError) (asked : Result Bundle BundleError) → IsAnswer asked (Err why)
    → IsRefused {A = A} asked (Err (refusal why))
only_err A why (Ok other) (inl same) = absurd (cc)
only_err A why (Ok other) (inr same) = let memory : why ≡ unmade.Memory = cc in
    ap (λ (e : BundleError). is_bad_file (refusal e)) memory
only_err A why (Err e) (inl same) = let one : why ≡ e = cc in inl (ap refusal one)
only_err A why (Err e) (inr same) = let memory : why ≡ unmade.Memory = cc in inr (ap refusal memory)

-- ---- why there is no program

-- a program has the names of the files that make it
pub names_made : (number : ℕ) (given : List Given) (made : List BundleFile) → MakesFrom number given (Ok made)
    → map (λ (f : BundleFile). f.name) made ≡ map (λ (f : Given). f.0) given
names_made number [] [] h = refl
names_made number [] (f ∷ rest) h = absurd h
names_made number (g ∷ more) [] h = absurd h
names_made number (g ∷ more) (f ∷ rest) h = λ i. h.0.named i ∷ names_made (suc number) more rest h.1 i

module _ (files : Files) (before after : ℕ) (names : List (List ℕ)) where
  module _ (fetched : List Given) (are : AreFetched files names fetched) where
    made_of : (made : Result Bundle BundleError) → Makes fetched made → NamesMake files names made
    made_of made h = record { fetched = fetched; are = are; makes = h }

    refused_none : (e : BundleError) → Makes fetched (Err e) → ProgramCaused (refusal e) files before after names
    refused_none (unmade.Source file why) h = made_of _ h
    refused_none (unmade.TooLong file) h = made_of _ h
    refused_none unmade.Memory h = tt

    -- files that make none
    unmade_none : (why : ProgramError) → IsUnmade fetched why → ProgramCaused why files before after names
    unmade_none why (inl e) = subst (λ (w : ProgramError). ProgramCaused w files before after names) (sym e) tt
    unmade_none why (inr (e, makes, same)) = subst (λ (w : ProgramError). ProgramCaused w files before after names)
        (sym same) (refused_none e makes)

    pub program_made : (result : Result Bundle ProgramError) → IfOk result (λ program. Makes fetched (Ok program))
        → IfOk result (λ program. NamesMake files names (Ok program))
    program_made (Ok program) h = made_of _ h
    program_made (Err why) h = tt

    pub program_named : (result : Result Bundle ProgramError) → IfOk result (λ program. Makes fetched (Ok program))
        → IfOk result (λ program. map (λ (f : BundleFile). f.name) program.files ≡ names)
    program_named (Ok program) h = names_made 0 fetched program.files h ∙ are.named
    program_named (Err why) h = tt

    pub program_caused : (result : Result Bundle ProgramError) → IfErr result (λ why. IsUnmade fetched why)
        → IfErr result (λ why. ProgramCaused why files before after names)
    program_caused (Ok program) h = tt
    program_caused (Err why) h = unmade_none why h

-- ---- what the end of a program is

module _ (files : Files) (before after : ℕ) (names : List (List ℕ)) (bound : ℕ) (out : Change) where
  module _ (program : Bundle) (made : NamesMake files names (Ok program)) where
    ended : (outcome : Outcome) → outcome ≡ outcome_of (plain program bound).end
        → Appends out.told_before out.told (plain program bound).state.output
        → Ends outcome files names bound out
    ended outcome is wrote = record { program = program; made = made; is_end = is; wrote = wrote }

    -- a program that was run to its end
    put_run : (status : ℕ) → RunWrites status program bound out → Runs status files names bound out
    put_run status h = record { outcome = _; ends = ended _ refl h.0; is_status = h.1 }

    by_end : (why : RunError) (outcome : Outcome) → Ends outcome files names bound out → judged outcome ≡ Err why
        → RunCaused why files before after names bound out
    by_end why way.Done ends e = absurd (cc)
    by_end why (way.Exit status) ends e = absurd (cc)
    by_end why (way.Fatal kind file line) ends e =
        let same : run.Fatal kind file line ≡ why = cc in
        subst (λ (w : RunError). RunCaused w files before after names bound out) same ends
    by_end why way.Bound ends e = let same : run.Bound ≡ why = cc in
        subst (λ (w : RunError). RunCaused w files before after names bound out) same ends

    -- one whose end is a failure, or whose output failed
    failed_run : (why : RunError) → RunFailed why program bound out → RunCaused why files before after names bound out
    failed_run why (inl e) = subst (λ (w : RunError). RunCaused w files before after names bound out) (sym e.0) e.1
    failed_run why (inr (inl h)) = by_end why _ (ended _ refl h.0) h.1
    failed_run why (inr (inr h)) =
        subst (λ (w : RunError). RunCaused w files before after names bound out) (sym h.0)
        (record { program = program; made = made; wrote = h.1 }, h.2)

    pub ends_run : (result : Result ℕ RunError)
        → MatchResult result (λ status. RunWrites status program bound out) (λ why. RunFailed why program bound out)
        → MatchResult result (λ status. Runs status files names bound out)
        (λ why. RunCaused why files before after names bound out)
    ends_run (Ok status) h = put_run status h
    ends_run (Err why) h = failed_run why h

-- the status of a program is one of 200
pub put_small : (status : ℕ) (program : Bundle) (bound : ℕ) (out : Change) → RunWrites status program bound out
    → status ≤ 199
put_small status program bound out h = by (outcome_of (plain program bound).end) refl h.1 where
  by : (outcome : Outcome) → outcome_of (plain program bound).end ≡ outcome → judged outcome ≡ Ok status → status ≤ 199
  by way.Done is e = let same : 0 ≡ status = cc in omega (arith, same)
  by (way.Exit n) is e = let same : n ≡ status = cc in omega (arith, same, exit_small program bound [] n is)
  by (way.Fatal kind file line) is e = absurd (cc)
  by way.Bound is e = absurd (cc)

pub small_status : (program : Bundle) (bound : ℕ) (out : Change) (result : Result ℕ RunError)
    → MatchResult result (λ status. RunWrites status program bound out) (λ why. RunFailed why program bound out)
    → IfOk result (λ status. status ≤ 199)
small_status program bound out (Ok status) h = put_small status program bound out h
small_status program bound out (Err why) h = tt

-- what fails once there is a program says that there was one
judged_of : (why : RunError) (outcome : Outcome) → judged outcome ≡ Err why → of_program {A = ℕ} (Err why) ≡ Ok tt
judged_of why way.Done e = absurd (cc)
judged_of why (way.Exit n) e = absurd (cc)
judged_of why (way.Fatal kind file line) e =
    let same : run.Fatal kind file line ≡ why = cc in sym (ap (λ (w : RunError). of_program {A = ℕ} (Err w)) same)
judged_of why way.Bound e = let same : run.Bound ≡ why = cc in
    sym (ap (λ (w : RunError). of_program {A = ℕ} (Err w)) same)

failed_of : (why : RunError) (program : Bundle) (bound : ℕ) (out : Change) → RunFailed why program bound out
    → of_program {A = ℕ} (Err why) ≡ Ok tt
failed_of why program bound out (inl e) = ap (λ (w : RunError). of_program {A = ℕ} (Err w)) e.0
failed_of why program bound out (inr (inl h)) = judged_of why (outcome_of (plain program bound).end) h.1
failed_of why program bound out (inr (inr h)) = ap (λ (w : RunError). of_program {A = ℕ} (Err w)) h.0

run_of : (program : Bundle) (bound : ℕ) (out : Change) (result : Result ℕ RunError)
    → MatchResult result (λ status. RunWrites status program bound out) (λ why. RunFailed why program bound out)
    → of_program result ≡ Ok tt
run_of program bound out (Ok status) ends = refl
run_of program bound out (Err why) ends = failed_of why program bound out ends

-- what the files make decides what may fail
pub complete_run : (asked : Result Bundle BundleError) (program : Bundle) (bound : ℕ) (out : Change) (before after : ℕ)
    (result : Result ℕ RunError)
    → IsComplete {A = Bundle} asked (Ok program) before after
    → MatchResult result (λ status. RunWrites status program bound out) (λ why. RunFailed why program bound out)
    → IsComplete asked (of_program result) before after
complete_run (Ok made) program bound out before after result held ends =
    subst (λ r. IsComplete (Ok made) r before after) (sym (run_of program bound out result ends)) tt
complete_run (Err e) program bound out before after result held ends = absurd held

pub complete_none : (asked : Result Bundle BundleError) (why : ProgramError) (before after : ℕ)
    → IsComplete {A = Bundle} asked (Err why) before after
    → IsComplete asked (of_program {A = ℕ} (Err (run.Program why))) before after
complete_none (Ok made) why before after h = h
complete_none (Err e) why before after h = h

-- what is asked for
pub requested_run : (program : Bundle) (bound : ℕ) (out : Change) (result : Result ℕ RunError)
    (start after : RequestedNames)
    (names : List (List ℕ))
    → after ≡ grown start names
    → MatchResult result (λ status. RunWrites status program bound out) (λ why. RunFailed why program bound out)
    → RequestsFiles (of_program result) start after names
requested_run program bound out result start after names all ends = subst (λ r. RequestsFiles r start after names)
    (sym (run_of program bound out result ends)) all

pub requested_none : (why : ProgramError) (start after : RequestedNames) (names : List (List ℕ))
    → RequestsFiles {A = Bundle} (Err why) start after names
    → RequestsFiles (of_program {A = ℕ} (Err (run.Program why))) start after names
requested_none (none.Shelf file) start after names h = h
requested_none (none.Missing file) start after names h = h
requested_none (none.TooLong file) start after names h = h
requested_none (none.Source file why) start after names h = h
requested_none none.Memory start after names h = h

-- where all were asked for, whatever the files make
pub requested_made : (fetched : List Given) (result : Result Bundle ProgramError) (start after : RequestedNames)
    (names : List (List ℕ)) → IfErr result (λ why. IsUnmade fetched why)
    → after ≡ grown start names → RequestsFiles result start after names
requested_made fetched (Ok program) start after names made all = all
requested_made fetched (Err why) start after names made all = by why made where
  whole : after ≡ grown start (take (length names) names)
  whole = all ∙ ap (grown start) (sym (take_all (length names) names (omega arith)))

  refused : (e : BundleError) → RequestsFiles {A = Bundle} (Err (refusal e)) start after names
  refused (unmade.Source file why) = all
  refused (unmade.TooLong file) = all
  refused unmade.Memory = (length names, whole)

  by : (why : ProgramError) → IsUnmade fetched why → RequestsFiles {A = Bundle} (Err why) start after names
  by why (inl e) = subst (λ (w : ProgramError). RequestsFiles {A = Bundle} (Err w) start after names) (sym e)
      (length names, whole)
  by why (inr (e, makes, same)) = subst (λ (w : ProgramError). RequestsFiles {A = Bundle} (Err w) start after names)
      (sym same)
      (refused e)

-- ---- what a shelf holds

one_content : (files : Files) (name first other : List ℕ) → IsSome files → Fetches files name file_limit first
    → Fetches files name file_limit other → first ≡ other
one_content None name first other tells p q = let no : false ≡ true = tells in absurd (cc)
one_content (Some files) name first other tells p q =
    let same : Some p.0 ≡ Some q.0 = sym p.1 ∙ q.1 in
    let content : p.0 ≡ q.0 = cc in
    p.2 ∙ ap (take (file_limit + 1)) content ∙ sym q.2

module _ (P : Given → Type 0) (file : Given) (rest : List Given) (all : All P (file ∷ rest)) where
  head_of : P file
  head_of = all 0 file (omega arith)

  tail_of : All P rest
  tail_of = λ k d below. all (suc k) d (omega (arith, below))

-- what a shelf that tells its files gives for names is one thing
pub one_fetched : (files : Files) (names : List (List ℕ)) (first other : List Given) → IsSome files
    → AreFetched files names first → AreFetched files names other → first ≡ other
one_fetched files names [] [] tells p q = refl
one_fetched files names [] (g ∷ other) tells p q = let no : [] ≡ g.0 ∷ map (λ (f : Given). f.0) other = p.named
    ∙ sym q.named in absurd (cc)
one_fetched files names (f ∷ first) [] tells p q = let no : f.0 ∷ map (λ (f : Given). f.0) first ≡ [] = p.named
    ∙ sym q.named in absurd (cc)
one_fetched files names (f ∷ first) (g ∷ other) tells p q =
    let same : f.0 ∷ map (λ (f : Given). f.0) first ≡ g.0 ∷ map (λ (f : Given). f.0) other = p.named ∙ sym q.named in
    let name : f.0 ≡ g.0 = cc in
    let names_same : map (λ (f : Given). f.0) first ≡ map (λ (f : Given). f.0) other = cc in
    let fetches = λ (file : Given). Fetches files file.0 file_limit file.1 in
    let content : f.1 ≡ g.1 = one_content files g.0 f.1 g.1 tells
    (subst (λ (n : List ℕ). Fetches files n file_limit f.1) name (head_of fetches f first p.contents))
    (head_of fetches g other q.contents) in
    let rest : first ≡ other = one_fetched files (map (λ (f : Given). f.0) first) first other tells
    (record { named = refl; contents = tail_of fetches f first p.contents })
    (record { named = sym names_same; contents = tail_of fetches g other q.contents }) in
    λ i. (name i, content i) ∷ rest i

not_lacked : (files : Files) (name content : List ℕ) → IsSome files → Fetches files name file_limit content
    → Lacks files name → ⊥
not_lacked None name content tells p q = let no : false ≡ true = tells in cc
not_lacked (Some files) name content tells p q = let same : Some p.0 ≡ None = sym p.1 ∙ q in cc

complete_not_lacked : (files : Files) (names : List (List ℕ)) (made : Result Bundle BundleError) (k : ℕ)
    → FilesMake files names made → k < length names → Lacks files (get_or names k []) → ⊥
complete_not_lacked files names made k held below lacks =
    let fetched = held.make.fetched in
    let named = held.make.are.named in
    let within : k < length fetched = omega (arith, below, fetched_count files names fetched held.make.are) in
    let here : (get_or fetched k ([], [])).0 ≡ get_or names k [] =
    sym (get_or-map (λ (f : Given). f.0) fetched k ([], []) [] within)
    ∙ ap (λ (l : List (List ℕ)). get_or l k []) named in
    not_lacked files (get_or names k []) (get_or fetched k ([], [])).1 held.tells
    (subst (λ (n : List ℕ). Fetches files n file_limit (get_or fetched k ([], [])).1) here
    (held.make.are.contents k ([], []) within)) lacks

-- the run of files that a shelf holds
pub complete_fetched : {A : Type 0} (files : Files) (names : List (List ℕ)) (fetched : List Given) (before after : ℕ)
    (asked : Result Bundle BundleError) (result : Result A ProgramError)
    → AreFetched files names fetched → ((a : Result Bundle BundleError) → Makes fetched a → IsRefused a result)
    → FilesMake files names asked → IsComplete asked result before after
complete_fetched files names fetched before after asked result are only held =
    by asked result
    (only asked
    (subst (λ (l : List Given). Makes l asked)
    (one_fetched files names held.make.fetched fetched held.tells held.make.are are) held.make.makes)) where
      by : {A : Type 0} (asked : Result Bundle BundleError) (result : Result A ProgramError) → IsRefused asked result
          → IsComplete asked result before after
      by (Ok program) result h = h
      by (Err e) (Ok a) h = h
      by (Err e) (Err why) (inl same) = inl same
      by (Err e) (Err why) (inr same) = inr (inl same)

-- the same where they were not fetched
pub complete_unfetched : (A : Type 0) (files : Files) (names : List (List ℕ)) (before after : ℕ)
    (asked : Result Bundle BundleError) (why : ProgramError)
    → ProgramCaused why files before after names → IsUnread why → FilesMake files names asked
    → IsComplete {A = A} asked (Err why) before after
complete_unfetched A files names before after asked (none.Missing file) h unread held =
    absurd (complete_not_lacked files names asked file held h.0.below h.1)
complete_unfetched A files names before after asked (none.TooLong file) h unread held = absurd unread
complete_unfetched A files names before after asked (none.Source file why) h unread held = absurd unread
complete_unfetched A files names before after (Ok program) (none.Shelf file) h unread held = refl
complete_unfetched A files names before after (Ok program) none.Memory h unread held = refl
complete_unfetched A files names before after (Err e) (none.Shelf file) h unread held = inr (inr h.1)
complete_unfetched A files names before after (Err e) none.Memory h unread held = inr (inl refl)
