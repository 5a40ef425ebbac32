-- What files make, one file after another.
use Rattle.std.proofs.Common.{◌≡◌, ◌⊎◌, inl, inr, ℕ, suc, ◌+◌, List, [], ◌∷◌, ◌++◌, length, Result, Ok, Err, refl, sym, ap, ◌∙◌, subst, append_assoc, append-nil, arith}
use Rattle.std.proofs.lemmas.List.{length_push}
use Rattle.dp_tree.specs.declared.tree.File.{File}
use Rattle.dp_parse.specs.Programs.{IsFile}
use Rattle.dp_tree.specs.declared.bundle.Bundle.{Bundle}
use Rattle.dp_bundle.specs.declared.errors.BundleError.{BundleError}
use Rattle.dp_bundle.specs.declared.errors.BundleError.TheVariants.{Memory}
use Rattle.dp_tree.specs.declared.bundle.BundleFile.{BundleFile}
use Rattle.dp_bundle.specs.Bundles.{Given, IsBundleFile, IsRefused, IsAnswer, MakesFrom, Makes, files_in}

-- ---- one file

pub one_file : (name text : List ℕ) (tree : File) → ((other : File) → IsFile text other → tree ≡ other)
    → (file : BundleFile) → IsBundleFile (name, text) file
    → (let made : BundleFile = record { name = name; text = text; tree = tree } in made) ≡ file
one_file name text tree only file h =
    λ i. record { name = sym h.named i; text = sym h.spelled i; tree = only file.tree h.tree i }

-- ---- files that are made, and the rest

abbrev pub joined : List BundleFile → Result (List BundleFile) BundleError → Result (List BundleFile) BundleError
joined done (Ok more) = Ok (done ++ more)
joined done (Err why) = Err why

joined-nothing : (r : Result (List BundleFile) BundleError) → joined [] r ≡ r
joined-nothing (Ok more) = refl
joined-nothing (Err why) = refl

joined-one : (done : List BundleFile) (made : BundleFile) (r : Result (List BundleFile) BundleError)
    → joined done (joined (made ∷ []) r) ≡ joined (done ++ made ∷ []) r
joined-one done made (Ok more) = ap Ok (sym (append_assoc done (made ∷ []) more))
joined-one done made (Err why) = refl

-- made of these files, or out of memory
abbrev pub IsMadeOrStarved : List Given → Result Bundle BundleError → Type 0
IsMadeOrStarved files result = (result ≡ Err Memory) ⊎ Makes files result

abbrev bundle_in : Result (List BundleFile) BundleError → Result Bundle BundleError
bundle_in (Ok files) = Ok (record { files = files })
bundle_in (Err why) = Err why

bundle_in-files_in : (r : Result Bundle BundleError) → bundle_in (files_in r) ≡ r
bundle_in-files_in (Ok bundle) = refl
bundle_in-files_in (Err why) = refl

-- what the rest makes, where all make this
pub record Leaves (number : ℕ) (done : List BundleFile) (rest : List Given)
    (r : Result (List BundleFile) BundleError) : Type 0 where
  pub left : Result (List BundleFile) BundleError
  pub makes : MakesFrom number rest left
  pub same : r ≡ joined done left

-- what all files make is what the rest makes, behind those that are made
pub record IsReadSoFar (files : List Given) (done : List BundleFile) (rest : List Given) : Type 0 where
  pub counted : length done + length rest ≡ length files
  pub made : (r : Result (List BundleFile) BundleError) → MakesFrom (length done) rest r
      → MakesFrom 0 files (joined done r)
  pub only : (r : Result (List BundleFile) BundleError) → MakesFrom 0 files r → Leaves (length done) done rest r

pub read_first : (files : List Given) → IsReadSoFar files [] files
read_first files = record {
  counted = omega arith;
  made = λ r h. subst (MakesFrom 0 files) (sym (joined-nothing r)) h;
  only = λ r h. record { left = r; makes = h; same = sym (joined-nothing r) };
}

made_one : (number : ℕ) (given : Given) (rest : List Given) (made : BundleFile)
    (r : Result (List BundleFile) BundleError)
    → IsBundleFile given made → MakesFrom (suc number) rest r → MakesFrom number (given ∷ rest) (joined (made ∷ []) r)
made_one number given rest made (Ok more) is h = (is, h)
made_one number given rest made (Err why) is h = inr ((made, is), h)

only_one : (number : ℕ) (given : Given) (rest : List Given) (made : BundleFile)
    → ((other : BundleFile) → IsBundleFile given other → made ≡ other)
    → ((why : BundleError) → IsRefused number given.1 why → ⊥) → (r : Result (List BundleFile) BundleError)
    → MakesFrom number (given ∷ rest) r → Leaves (suc number) (made ∷ []) rest r
only_one number given rest made one none (Ok []) h = absurd h
only_one number given rest made one none (Ok (other ∷ more)) h =
    record { left = Ok more; makes = h.1; same = ap (λ (x : BundleFile). Ok (x ∷ more)) (sym (one other h.0)) }
only_one number given rest made one none (Err why) h = elim h [
  | inl refused ↦ absurd (none why refused)
  | inr later ↦ record { left = Err why; makes = later.1; same = refl }
]

module _ (files : List Given) (done : List BundleFile) (given : Given) (rest : List Given)
    (so_far : IsReadSoFar files done (given ∷ rest)) where
  -- the next file is made
  pub read_next : (made : BundleFile) → IsBundleFile given made
      → ((other : BundleFile) → IsBundleFile given other → made ≡ other)
      → ((why : BundleError) → IsRefused (length done) given.1 why → ⊥) → IsReadSoFar files (done ++ made ∷ []) rest
  read_next made is one none =
      let longer : length (done ++ made ∷ []) ≡ suc (length done) = omega (arith, length_push done made) in
      record {
        counted = let c : length done + suc (length rest) ≡ length files = so_far.counted in omega (arith, longer);
        made = λ r h. subst (MakesFrom 0 files) (joined-one done made r)
            (so_far.made (joined (made ∷ []) r) (made_one (length done) given rest made r is
            (subst (λ n. MakesFrom n rest r) longer h)));
        only = λ r h.
            let before = so_far.only r h in
            let last = only_one (length done) given rest made one none before.left before.makes in
            record {
              left = last.left;
              makes = subst (λ n. MakesFrom n rest last.left) (sym longer) last.makes;
              same = before.same ∙ ap (joined done) last.same ∙ joined-one done made last.left;
            };
      }

  -- the next file is refused
  module _ (why : BundleError) (only : (other : BundleFile) → IsBundleFile given other → why ≡ Memory)
      (refuses : (asked : BundleError) → IsRefused (length done) given.1 asked → (why ≡ asked) ⊎ (why ≡ Memory)) where
    left_refused : (left : Result (List BundleFile) BundleError) → MakesFrom (length done) (given ∷ rest) left
        → (Err why ≡ joined done left) ⊎ (why ≡ Memory)
    left_refused (Ok []) h = absurd h
    left_refused (Ok (other ∷ more)) h = inr (only other h.0)
    left_refused (Err asked) h = elim h [
      | inl refused ↦ elim (refuses asked refused) [
        | inl same ↦ inl (ap Err same)
        | inr memory ↦ inr memory
      ]
      | inr later ↦ inr (only later.0.0 later.0.1)
    ]

    pub refused_only : (asked : Result Bundle BundleError) → Makes files asked → IsAnswer asked (Err why)
    refused_only asked h = let l = so_far.only (files_in asked) h in elim (left_refused l.left l.makes) [
      | inl same ↦ inl (ap bundle_in (same ∙ sym l.same) ∙ bundle_in-files_in asked)
      | inr memory ↦ inr (ap Err memory)
    ]

  pub refused_made : (why : BundleError) → (why ≡ Memory) ⊎ IsRefused (length done) given.1 why → IsMadeOrStarved files
      (Err why)
  refused_made why cause = elim cause [
    | inl memory ↦ inl (ap Err memory)
    | inr refused ↦ inr (so_far.made (Err why) (inl refused))
  ]

-- all files are made
module _ (files : List Given) (done : List BundleFile) (so_far : IsReadSoFar files done []) where
  pub all_made : IsMadeOrStarved files (Ok (record { files = done }))
  all_made = inr (subst (λ l. MakesFrom 0 files (Ok l)) (append-nil done) (so_far.made (Ok []) tt))

  left_made : (left : Result (List BundleFile) BundleError) → MakesFrom (length done) [] left
      → joined done left ≡ Ok done
  left_made (Ok []) h = ap Ok (append-nil done)
  left_made (Ok (other ∷ more)) h = absurd h
  left_made (Err why) h = absurd h

  pub all_only : (asked : Result Bundle BundleError) → Makes files asked → IsAnswer asked (Ok (record { files = done }))
  all_only asked h = let l = so_far.only (files_in asked) h in
      inl (ap bundle_in (sym (left_made l.left l.makes) ∙ sym l.same) ∙ bundle_in-files_in asked)
