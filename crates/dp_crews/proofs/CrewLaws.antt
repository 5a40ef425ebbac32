-- Lists that answer one another place by place.
use Rattle.std.proofs.Common.{◌≡◌, ◌<◌, ℕ, ◌+◌, List, [], ◌∷◌, ◌++◌, Result, Ok, Err, IfOk, MatchResult, cond, refl, sym, ◌∙◌, ap, subst, arith}
use Rattle.std.specs.Prelude.{⊤}
use Rattle.std.specs.Prelude.{count_by, is_err}
use Rattle.std.specs.List.{AllZip}
use Rattle.std.proofs.lemmas.List.Sums.{sum_by-cons}
use Rattle.dp_crews.specs.Twins.{Each}
use Rattle.dp_outside.specs.Jobs.{RanOrBack}
use Rattle.dp_crews.specs.inner.Crews.{CameBack}

-- one place more
pub zip_more : {A B : Type 0} (R : A → B → Type 0) (xs : List A) (ys : List B) (x : A) (y : B) → AllZip R xs ys → R x y
    → AllZip R (xs ++ x ∷ []) (ys ++ y ∷ [])
zip_more R [] [] x y all one = (one, tt)
zip_more R [] (b ∷ ys) x y all one = absurd all
zip_more R (a ∷ xs) [] x y all one = absurd all
zip_more R (a ∷ xs) (b ∷ ys) x y all one = (all.0, zip_more R xs ys x y all.1 one)

-- an item became a job, which was run or came back, and what came back is an item again
module _ {T J D W : Type 0} (item_of : J → T) (work_of : J → W) (work : W) (gives : W → T → D → Type 0) where
  one_ran : (item : T) (job : J) (answer : Result D J) (back : Result D T)
      → (item_of job ≡ item) × (work_of job ≡ work)
      → RanOrBack (λ j d. gives (work_of j) (item_of j) d) job answer → CameBack item_of answer back
      → RanOrBack (gives work) item back
  one_ran item job (Ok done) (Ok same) is ran came =
      subst (λ d. gives work item d) (sym came)
      (subst (λ w. gives w item done) is.1 (subst (λ i. gives (work_of job) i done) is.0 ran))
  one_ran item job (Ok done) (Err back) is ran came = absurd came
  one_ran item job (Err other) (Ok done) is ran came = absurd came
  one_ran item job (Err other) (Err back) is ran came = came ∙ ap item_of ran ∙ is.0

  all_ran : (items : List T) (jobs : List J) (answers : List (Result D J)) (backs : List (Result D T))
      → AllZip (λ item job. (item_of job ≡ item) × (work_of job ≡ work)) items jobs
      → AllZip (RanOrBack (λ j d. gives (work_of j) (item_of j) d)) jobs answers
      → AllZip (CameBack item_of) answers backs → AllZip (RanOrBack (gives work)) items backs
  all_ran [] [] [] [] i r c = tt
  all_ran [] [] [] (b ∷ backs) i r c = absurd c
  all_ran [] [] (a ∷ answers) backs i r c = absurd r
  all_ran [] (j ∷ jobs) answers backs i r c = absurd i
  all_ran (t ∷ items) [] answers backs i r c = absurd i
  all_ran (t ∷ items) (j ∷ jobs) [] backs i r c = absurd r
  all_ran (t ∷ items) (j ∷ jobs) (a ∷ answers) [] i r c = absurd c
  all_ran (t ∷ items) (j ∷ jobs) (a ∷ answers) (b ∷ backs) i r c =
      (one_ran t j a b i.0 r.0 c.0, all_ran items jobs answers backs i.1 r.1 c.1)

  -- the same, where memory sufficed
  pub each_ran : {B E : Type 0} (list : B → List (Result D T)) (items : List T) (jobs : List J)
      (answers : List (Result D J)) (result : Result B E)
      → AllZip (λ item job. (item_of job ≡ item) × (work_of job ≡ work)) items jobs
      → AllZip (RanOrBack (λ j d. gives (work_of j) (item_of j) d)) jobs answers
      → IfOk result (λ backs. AllZip (CameBack item_of) answers (list backs))
      → IfOk result (λ backs. AllZip (RanOrBack (gives work)) items (list backs))
  each_ran list items jobs answers (Ok backs) i r c = all_ran items jobs answers (list backs) i r c
  each_ran list items jobs answers (Err why) i r c = tt

-- as many came back as before
module _ {J D T : Type 0} (item_of : J → T) where
  one_err : (answer : Result D J) (back : Result D T) → CameBack item_of answer back → is_err back ≡ is_err answer
  one_err (Ok done) (Ok same) came = refl
  one_err (Ok done) (Err back) came = absurd came
  one_err (Err job) (Ok done) came = absurd came
  one_err (Err job) (Err back) came = refl

  pub errs_same : (answers : List (Result D J)) (backs : List (Result D T)) → AllZip (CameBack item_of) answers backs
      → count_by is_err backs ≡ count_by is_err answers
  errs_same [] [] came = refl
  errs_same [] (b ∷ backs) came = absurd came
  errs_same (a ∷ answers) [] came = absurd came
  errs_same (a ∷ answers) (b ∷ backs) came =
      sum_by-cons (λ r. cond (is_err r) 1 0) b backs
      ∙ (ap {B = ℕ} (λ t. cond t 1 0 + count_by is_err backs) (one_err a b came.0)
      ∙ (ap {B = ℕ} (λ n. cond (is_err a) 1 0 + n) (errs_same answers backs came.1)
      ∙ sym (sum_by-cons (λ r. cond (is_err r) 1 0) a answers)))

  pub refused_back : {B E : Type 0} (R : Type 0) (list : B → List (Result D T)) (answers : List (Result D J))
      (result : Result B E) → (0 < count_by is_err answers → R)
      → IfOk result (λ backs. AllZip (CameBack item_of) answers (list backs))
      → IfOk result (λ backs. 0 < count_by is_err (list backs) → R)
  refused_back R list answers (Ok backs) why came =
      λ some. why (subst (λ n. 0 < n) (errs_same answers (list backs) came) some)
  refused_back R list answers (Err e) why came = tt

-- where one that came back shows something, each does
pub each_why : {D T : Type 0} (R : Type 0) (answers : List (Result D T)) → (0 < count_by is_err answers → R)
    → Each (λ answer. MatchResult answer (λ done. ⊤) (λ back. R)) answers
each_why R [] why = tt
each_why R (Ok done ∷ answers) why = (
  tt,
  each_why R answers
      (λ some. why (omega (arith, some, sum_by-cons (λ r. cond (is_err r) 1 0) (Ok done) answers))),
)
each_why R (Err back ∷ answers) why =
    let more : count_by is_err (Err back ∷ answers) ≡ 1 + count_by is_err answers =
    sum_by-cons (λ r. cond (is_err r) 1 0) (Err back) answers in
    let some : 0 < count_by is_err (Err back ∷ answers) = omega (arith, more) in
    (why some, each_why R answers (λ rest. why some))
