-- Lists that answer one another place by place.
use Rattle.std.proofs.Common.{◌≡◌, ◌≤◌, Bool, true, false, List, [], ◌∷◌, ◌++◌, map, count_by, is_err, not, cond, Result, Ok, Err, refl, sym, ◌∙◌, subst, arith}
use Rattle.std.specs.List.{AllZip}
use Rattle.std.proofs.lemmas.List.Sums.{sum_by-cons}
use Rattle.dp_outside.specs.Jobs.{BackUnlessGranted, RanOrBack}
use Rattle.dp_outside.specs.inner.Threads.{Answered, Settled, Started}

-- one place more
pub zip_more : {A B : Type 0} (R : A → B → Type 0) (xs : List A) (ys : List B) (x : A) (y : B) → AllZip R xs ys → R x y
    → AllZip R (xs ++ x ∷ []) (ys ++ y ∷ [])
zip_more R [] [] x y all one = (one, tt)
zip_more R [] (b ∷ ys) x y all one = absurd all
zip_more R (a ∷ xs) [] x y all one = absurd all
zip_more R (a ∷ xs) (b ∷ ys) x y all one = (all.0, zip_more R xs ys x y all.1 one)

-- the first list seen through a field, and what follows from the relation at each place
pub zip_field : {A B C : Type 0} (R : A → B → Type 0) (S : C → B → Type 0) (field : A → C)
    → ((x : A) (y : B) → R x y → S (field x) y) → (xs : List A) (ys : List B) → AllZip R xs ys
    → AllZip S (map field xs) ys
zip_field R S field step [] [] all = tt
zip_field R S field step [] (b ∷ ys) all = absurd all
zip_field R S field step (a ∷ xs) [] all = absurd all
zip_field R S field step (a ∷ xs) (b ∷ ys) all = (step a b all.0, zip_field R S field step xs ys all.1)

-- what a started job answers is what becomes of it
started_answered : {J D H : Type 0} (may_give : J → D → Type 0) (job_of : H → J) (job : J) (granted : Bool)
    (start : Result H (Result D J)) (answer : Result D J) → Started may_give job_of job granted start
    → Answered may_give job_of start answer → Settled may_give job granted answer
started_answered may_give job_of job granted (Ok thread) (Ok done) same may =
    (same.0, subst (λ j. may_give j done) same.1 may)
started_answered may_give job_of job granted (Ok thread) (Err back) same may = may ∙ same.1
started_answered may_give job_of job granted (Err known) answer may same =
    subst (Settled may_give job granted) (sym same) may

-- the same of each job in turn
pub all_settled : {J D H C : Type 0} (may_give : J → D → Type 0) (job_of : H → J) (job : C → J) (granted : C → Bool)
    (asked : List C) (starts : List (Result H (Result D J))) (answers : List (Result D J))
    → AllZip (λ one. Started may_give job_of (job one) (granted one)) asked starts
    → AllZip (Answered may_give job_of) starts answers
    → AllZip (λ one. Settled may_give (job one) (granted one)) asked answers
all_settled may_give job_of job granted [] [] [] s a = tt
all_settled may_give job_of job granted [] [] (c ∷ cs) s a = absurd a
all_settled may_give job_of job granted [] (b ∷ bs) cs s a = absurd s
all_settled may_give job_of job granted (j ∷ js) [] cs s a = absurd s
all_settled may_give job_of job granted (j ∷ js) (b ∷ bs) [] s a = absurd a
all_settled may_give job_of job granted (j ∷ js) (b ∷ bs) (c ∷ cs) s a = (
  started_answered may_give job_of (job j) (granted j) b c s.0 a.0,
  all_settled may_give job_of job granted js bs cs s.1 a.1,
)

-- what became of the jobs is a result of each, or the job
one_ran : {J D : Type 0} (may_give : J → D → Type 0) (job : J) (granted : Bool) (answer : Result D J)
    → Settled may_give job granted answer → RanOrBack may_give job answer
one_ran may_give job granted (Ok done) s = s.1
one_ran may_give job granted (Err back) s = s

pub all_ran : {J D C : Type 0} (may_give : J → D → Type 0) (job : C → J) (granted : C → Bool) (asked : List C)
    (answers : List (Result D J)) → AllZip (λ one. Settled may_give (job one) (granted one)) asked answers
    → AllZip (RanOrBack may_give) (map job asked) answers
all_ran may_give job granted asked answers all =
    zip_field (λ one. Settled may_give (job one) (granted one)) (RanOrBack may_give) job
    (λ one answer. one_ran may_give (job one) (granted one) answer) asked answers all

-- each job whose start was not granted came back
one_back : {J D : Type 0} (may_give : J → D → Type 0) (job : J) (granted : Bool) (answer : Result D J)
    → Settled may_give job granted answer → BackUnlessGranted granted answer
one_back may_give job true answer s = tt
one_back may_give job false (Ok done) s = let no : false ≡ true = s.0 in absurd cc
one_back may_give job false (Err back) s = refl

pub all_back : {J D C : Type 0} (may_give : J → D → Type 0) (job : C → J) (granted : C → Bool) (asked : List C)
    (answers : List (Result D J)) → AllZip (λ one. Settled may_give (job one) (granted one)) asked answers
    → AllZip BackUnlessGranted (map granted asked) answers
all_back may_give job granted asked answers all =
    zip_field (λ one. Settled may_give (job one) (granted one)) BackUnlessGranted granted
    (λ one answer. one_back may_give (job one) (granted one) answer) asked answers all

-- at one place
one_fewer : {J D : Type 0} (may_give : J → D → Type 0) (job : J) (granted : Bool) (answer : Result D J)
    → Settled may_give job granted answer → cond (not granted) 1 0 ≤ cond (is_err answer) 1 0
one_fewer may_give job true answer s = omega arith
one_fewer may_give job false (Ok done) s = let no : false ≡ true = s.0 in absurd cc
one_fewer may_give job false (Err back) s = omega arith

-- so no more starts were refused than jobs came back
pub fewer_refused : {J D C : Type 0} (may_give : J → D → Type 0) (job : C → J) (granted : C → Bool) (asked : List C)
    (answers : List (Result D J)) → AllZip (λ one. Settled may_give (job one) (granted one)) asked answers
    → count_by (λ one. not (granted one)) asked ≤ count_by is_err answers
fewer_refused may_give job granted [] [] all = omega arith
fewer_refused may_give job granted [] (c ∷ cs) all = absurd all
fewer_refused may_give job granted (j ∷ js) [] all = absurd all
fewer_refused may_give job granted (j ∷ js) (c ∷ cs) all =
    rw (sum_by-cons (λ one. cond (not (granted one)) 1 0) j js, sum_by-cons (λ answer. cond (is_err answer) 1 0) c cs)
    (omega (arith, one_fewer may_give (job j) (granted j) c all.0, fewer_refused may_give job granted js cs all.1))
