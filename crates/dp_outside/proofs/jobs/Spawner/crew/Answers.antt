use Rattle.std.proofs.Common.{rules, ◌∙◌, ◌≤◌, count_by, is_err, map, not, subst}
use Rattle.std.specs.List.{AllZip}
use Rattle.dp_outside.specs.Jobs.{RanOrBack}
use Rattle.dp_outside.proofs.PairedLists.{all_back, all_ran, fewer_refused}
use Rattle.dp_outside.proofs.jobs.Spawner.crew.Goals as goal

pub returns-clause-answers : goal.returns-clause-answers
returns-clause-answers g c =
    let asked = c.in_ok-asked.asked.items in
    let answers = c.in_ok-answers.answers.items in
    subst (λ jobs. AllZip (RanOrBack g.J.Job.may_give) jobs answers) c.in_ok-asked.ensures.jobs
    (all_ran g.J.Job.may_give (λ one. one.job) (λ one. one.granted) asked answers c.in_ok-answers.ensures)

pub returns-clause-places : goal.returns-clause-places
returns-clause-places g c =
    let asked = c.in_ok-asked.asked.items in
    let answers = c.in_ok-answers.answers.items in (
      map (λ one. one.granted) asked,
      c.note_each.ensures.starts ∙ c.in_ok-asked.ensures.starts,
      all_back g.J.Job.may_give (λ one. one.job) (λ one. one.granted) asked answers c.in_ok-answers.ensures,
    )

pub returns-clause-granted : goal.returns-clause-granted
returns-clause-granted g c =
    let asked = c.in_ok-asked.asked.items in
    let answers = c.in_ok-answers.answers.items in
    let fewer : count_by (λ one. not one.granted) asked ≤ count_by is_err answers = fewer_refused g.J.Job.may_give
    (λ one. one.job) (λ one. one.granted) asked answers c.in_ok-answers.ensures in
    search (rules, fewer)
