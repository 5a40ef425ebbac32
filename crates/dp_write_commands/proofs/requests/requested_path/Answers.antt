use Rattle.std.proofs.Common.{◌≡◌, subst}
use Rattle.std.specs.Prelude.{Ok, Err}
use Rattle.dp_state.specs.declared.moments.Path.{Path}
use Rattle.dp_view.specs.Answers.{AnswersAfter}
use Rattle.dp_view.specs.Named.{named_path}
use Rattle.dp_write_commands.specs.Requests.{unreserved}
use Rattle.dp_write_commands.proofs.RequestedWrites.{found_after, missing_after}
use Rattle.dp_write_commands.proofs.requests.requested_path.Goals as goal

pub returns-in-Ok : goal.returns-in-Ok
returns-in-Ok c =
    let state = c.args.state.now in
    let place = c.args.place.now in
    let named = subst (λ name. named_path state place.level place.context name ≡ Ok c.in-Ok.path)
    c.as_slice-name.ensures c.in-Ok.ensures.answer in
    found_after unreserved (named_path state place.level place.context place.name) c.in-Ok.path c.unreserved.result
    named c.unreserved.ensures

pub returns-in-Err : goal.returns-in-Err
returns-in-Err c =
    let state = c.args.state.now in
    let place = c.args.place.now in
    let missing =
    subst (λ name. AnswersAfter {X = Path} (λ a. a) (Err c.in-Err.why) (named_path state place.level place.context name)
    (named_path state place.level place.context name))
    c.as_slice-name.ensures c.in-Err.ensures.answer in
    missing_after unreserved (named_path state place.level place.context place.name) c.in-Err.why missing
