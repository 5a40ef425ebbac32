use Rattle.dp_proxy.proofs.HearLaws.{command_heard}
use Rattle.dp_proxy.proofs.input.take_in.Goals as goal

pub returns-in_ok-extend_from_slice-in-Some : goal.returns-in_ok-extend_from_slice-in-Some
returns-in_ok-extend_from_slice-in-Some c = λ clean.
    command_heard c.args.heard.now.items c.args.bytes.now c.extend_from_slice-in-Some.new.self.items clean
    c.in-Some.place c.in-Some.ensures.first
    c.in_ok-extend_from_slice-in-Some.ensures.items
