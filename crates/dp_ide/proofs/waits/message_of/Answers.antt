use Rattle.std.proofs.Common.{◌≡◌, Some, None, sym, ap, ◌∙◌}
use Rattle.dp_reply.specs.Readings.{packet_in}
use Rattle.dp_ide.proofs.waits.message_of.Goals as goal

pub returns-in-Err-BadMarkup : goal.returns-in-Err-BadMarkup
returns-in-Err-BadMarkup c =
    record { some = tt; none = λ message is. let same = c.in-Err-BadMarkup.ensures.only message.root is.markup in cc }

pub returns-in-Err-TooDeep : goal.returns-in-Err-TooDeep
returns-in-Err-TooDeep c =
    record { some = tt; none = λ message is. let same = c.in-Err-TooDeep.ensures.only message.root is.markup in cc }

pub returns-in-Err-NotDbgp-clause-none : goal.returns-in-Err-NotDbgp-clause-none
returns-in-Err-NotDbgp-clause-none c = λ message is.
    let same : c.in-Ok.root ≡ message.root = c.in-Ok.ensures.only message.root is.markup in
    let none : packet_in c.in-Ok.root ≡ None = rw c.in-Err-NotDbgp.field-0-is at c.in-Err-NotDbgp.ensures in
    let both : None ≡ Some message.packet = sym none ∙ ap packet_in same ∙ is.is in cc
