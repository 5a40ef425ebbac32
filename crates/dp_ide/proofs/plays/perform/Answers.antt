use Rattle.std.proofs.Common.{refl, sym, ◌∙◌, subst}
use Rattle.dp_outside.specs.Changes.{change}
use Rattle.dp_wire.specs.Frames.{IsCommand}
use Rattle.dp_ide.specs.declared.instruction.Act.TheVariants.{Send, Attr, Prop, Out}
use Rattle.dp_ide.proofs.ActsPlayed.{attr_performed, both_then, code_performed, ok_then, out_performed, print_performed, prop_performed, sent_performed}
use Rattle.dp_ide.proofs.plays.perform.Goals as goal

pub exchange-requires : goal.exchange-requires
exchange-requires g c = subst IsCommand (sym c.as_slice.ensures) (c.requires c.in-Send.line c.in-Send.id c.in-Send.is)

pub returns-in-Send-clause-ok : goal.returns-in-Send-clause-ok
returns-in-Send-clause-ok g c =
    both_then c.exchange.result _ _ _
    (λ sends t. sent_performed c.args.one.now c.args.packets.now c.args.heard.now
    (change g.S.Source.left g.S.Source.faults c.args.source.now c.exchange.new.source)
    (change g.K.Sink.taken g.K.Sink.faults c.args.sink.now c.exchange.new.sink)
    (change g.O.Sink.taken g.O.Sink.faults c.args.out.now c.args.out.now)
    c.exchange.new.packets c.exchange.new.heard c.as_slice.result.now c.as_slice-in-Send.result.now
    (c.in-Send.is ∙ (λ i. Send (sym c.as_slice.ensures i) (sym c.as_slice-in-Send.ensures i))) refl sends t)
    c.exchange.ensures.sent c.exchange.ensures.answered

pub returns-in-Attr-clause-ok : goal.returns-in-Attr-clause-ok
returns-in-Attr-clause-ok g c =
    ok_then c.compare.result _ _
    (λ h. attr_performed c.args.one.now c.args.packets.now c.args.heard.now
    (change g.S.Source.left g.S.Source.faults c.args.source.now c.args.source.now)
    (change g.K.Sink.taken g.K.Sink.faults c.args.sink.now c.args.sink.now)
    (change g.O.Sink.taken g.O.Sink.faults c.args.out.now c.args.out.now) refl refl refl
    c.as_slice-in-Attr.result.now c.as_slice-in-Attr-2.result.now
    (c.in-Attr.is ∙ (λ i. Attr (sym c.as_slice-in-Attr.ensures i) (sym c.as_slice-in-Attr-2.ensures i)))
    (sym c.attribute-found.ensures ∙ h))
    c.compare.ensures.ok

pub returns-in-Code-clause-ok : goal.returns-in-Code-clause-ok
returns-in-Code-clause-ok g c =
    ok_then c.compare_code.result _ _
    (λ h. code_performed c.args.one.now c.args.packets.now c.args.heard.now
    (change g.S.Source.left g.S.Source.faults c.args.source.now c.args.source.now)
    (change g.K.Sink.taken g.K.Sink.faults c.args.sink.now c.args.sink.now)
    (change g.O.Sink.taken g.O.Sink.faults c.args.out.now c.args.out.now) refl refl refl
    c.in-Code.code c.in-Code.is (sym c.code_in.ensures ∙ h))
    c.compare_code.ensures.ok

pub returns-in-Prop-clause-ok : goal.returns-in-Prop-clause-ok
returns-in-Prop-clause-ok g c =
    ok_then c.compare_content.result _ _
    (λ h. prop_performed c.args.one.now c.args.packets.now c.args.heard.now
    (change g.S.Source.left g.S.Source.faults c.args.source.now c.args.source.now)
    (change g.K.Sink.taken g.K.Sink.faults c.args.sink.now c.args.sink.now)
    (change g.O.Sink.taken g.O.Sink.faults c.args.out.now c.args.out.now) refl refl refl
    c.as_slice-in-Prop.result.now c.as_slice-in-Prop-2.result.now
    (c.in-Prop.is ∙ (λ i. Prop (sym c.as_slice-in-Prop.ensures i) (sym c.as_slice-in-Prop-2.ensures i))) h)
    c.compare_content.ensures.ok

pub returns-in-Out-clause-ok : goal.returns-in-Out-clause-ok
returns-in-Out-clause-ok g c =
    both_then c.take_output.result _ _ _
    (λ h forgotten. out_performed c.args.one.now c.args.packets.now c.args.heard.now
    (change g.S.Source.left g.S.Source.faults c.args.source.now c.args.source.now)
    (change g.K.Sink.taken g.K.Sink.faults c.args.sink.now c.args.sink.now)
    (change g.O.Sink.taken g.O.Sink.faults c.args.out.now c.args.out.now) refl refl refl
    c.take_output.new.heard c.as_slice-in-Out.result.now (c.in-Out.is ∙ (λ i. Out (sym c.as_slice-in-Out.ensures i))) h
    c.take_output.ensures.last forgotten)
    c.take_output.ensures.ok c.take_output.ensures.forgotten

pub returns-in-Print-clause-ok : goal.returns-in-Print-clause-ok
returns-in-Print-clause-ok g c =
    ok_then c.print.result _ _
    (λ h. print_performed c.args.one.now c.args.packets.now c.args.heard.now
    (change g.S.Source.left g.S.Source.faults c.args.source.now c.args.source.now)
    (change g.K.Sink.taken g.K.Sink.faults c.args.sink.now c.args.sink.now)
    (change g.O.Sink.taken g.O.Sink.faults c.args.out.now c.print.new.out) c.in-Print.is refl refl h)
    c.print.ensures.ok
