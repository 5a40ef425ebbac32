use Rattle.std.proofs.Common.{◌≡◌, false, true, ap, ap₂, ◌∙◌, refl}
use Rattle.std.proofs.lemmas.Result.{IfOk-weaker}
use Rattle.clap.specs.Words.{App, Shape, shape_of, with_subcommand}
use Rattle.clap.specs.declared.builder.command.Command.{Command}
use Rattle.clap.specs.declared.builder.command.Command.TheViews.{out-Command}
use Rattle.clap.proofs.SimpleLemmas.{plain_fields}
use Rattle.dp_words.specs.inner.Shapes as row
use Rattle.dp_words.proofs.parser.program.Goals as goal

-- a command of a plain shape has no global argument
local : (c : Command) (s : Shape) → shape_of c ≡ s → s.is_plain ≡ true → (out-Command c).has_globals ≡ false
local c s is plain = (plain_fields c (ap (λ (x : Shape). x.is_plain) is ∙ plain)).globals

pub returns : goal.returns
returns c =
    let run_is : shape_of c.in_ok-run.field-0 ≡ row.run = c.in_ok-run.ensures in
    let talk_is : shape_of c.in_ok-talk.field-0 ≡ row.talk = c.in_ok-talk.ensures in
    let tape_is : shape_of c.in_ok-tape.field-0 ≡ row.tape = c.in_ok-tape.ensures in
    let audit_is : shape_of c.in_ok-audit.field-0 ≡ row.audit = c.in_ok-audit.ensures in
    let dap_is : shape_of c.in_ok-dap.field-0 ≡ row.dap = c.in_ok-dap.ensures in
    let engine_is : shape_of c.in_ok-engine.field-0 ≡ row.engine = c.in_ok-engine.ensures in
    let async_is : shape_of c.in_ok-async_.field-0 ≡ row.async = c.in_ok-async_.ensures in
    let ide_is : shape_of c.in_ok-ide.field-0 ≡ row.ide = c.in_ok-ide.ensures in
    let replay_is : shape_of c.in_ok-replay.field-0 ≡ row.replay = c.in_ok-replay.ensures in
    let soak_is : shape_of c.in_ok-soak.field-0 ≡ row.soak = c.in_ok-soak.ensures in
    let proxy_is : shape_of c.in_ok-proxy.field-0 ≡ row.proxy = c.in_ok-proxy.ensures in
    let show_is : shape_of c.new.result ≡ row.show = ap (λ (a : App). a.top) c.new.ensures.app in
    let one = c.in_ok-subcommand.ensures.shape (local _ _ run_is refl) ∙ ap₂ with_subcommand c.settings.ensures run_is
    in
    let two = c.in_ok-subcommand-2.ensures.shape (local _ _ talk_is refl) ∙ ap₂ with_subcommand one talk_is in
    let three = c.in_ok-subcommand-3.ensures.shape (local _ _ tape_is refl) ∙ ap₂ with_subcommand two tape_is in
    let four = c.in_ok-subcommand-4.ensures.shape (local _ _ audit_is refl) ∙ ap₂ with_subcommand three audit_is in
    let five = c.in_ok-subcommand-5.ensures.shape (local _ _ dap_is refl) ∙ ap₂ with_subcommand four dap_is in
    let six = c.in_ok-subcommand-6.ensures.shape (local _ _ engine_is refl) ∙ ap₂ with_subcommand five engine_is in
    let seven = c.in_ok-subcommand-7.ensures.shape (local _ _ async_is refl) ∙ ap₂ with_subcommand six async_is in
    let eight = c.in_ok-subcommand-8.ensures.shape (local _ _ ide_is refl) ∙ ap₂ with_subcommand seven ide_is in
    let nine = c.in_ok-subcommand-9.ensures.shape (local _ _ replay_is refl) ∙ ap₂ with_subcommand eight replay_is in
    let ten = c.in_ok-subcommand-10.ensures.shape (local _ _ soak_is refl) ∙ ap₂ with_subcommand nine soak_is in
    let eleven = c.in_ok-subcommand-11.ensures.shape (local _ _ proxy_is refl) ∙ ap₂ with_subcommand ten proxy_is in
    IfOk-weaker c.subcommand-12.result _ _ (λ r h. h.shape c.new.ensures.local ∙ ap₂ with_subcommand eleven show_is)
    c.subcommand-12.ensures
