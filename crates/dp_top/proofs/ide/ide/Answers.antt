use Rattle.std.proofs.Common.{refl}
use Rattle.dp_top.proofs.IdeLaws.{played_told}
use Rattle.dp_top.proofs.ide.ide.Goals as goal

pub returns-in-Ok-clause-ends : goal.returns-in-Ok-clause-ends
returns-in-Ok-clause-ends g c = rw (← c.objects.view_is)
    (played_told c.args.request.port c.args.request.script.now _ _
    (record { input = (refl, refl); err = (refl, refl) }) c.in-Ok.script c.in-Ok.ensures.held
    c.play_at-played.result c.judge.result c.play_at-played.ensures.gated c.judge.ensures.well c.judge.ensures.ill)
