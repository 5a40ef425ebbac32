use Rattle.std.proofs.Common.{◌≡◌, ℕ, None, [], ◌∷◌, ◌++◌, map, codes, sym, subst}
use Rattle.std.specs.Prelude.{OnOk}
use Rattle.serde_json.specs.Written.{compact_text}
use Rattle.dp_dap_messages.specs.declared.effects.News.{News}
use Rattle.dp_dap_messages.specs.Messages.{event, news_events, numbered}
use Rattle.dp_dap_messages.proofs.news.put_news.Goals as goal

pub returns-in_ok-behind-in-Initialized : goal.returns-in_ok-behind-in-Initialized
returns-in_ok-behind-in-Initialized c =
    let old = c.args.texts.now.items in
    let new = c.put_event.new.texts.items in
    subst (λ (n : News). OnOk c.put_event.result
    (new ≡ old ++ map compact_text (numbered c.args.sent (news_events n)))) (sym c.in-Initialized.is)
    (subst (λ (seq : ℕ). OnOk c.put_event.result
    (new ≡ old ++ compact_text (event seq (codes "initialized") None) ∷ []))
    c.in_ok-behind-in-Initialized.ensures c.put_event.ensures)
