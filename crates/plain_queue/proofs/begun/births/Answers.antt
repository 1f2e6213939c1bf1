use Rattle.std.proofs.Common.{ℕ, List, length, sym, ap, ◌∙◌}
use Rattle.message.specs.Content.{ContentText}
use Rattle.journal.specs.declared.entry.Event.{Event}
use Rattle.queue_core.specs.private.Tally.{births}
use Rattle.plain_queue.proofs.NumberingLemmas.{base_many}
use Rattle.plain_queue.proofs.begun.births.Goals as goal

pub returns-in-Base : goal.returns-in-Base
returns-in-Base c =
    ap (λ (counts : List ℕ). length counts) c.receives.ensures
    ∙ sym (ap (λ (e : Event ContentText). births e) c.in-Base.is ∙ base_many c.in-Base.base)
