use Rattle.std.proofs.Common.{◌≡◌, ◌≤◌, ◌<◌, ◌+◌, ◌-◌, ℕ, drop, Option, None, sym, ap, ◌∙◌, arith}
use Rattle.std.specs.Prelude.{slice_get, unwrap_or}
use Rattle.message.specs.Content.{ContentText}
use Rattle.queue_core.specs.Messages.{contents}
use Rattle.queue_core.specs.private.Tally.{births}
use Rattle.plain_queue.proofs.EntryLemmas.{content-here, content-later}
use Rattle.plain_queue.proofs.reading.content_of.Goals as goal

pub returns-then-before-count : goal.returns-then-before-count
returns-then-before-count c =
    let below : c.loop-place.before < births c.line_at.result.now.event = omega (arith, c.if-before-count.true, c.births-count.ensures) in
    c.content_behind.ensures
    ∙ ap (λ (o : Option (Option ContentText)). unwrap_or o None) (sym (content-here c.args.lines.now c.loop-place.place c.line_at.result.now c.line_at.ensures c.loop-place.before below))
    ∙ c.loop-place.invariant

pub loop-place-preserved : goal.loop-place-preserved
loop-place-preserved c =
    let past : births c.line_at.result.now.event ≤ c.loop-place.before = omega (arith, c.if-before-count.false, c.births-count.ensures) in
    let left : c.loop-place.before - c.births-count.result ≡ c.loop-place.before - births c.line_at.result.now.event = ap (λ (n : ℕ). c.loop-place.before - n) c.births-count.ensures in
    ap (λ (n : ℕ). unwrap_or (slice_get (contents (drop (c.loop-place.place + 1) c.args.lines.now)) n) None) left
    ∙ ap (λ (o : Option (Option ContentText)). unwrap_or o None) (sym (content-later c.args.lines.now c.loop-place.place c.line_at.result.now c.line_at.ensures c.loop-place.before past))
    ∙ c.loop-place.invariant
