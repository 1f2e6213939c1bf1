use Rattle.std.proofs.Common.{◌≡◌, ap, ◌∙◌, subst, map, drop}
use Rattle.message.specs.Content.{content_size}
use Rattle.journal.specs.Weight.{weight_of}
use Rattle.queue_core.specs.States.{gauges_of}
use Rattle.queue_core.specs.Metrics.{current_flows, window_rows, alarm_state_in}
use Rattle.queue_core.specs.Queue.{QueueHistory, at_moment}
use Rattle.queue_core.specs.Legal.{IsLegal}
use Rattle.desk.specs.Printed.{marks_of}
use Rattle.desk.proofs.PrintLemmas.{unmoved}
use Rattle.desk.proofs.turn.Turn.of.Goals as goal

pub returns-clause-ok : goal.returns-clause-ok
returns-clause-ok c =
    let q : QueueHistory = c.args.queue.now in let new : QueueHistory = c.look-look.new.self in
    let stays : at_moment q c.zero.result ≡ q = ap (at_moment q) c.zero.ensures ∙ unmoved q in
    let same : new ≡ q = c.look-look.ensures.state ∙ stays in
    let marks = c.in_ok-marks.ensures.marks ∙ ap (λ lines. marks_of (drop c.args.told lines)) (c.journal.ensures.lines ∙ ap (λ (x : QueueHistory). x.lines) same) in
    let clock = ap (λ l. l.clock) c.look-look.ensures.answer ∙ ap (λ (x : QueueHistory). x.clock) stays in
    let lines = ap (λ l. l.lines) c.look-look.ensures.answer ∙ ap (λ (x : QueueHistory). weight_of x.lines) stays in
    let gauges = c.gauges.ensures.counts ∙ ap (λ (x : QueueHistory). gauges_of x.lines x.clock) same in
    let current = c.current.ensures ∙ ap (λ (x : QueueHistory). current_flows content_size x.lines x.clock) same in
    let rows = c.in_ok-rows_at.ensures.ok ∙ ap (λ (x : QueueHistory). window_rows content_size x.lines x.clock) same in
    let alarms = c.in_ok-alarm_states.ensures.states ∙ ap (λ (x : QueueHistory). map (λ rule. alarm_state_in content_size x.lines x.clock rule) x.rules) same in
    λ k. record { marks = marks k; clock = clock k; lines = lines k; gauges = gauges k; current = current k; rows = rows k; alarms = alarms k }

pub returns-clause-legal : goal.returns-clause-legal
returns-clause-legal c =
    let q : QueueHistory = c.args.queue.now in
    let same : c.look-look.new.self ≡ q = c.look-look.ensures.state ∙ (ap (at_moment q) c.zero.ensures ∙ unmoved q) in
    subst IsLegal same c.gauges.ensures.legal
