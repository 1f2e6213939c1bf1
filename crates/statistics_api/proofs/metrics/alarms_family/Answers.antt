use Rattle.std.proofs.Common.{◌≡◌, codes, ap, ◌∙◌}
use Rattle.std.specs.Prelude.{Ok, flat_map, string_bytes}
use Rattle.statistics_api.specs.Metrics.{head_text, queue_alarms_text}
use Rattle.statistics_api.proofs.JoinLemmas.{joined_map}
use Rattle.statistics_api.proofs.metrics.alarms_family.Goals as goal

pub returns : goal.returns
returns c =
    let first : string_bytes c.in_ok-first.first ≡ head_text (codes "gauge") (codes "jutkariq_queue_alarm_state") (codes "1 for the state that the alarm is in, 0 for the two others.") = cc (c.in_ok-first.ensures) in
    let each : string_bytes c.in_ok-lines.lines ≡ flat_map (λ s. queue_alarms_text s.now) c.args.sheets.now = cc (c.in_ok-lines.ensures) in
    let lines = each ∙ joined_map queue_alarms_text (λ s. s.now) c.args.sheets.now in
    ap Ok (rw (first, lines) at c.in_ok-format.ensures.ok)
