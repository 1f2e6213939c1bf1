use Rattle.std.proofs.Common.{sym, ◌∙◌}
use Rattle.std.specs.Prelude.{slice_get}
use Rattle.message.specs.Content.{content_size}
use Rattle.queue_config.specs.AlarmRules.{Rule}
use Rattle.queue_core.specs.Metrics.{alarm_state_in}
use Rattle.board.proofs.AlarmLemmas.{slice_get-map, both-parts}
use Rattle.board.proofs.alarms.alarm_at.Goals as goal

pub returns : goal.returns
returns c =
    sym (slice_get-map (λ (rule : Rule). (rule.name, alarm_state_in content_size c.args.queue.now.lines c.args.queue.now.clock rule)) c.args.queue.now.rules c.args.index
    ∙ both-parts (λ (rule : Rule). rule.name) (λ (rule : Rule). alarm_state_in content_size c.args.queue.now.lines c.args.queue.now.clock rule)
    (slice_get c.args.queue.now.rules c.args.index) c.in_ok-name.name c.in_ok-state.state
    (sym c.alarm_name.ensures ∙ c.in_ok-name.was) (sym c.alarm_state.ensures ∙ c.in_ok-state.was))
