-- An alarm may go to another thread.
use denote.Param.Send.{IsSend, sendable}
use Rattle.std.proofs.Crossing.{crosses}
use Rattle.metric_window.proofs.Sending.{cells_send, deed_send}
use Rattle.queue_config.specs.contracts.alarm_rule.AlarmRule as rule
use Rattle.alarm.specs.contracts.kept_alarm.Alarm as alarm

rule_send : IsSend rule.the_row
rule_send = search (sendable, crosses) depth 40 fits 100000

pub alarm_send : IsSend alarm.the_row
alarm_send = search (rule_send, cells_send, deed_send, sendable, crosses) depth 40 fits 100000
