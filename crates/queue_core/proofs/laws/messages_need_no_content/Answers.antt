use Rattle.queue_config.specs.Settings.{default_settings}
use Rattle.queue_core.proofs.MarkLemmas.{messages_from-marks, settings_from-marks, receive_count-marks, receive_order-marks}
use Rattle.queue_core.proofs.laws.messages_need_no_content.Goals as goal

pub returns : goal.returns
returns c = record {
  messages = messages_from-marks 0 0;
  settings = settings_from-marks default_settings;
  receives = λ lines number. receive_count-marks number lines;
  order = receive_order-marks;
}
