use Rattle.queue_config.specs.AlarmRules.{metrics, operators}
use Rattle.queue_config.proofs.NameLemmas.{metric_by_name, operator_by_name, has_row}
use Rattle.queue_config.proofs.laws.each_is_found_by_its_own_name.Goals as goal

pub returns : goal.returns
returns c = record {
  metrics = metric_by_name;
  no_other_metric = λ name metric h. has_row name metric metrics h;
  operators = operator_by_name;
  no_other_operator = λ name operator h. has_row name operator operators h;
}
