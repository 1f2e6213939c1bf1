-- The ranges of the numbers that are requested.
use Rattle.std.specs.Option.{ForSome}
use Rattle.queue_config.specs.Policy.{IsReceiveLimit}
use Rattle.queue_config.specs.SettingRows.{IsInRange}
use Rattle.queue_config.specs.Settings.{EachSetting, RequestedAttributes}

-- each number is in the range of its setting, and that of receives too where a policy is asked for
pub record AreRequested (requested : RequestedAttributes) : Type 0 where
  pub numbers : EachSetting (λ setting number. ForSome number (λ n. IsInRange setting n)) requested
  pub policy : ForSome requested.redrive_policy (λ asked. ForSome asked (λ policy. IsReceiveLimit policy.max_receive_count))
