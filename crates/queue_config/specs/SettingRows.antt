-- The settings of a queue that are numbers, one row each (Amazon SQS API Reference, SetQueueAttributes). The keys are this project's own.
use Rattle.std.specs.Prelude.{ℕ, ◌≤◌, List, [], ◌∷◌, codes, Option}
use Rattle.std.specs.List.{find}
use Rattle.std.specs.Str.{bytes_eq}
use Rattle.queue_config.specs.declared.setting.Setting.{Setting}
use Rattle.queue_config.specs.declared.setting.Setting.TheVariants.{DelaySeconds, VisibilityTimeout, MessageRetentionPeriod, ReceiveMessageWaitTimeSeconds, MaximumMessageSize}

-- the name of the attribute, the key in a configuration, the range, and what the setting is where nothing is said
pub record SettingRow : Type 0 where
  pub name : List ℕ
  pub key : List ℕ
  pub least : ℕ
  pub most : ℕ
  pub default : ℕ

-- seconds, and bytes for the size
abbrev pub setting_row : Setting → SettingRow
setting_row DelaySeconds = record { name = codes "DelaySeconds"; key = codes "delay_seconds"; least = 0; most = 900; default = 0 }
setting_row VisibilityTimeout = record { name = codes "VisibilityTimeout"; key = codes "visibility_timeout"; least = 0; most = 43200; default = 30 }
setting_row MessageRetentionPeriod = record { name = codes "MessageRetentionPeriod"; key = codes "retention_seconds"; least = 60; most = 1209600; default = 345600 }
setting_row ReceiveMessageWaitTimeSeconds = record { name = codes "ReceiveMessageWaitTimeSeconds"; key = codes "wait_seconds"; least = 0; most = 20; default = 0 }
setting_row MaximumMessageSize = record { name = codes "MaximumMessageSize"; key = codes "maximum_message_size"; least = 1024; most = 1048576; default = 1048576 }

abbrev pub all_settings : List Setting
all_settings = DelaySeconds ∷ VisibilityTimeout ∷ MessageRetentionPeriod ∷ ReceiveMessageWaitTimeSeconds ∷ MaximumMessageSize ∷ []

-- the setting of an attribute's name
abbrev pub setting_named : List ℕ → Option Setting
setting_named name = find (λ setting. bytes_eq name (setting_row setting).name) all_settings

-- the number is in the setting's range
pub record IsInRange (setting : Setting) (n : ℕ) : Type 0 where
  pub least : (setting_row setting).least ≤ n
  pub most : n ≤ (setting_row setting).most
