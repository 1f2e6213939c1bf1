-- A table after one more key of a setting.
use Rattle.std.specs.Prelude.{Option, Some, None, Result, Err}
use Rattle.toml.specs.Data.{Data}
use Rattle.queue_config.specs.declared.config_fault.ConfigFault.{ConfigFault}
use Rattle.queue_config.specs.declared.config_fault.ConfigFault.TheVariants.{UnknownKey}
use Rattle.queue_config.specs.declared.config_text.QueueTable.{QueueTable}
use Rattle.queue_config.specs.declared.setting.Setting.{Setting}
use Rattle.queue_config.specs.ConfigText.{setting_key}

-- the value of a setting's key, where the key has one
abbrev pub with_setting_key : Option Setting → QueueTable → Data → Result QueueTable ConfigFault
with_setting_key None queue d = Err UnknownKey
with_setting_key (Some setting) queue d = (setting_key setting).take queue d
