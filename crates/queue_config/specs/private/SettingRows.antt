-- The setting of a key of the configuration.
use Rattle.std.specs.Prelude.{ℕ, List, Option}
use Rattle.std.specs.List.{find}
use Rattle.std.specs.Str.{bytes_eq}
use Rattle.queue_config.specs.declared.setting.Setting.{Setting}
use Rattle.queue_config.specs.SettingRows.{setting_row, all_settings}

-- the setting of a key
abbrev pub setting_with_key : List ℕ → Option Setting
setting_with_key key = find (λ setting. bytes_eq key (setting_row setting).key) all_settings
