-- The keys of settings in a queue's table are found as the settings themselves are.
use Rattle.std.proofs.Common.{◌≡◌, ℕ, Bool, true, false, cond, List, [], ◌∷◌, map, Option, Some, Result, refl}
use Rattle.std.specs.Prelude.{if◌then◌else◌}
use Rattle.std.specs.List.{find}
use Rattle.std.specs.Str.{bytes_eq}
use Rattle.toml.specs.Data.{Data}
use Rattle.queue_config.specs.SettingRows.{setting_row}
use Rattle.queue_config.specs.ConfigKeys.{with_key}
use Rattle.queue_config.specs.ConfigText.{setting_key}
use Rattle.queue_config.specs.private.ConfigText.{with_setting_key}
use Rattle.queue_config.specs.declared.config_fault.ConfigFault.{ConfigFault}
use Rattle.queue_config.specs.declared.config_text.QueueTable.{QueueTable}
use Rattle.queue_config.specs.declared.setting.Setting.{Setting}

by_test : (b : Bool) (setting : Setting) (found : Option Setting) (queue : QueueTable) (d : Data) (others : Result QueueTable ConfigFault)
    → others ≡ with_setting_key found queue d
    → (if b then (setting_key setting).take queue d else others) ≡ with_setting_key (cond b (Some setting) found) queue d
by_test true setting found queue d others h = refl
by_test false setting found queue d others h = h

pub with_key-settings : (settings : List Setting) (queue : QueueTable) (key : List ℕ) (d : Data)
    → with_key (map setting_key settings) queue key d ≡ with_setting_key (find (λ setting. bytes_eq key (setting_row setting).key) settings) queue d
with_key-settings [] queue key d = refl
with_key-settings (setting ∷ settings) queue key d =
    by_test (bytes_eq key (setting_row setting).key) setting (find (λ s. bytes_eq key (setting_row s).key) settings) queue d
    (with_key (map setting_key settings) queue key d) (with_key-settings settings queue key d)
