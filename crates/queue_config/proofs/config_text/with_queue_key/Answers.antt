use Rattle.std.proofs.Common.{◌≡◌, false, sym, ap, ◌∙◌}
use Rattle.std.specs.Prelude.{codes}
use Rattle.std.specs.Str.{bytes_eq}
use Rattle.toml.specs.View.{view}
use Rattle.queue_config.specs.private.ConfigText.{with_setting_key}
use Rattle.queue_config.specs.SettingRows.{all_settings}
use Rattle.queue_config.proofs.KeyLemmas.{with_key-settings}
use Rattle.queue_config.proofs.config_text.with_queue_key.Goals as goal

pub returns : goal.returns
returns c =
    let no_name : bytes_eq c.args.key.now (codes "name") ≡ false = sym c.eq.ensures ∙ c.if-eq.false in
    let no_target : bytes_eq c.args.key.now (codes "dead_letter_queue") ≡ false = sym c.eq-2.ensures ∙ c.if-eq-2.false in
    let no_count : bytes_eq c.args.key.now (codes "max_receive_count") ≡ false = sym c.eq-3.ensures ∙ c.if-eq-3.false in
    rw (no_name, no_target, no_count) (c.with_setting_key.ensures
    ∙ ap (λ setting. with_setting_key setting c.args.queue (view c.args.value.now)) c.setting_with_key.ensures
    ∙ sym (with_key-settings all_settings c.args.queue c.args.key.now (view c.args.value.now)))
