use Rattle.std.proofs.Common.{subst}
use Rattle.queue_config.specs.Settings.{QueueSettings, AreSettings}
use Rattle.queue_core.specs.declared.command.Command.TheVariants as commands
use Rattle.queue_core.proofs.commands.InPlaceLemmas.{placed}
use Rattle.queue_core.proofs.commands.LegalLemmas.{caused_in, event-set}
use Rattle.queue_core.proofs.state.QueueState.set_now.Goals as goal

pub add-requires : goal.add-requires
add-requires c = caused_in c.args.self.now _ (commands.Set c.args.wish.now c.args.target) (subst (λ (s : QueueSettings). AreSettings s) c.settings_with-settings.ensures.settings c.settings_with-settings.ensures.range)
    (rw c.settings_with-settings.ensures.settings (event-set c.args.self.now c.requires.open c.args.wish.now c.args.target))
    (placed c.args.self.now (commands.Set c.args.wish.now c.args.target) c.requires.place)
