use Rattle.std.proofs.Common.{◌++◌, ap, ◌∙◌}
use Rattle.queue_actor.specs.Course.{given_in}
use Rattle.queue_actor.proofs.ScriptLemmas.{script_goes, over_empty}
use Rattle.actor_script.proofs.fakes.serve_all.Goals as goal

pub returns-then-script : goal.returns-then-script
returns-then-script g c =
    let served = c.run.ensures.served in
    let all = script_goes (λ s. s.mails.items) (λ s. s.given.items) (λ s. s.is_whole) _ c.run.new.mailbox served.1 served.3 c.if-script.true in (
      served.0,
      c.run.new.mailbox.mails.items,
      served.1,
      served.2,
      all.1,
      all.2 ∙ ap (λ given. given ++ given_in served.1) c.new.ensures.items,
      over_empty (λ s. s.mails.items) (λ s. s.given.items) (λ s. s.is_whole) _ c.run.new.mailbox served.1 served.3,
    )
