use Rattle.std.proofs.Common.{◌<◌, length, Option, Some, sym, ap, ◌∙◌, arith}
use Rattle.std.specs.Prelude.{slice_get, option_map}
use Rattle.std.specs.Option.{option_map_or}
use Rattle.message.specs.Content.{ContentText}
use Rattle.journal.specs.declared.base.KeptMessage.{KeptMessage}
use Rattle.journal.specs.declared.entry.Event.{Event}
use Rattle.queue_core.specs.declared.facts.Message.{Message}
use Rattle.queue_core.specs.Messages.{kept_birth, gone_birth, message_in, effect_of}
use Rattle.queue_core.specs.private.Tally.{births}
use Rattle.plain_queue.proofs.NumberingLemmas.{base_many, base_message}
use Rattle.plain_queue.proofs.begun.message_of.Goals as goal

pub returns-in-Base : goal.returns-in-Base
returns-in-Base c =
    let below : c.args.before < length c.in-Base.base.receives =
    omega (arith, c.if-births-before.false, c.births.ensures, ap (λ (e : Event ContentText). births e) c.in-Base.is, base_many c.in-Base.base) in
    ap (λ (m : Message). Some m)
    (c.old_message.ensures ∙ ap (λ (k : Option (KeptMessage ContentText)). message_in c.args.place c.args.number 0 (option_map_or kept_birth k gone_birth)) c.kept_numbered.ensures)
    ∙ sym (base_message c.in-Base.base c.args.place c.args.number c.args.line.now.at c.args.before below)
    ∙ ap (λ (e : Event ContentText). option_map (message_in c.args.place c.args.number c.args.line.now.at) (slice_get (effect_of e).births c.args.before)) (sym c.in-Base.is)
