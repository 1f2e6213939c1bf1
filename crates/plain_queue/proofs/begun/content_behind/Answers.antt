use Rattle.std.proofs.Common.{◌<◌, length, Some, None, sym, ap, ◌∙◌, arith}
use Rattle.std.specs.Prelude.{slice_get, unwrap_or}
use Rattle.std.specs.Option.{option_copied}
use Rattle.message.specs.Content.{ContentText}
use Rattle.journal.specs.declared.entry.Event.{Event}
use Rattle.queue_core.specs.Messages.{contents_in}
use Rattle.queue_core.specs.private.Tally.{births}
use Rattle.plain_queue.proofs.NumberingLemmas.{base_many, base_content}
use Rattle.plain_queue.proofs.begun.content_behind.Goals as goal

pub returns-in-Some : goal.returns-in-Some
returns-in-Some c =
    let below : c.args.before < length c.in-Base.base.receives =
    omega (arith, c.if-births-before.false, c.births.ensures, ap (λ (e : Event ContentText). births e) c.in-Base.is, base_many c.in-Base.base) in
    base_content c.in-Base.base c.args.before (Some c.in-Some.kept.now) below (ap (λ kept. option_copied kept) (sym c.in-Some.is) ∙ c.kept_numbered.ensures)
    ∙ ap (λ (e : Event ContentText). unwrap_or (slice_get (contents_in e) c.args.before) None) (sym c.in-Base.is)

pub returns-in-None : goal.returns-in-None
returns-in-None c =
    let below : c.args.before < length c.in-Base.base.receives =
    omega (arith, c.if-births-before.false, c.births.ensures, ap (λ (e : Event ContentText). births e) c.in-Base.is, base_many c.in-Base.base) in
    base_content c.in-Base.base c.args.before None below (ap (λ kept. option_copied kept) (sym c.in-None.is) ∙ c.kept_numbered.ensures)
    ∙ ap (λ (e : Event ContentText). unwrap_or (slice_get (contents_in e) c.args.before) None) (sym c.in-Base.is)
