use Rattle.std.proofs.Common.{option_map, string_bytes, ap, ◌∙◌}
use Rattle.request_log.specs.Actions.{name_at, place_of}
use Rattle.request_log.specs.Line.{told_queue}
use Rattle.request_log.proofs.LineLemmas.{line_written}
use Rattle.request_log.proofs.line.line_for.Goals as goal

pub returns-clause-line : goal.returns-clause-line
returns-clause-line c =
    line_written c.line_of.result (λ s. string_bytes s) c.args.at c.name_at-action.result.now (name_at (place_of c.args.action.now)) (option_map (λ q. q.now) c.as_ref.result) (told_queue c.args.body.now)
    c.args.reply.now.status (option_map (λ r. (r.now.name.now, string_bytes r.now.words)) c.as_ref-2.result) c.line_of.ensures
    (c.name_at-action.ensures ∙ ap name_at c.place_of.ensures.place) (c.as_ref.ensures.value ∙ c.in_ok-queue.ensures.queue)
