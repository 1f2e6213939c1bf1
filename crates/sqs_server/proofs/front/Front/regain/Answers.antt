use Rattle.std.proofs.Common.{ap, subst, ◌∙◌, Some}
use Rattle.std.specs.Arc.{arc_value}
use Rattle.sqs_server.specs.Stages.{Resumes, outcome}
use Rattle.sqs_server.proofs.front.Front.regain.Goals as goal

pub returns : goal.returns
returns g c =
    let parts = c.into_parts-desk in
    let queue = c.new-queue in
    let same = c.outcome_of.ensures ∙ ap (λ command. outcome command parts.result.3) parts.ensures.reply.0
    ∙ ap (λ reply. outcome c.args.answer.command reply) parts.ensures.reply.1 in (
      queue.result,
      queue.ensures.0,
      ap arc_value queue.ensures.1 ∙ parts.ensures.call.0,
      queue.ensures.2 ∙ parts.ensures.call.1,
      subst (λ became. Resumes c.args.self.now.port c.args.uid (Some queue.result) c.args.at c.args.purpose became c.resume.result) same c.resume.ensures,
    )
