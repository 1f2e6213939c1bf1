use Rattle.std.proofs.Common.{◌≡◌, subst, ◌∙◌}
use Rattle.hyper.specs.Incoming.{size_left}
use Rattle.sqs_server.specs.Responses.{IsFirstOf}
use Rattle.sqs_server.proofs.answering.first_stage.Goals as goal

pub returns : goal.returns
returns g c =
    let parts = c.into_parts-head in
    let stage = c.judged.result in
    let known : c.exact-announced.result ≡ size_left parts.result.1.kind = c.exact-announced.ensures ∙ c.size_hint-hint.ensures in
    subst (λ p. IsFirstOf p.0 p.1 (size_left p.1.kind) stage) parts.ensures
    (subst (λ announced. IsFirstOf parts.result.0 parts.result.1 announced stage) known c.judged.ensures)
