use Rattle.std.proofs.Common.{◌≡◌, false, MatchBool, inr, sym, subst, ◌∙◌}
use Rattle.sqs_server.specs.Stages.{AsksSoon, Sends, goes_by_mail}
use Rattle.sqs_server.proofs.front.Front.ask.Goals as goal

pub returns-in-Err : goal.returns-in-Err
returns-in-Err g c =
    let soon : goes_by_mail c.args.command c.args.seconds ≡ false = sym c.goes_by_mail.ensures ∙ c.if-goes_by_mail.false in
    subst (λ mails. MatchBool mails (Sends c.args.self.now.port c.args.queue c.args.at c.args.command c.args.seconds c.args.purpose c.send-in-Err.result)
    (AsksSoon c.args.self.now.port c.args.queue c.args.at c.args.command c.args.purpose c.send-in-Err.result)) (sym soon)
    (inr (c.in-Err.back, c.in-Err.ensures.back, c.send-in-Err.ensures))
