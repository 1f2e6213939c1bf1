use Rattle.std.proofs.Common.{◌≡◌, ◌++◌, Some, None, option_map, ap, sym, ◌∙◌}
use Rattle.aws_json.specs.private.Sent.{sent_tokens}
use Rattle.aws_json.proofs.SentLemmas.{five_more, two_more}
use Rattle.aws_json.proofs.batch_reply.write_sent.Goals as goal
use Rattle.aws_json.proofs.batch_reply.write_sent.Goals.{in-Some+in_ok-key+in_ok-string, in_default}

pub returns-clause-tokens : goal.returns-clause-tokens
returns-clause-tokens c =
    let body = c.args.body.now in
    let id = c.args.id.now in
    let more : c.end_object.new.self.tokens ≡ c.match-attributes.out.tokens ++ sent_tokens None body id =
    five_more c.match-attributes.out.tokens c.key-2.new.self.tokens c.string-2.new.self.tokens c.key-3.new.self.tokens c.string-3.new.self.tokens c.end_object.new.self.tokens body id
    c.in_ok-key-2.ensures.ok c.in_ok-string-2.ensures.ok c.in_ok-key-3.ensures.ok c.in_ok-string-3.ensures.ok c.in_ok-end_object.ensures.ok in
    elim c.match-attributes.branch [
      | in-Some+in_ok-key+in_ok-string w ↦
          let first : c.match-attributes.out.tokens ++ sent_tokens None body id ≡ c.args.out.now.tokens ++ sent_tokens (Some w.in-Some.digest.now) body id =
          ap (λ o. o.tokens ++ sent_tokens None body id) w.out-is ∙ two_more c.args.out.now.tokens w.key.new.self.tokens w.string.new.self.tokens w.in-Some.digest.now (sent_tokens None body id) w.in_ok-key.ensures.ok w.in_ok-string.ensures.ok in
          more ∙ first ∙ ap (λ a. c.args.out.now.tokens ++ sent_tokens (option_map (λ s. s.now) a) body id) (sym w.in-Some.is)
      | in_default w ↦ more ∙ ap (λ o. o.tokens ++ sent_tokens None body id) w.out-is
          ∙ ap (λ a. c.args.out.now.tokens ++ sent_tokens (option_map (λ s. s.now) a) body id) (sym w.in_default.is)
    ]
