use Rattle.std.proofs.Common.{◌≡◌, ◌++◌, [], ◌∷◌, option_map, string_bytes, ap, ◌∙◌}
use Rattle.json.specs.Token.{Token}
use Rattle.json.specs.Print.{print}
use Rattle.aws_json.specs.private.Sent.{sent_tokens}
use Rattle.aws_json.proofs.SentLemmas.{sent_print}
use Rattle.aws_json.proofs.batch_reply.text_of_sent.Goals as goal

pub returns : goal.returns
returns c =
    let attributes = option_map (λ s. s.now) c.args.attributes in
    let written : c.write_sent.new.out.tokens ≡ Token.begin_object ∷ sent_tokens attributes c.args.body.now c.args.id.now =
    c.in_ok-write_sent.ensures.tokens ∙ ap (λ ts. ts ++ sent_tokens attributes c.args.body.now c.args.id.now) (c.in_ok-begin_object.ensures.ok ∙ ap (λ ts. ts ++ Token.begin_object ∷ []) c.new-out.ensures.tokens) in
    let text : string_bytes c.unwrap.result ≡ c.into_inner.result.items = ap (λ v. v.items) (rw c.unwrap.ensures at c.from_utf8.ensures.ok) in
    let before : c.write_sent.new.out.before ≡ [] = c.in_ok-write_sent.ensures.before ∙ c.in_ok-begin_object.ensures.room.0 ∙ c.new-out.ensures.before ∙ c.in_ok-with_capacity.ensures.items in
    text ∙ c.into_inner.ensures.items ∙ ap (λ b. b ++ print c.write_sent.new.out.tokens) before ∙ ap print written ∙ sent_print attributes c.args.body.now c.args.id.now
