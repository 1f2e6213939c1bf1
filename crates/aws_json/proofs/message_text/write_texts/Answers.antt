use Rattle.std.proofs.Common.{◌≡◌, ◌++◌}
use Rattle.aws_json.proofs.OfferedLemmas.{ten_more}
use Rattle.aws_json.proofs.message_text.write_texts.Goals as goal

pub returns-clause-tokens : goal.returns-clause-tokens
returns-clause-tokens c =
    ten_more c.args.out.now.tokens c.begin_object.new.self.tokens c.key.new.self.tokens c.string.new.self.tokens c.key-2.new.self.tokens c.string-2.new.self.tokens c.key-3.new.self.tokens
    c.string-3.new.self.tokens c.key-4.new.self.tokens c.string-4.new.self.tokens c.end_object.new.self.tokens c.args.body.now c.args.digest.now c.args.id.now c.args.handle.now
    c.in_ok-begin_object.ensures.ok c.in_ok-key.ensures.ok c.in_ok-string.ensures.ok c.in_ok-key-2.ensures.ok c.in_ok-string-2.ensures.ok c.in_ok-key-3.ensures.ok c.in_ok-string-3.ensures.ok
    c.in_ok-key-4.ensures.ok c.in_ok-string-4.ensures.ok c.in_ok-end_object.ensures.ok
