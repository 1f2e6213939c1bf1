use Rattle.std.proofs.Common.{ℕ, List, Some, sym, ap, ◌∙◌, arith}
use Rattle.message.specs.declared.id.MessageId.{MessageId}
use Rattle.std.specs.Prelude.{option_map}
use Rattle.uuid.specs.Text.{lower, hyphenated_text}
use Rattle.message.specs.Id.{id_of_bytes, message_id_of}
use Rattle.message.proofs.IdLemmas.{id_of_bytes-message_id_bytes}
use Rattle.message.proofs.id.MessageId.text.Goals as goal

pub returns-clause-text : goal.returns-clause-text
returns-clause-text c = c.in_ok-from_str.ensures.ok ∙ c.encode_lower-text.ensures.text ∙ ap (hyphenated_text lower) (c.hyphenated.ensures ∙ c.from_u64_pair-id.ensures)

pub returns-clause-reads_back : goal.returns-clause-reads_back
returns-clause-reads_back c =
    ap message_id_of c.in_ok-from_str.ensures.ok
    ∙ ap (option_map id_of_bytes) (sym c.encode_lower-text.ensures.parsed)
    ∙ ap (λ (bytes : List ℕ). Some (id_of_bytes bytes)) (c.hyphenated.ensures ∙ c.from_u64_pair-id.ensures)
    ∙ ap (λ (id : MessageId). Some id) (id_of_bytes-message_id_bytes c.args.self (omega arith) (omega arith))
