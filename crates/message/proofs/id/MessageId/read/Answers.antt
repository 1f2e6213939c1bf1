use Rattle.std.proofs.Common.{sym, ap}
use Rattle.std.specs.Prelude.{option_map}
use Rattle.message.specs.Id.{id_of_bytes}
use Rattle.message.proofs.IdLemmas.{parsed_none}
use Rattle.message.proofs.id.MessageId.read.Goals as goal

pub returns-in-Err : goal.returns-in-Err
returns-in-Err c = sym (ap (option_map id_of_bytes) (parsed_none c.parse_str.result c.in-Err.field-0 c.args.text.now c.parse_str.ensures.ok c.in-Err.is))
