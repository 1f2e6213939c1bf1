-- What a client reads of a refusal (AWS JSON 1.0 for the form). Its number, status, name and text are those of the table of refusals.
use Rattle.std.specs.Prelude.{List, ℕ, ◌++◌, codes}
use Rattle.message.specs.declared.fault.Fault.{Fault}
pub use Rattle.message.specs.Fault.{fault_name, fault_message, fault_status}
use Rattle.serde_json.specs.Data.{Data, string, object, no_members, member}

-- the reply's JSON text: the name after the service's prefix, and the text
abbrev pub fault_body : Fault → List ℕ
fault_body fault = codes "{\"__type\":\"com.amazonaws.sqs#" ++ fault_name fault ++ codes "\",\"message\":\"" ++ fault_message fault ++ codes "\"}"

-- the same as JSON data
abbrev pub fault_data : Fault → Data
fault_data fault = object (member (codes "__type") (string (codes "com.amazonaws.sqs#" ++ fault_name fault)) (member (codes "message") (string (fault_message fault)) no_members))
