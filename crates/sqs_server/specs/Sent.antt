-- What a client is sent: this project's own statuses, and the texts of replies and refusals.
use Rattle.std.specs.Prelude.{◌≡◌, ◌==◌, if◌then◌else◌, ℕ, List, [], length, codes, None, Some, Result, Ok, Err}
use Rattle.http_body_util.specs.declared.full.Full.{Full}
use Rattle.http_header.specs.FieldValue.{FieldValue, plain_value}
use Rattle.http_header.specs.HeaderMap.{Entries, insert}
use Rattle.message.specs.declared.fault.Fault.{Fault}
use Rattle.serde_json.specs.Written.{compact_text}
use Rattle.aws_json.specs.Reply.{reply_data}
use Rattle.aws_json.specs.FaultText.{fault_body, fault_status}
use Rattle.aws_json.specs.declared.reply.ReplyShape.{ReplyShape}
use Rattle.sqs_server.specs.declared.head.Denial.{Denial}
use Rattle.sqs_server.specs.declared.head.Denial.TheVariants.{FromPage, MethodNotAllowed, BodyTooLarge}
use Rattle.sqs_server.specs.declared.reply.Sent.{Sent}

-- where a request is not looked at
abbrev pub denied : Denial → Sent
denied FromPage = record { status = 403; body = codes "{\"message\":\"requests of web pages are not answered\"}" }
denied MethodNotAllowed = record { status = 405; body = codes "{\"message\":\"method not allowed\"}" }
denied BodyTooLarge = record { status = 413; body = codes "{\"message\":\"body too large\"}" }

-- where too much mail waits for a queue
abbrev pub busy : Sent
busy = record { status = 500; body = codes "{\"__type\":\"com.amazonaws.sqs#ServiceUnavailable\",\"message\":\"Too many requests wait for the queue.\"}" }

-- where the bodies that are on their way hold too much together
abbrev pub crowded : Sent
crowded = record { status = 503; body = codes "{\"__type\":\"com.amazonaws.sqs#ServiceUnavailable\",\"message\":\"Too much of other requests is on its way.\"}" }

-- a refusal
abbrev pub refused : Fault → Sent
refused fault = record { status = fault_status fault; body = fault_body fault }

-- a reply, or a refusal, of a server that answers requests at a port
abbrev pub sent_for : ℕ → Result ReplyShape Fault → Sent
sent_for port (Ok shape) = record { status = 200; body = compact_text (reply_data port shape) }
sent_for port (Err fault) = refused fault

-- the headers of every reply (AWS JSON 1.0)
abbrev pub reply_headers : Entries FieldValue
reply_headers = insert [] (codes "content-type") (plain_value (codes "application/x-amz-json-1.0"))

-- the body of a response is these bytes, in one piece
abbrev pub HoldsBody : Full (List ℕ) → List ℕ → Type 0
HoldsBody body bytes = body.buf ≡ (if length bytes == 0 then None else Some bytes)
