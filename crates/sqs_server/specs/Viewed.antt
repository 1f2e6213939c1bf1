-- What is sent at the port of the statistics (this project's own).
use Rattle.std.specs.Prelude.{◌≡◌, ◌⊎◌, ℕ, nat_lt, ◌&&◌, MatchBool, Option, option_map, List, [], codes, unwrap_or}
use Rattle.std.specs.List.{All}
use Rattle.std.specs.Str.{bytes_eq}
use Rattle.board.specs.Sheet.{Sheet}
use Rattle.http.specs.Request as request
use Rattle.http.specs.Response.{body_of, head_of}
use Rattle.http.specs.StatusCode.{IsStatusCode}
use Rattle.http.specs.declared.request.Parts.{Parts}
use Rattle.http.specs.declared.request.Request.{Request}
use Rattle.http.specs.declared.response.Response.{Response}
use Rattle.http_body_util.specs.declared.full.Full.{Full}
use Rattle.http_header.specs.FieldValue.{FieldValue, plain_value}
use Rattle.http_header.specs.HeaderMap.{Entries, get, insert}
use Rattle.http_uri.specs.Uri.{uri_path}
use Rattle.hyper.specs.Incoming.{size_left}
use Rattle.hyper.specs.declared.body.incoming.Incoming.{Incoming}
use Rattle.queue_actor.specs.Reading.{IsSheetUnder}
use Rattle.statistics_api.specs.Answer.{out_of_memory}
use Rattle.statistics_api.specs.Asked.{TellsOfQueues}
use Rattle.statistics_api.specs.Metrics.{served_text}
use Rattle.statistics_api.specs.Response.{TypedText, as_json, response_of}
use Rattle.statistics_api.specs.declared.served.ServerFacts.{ServerFacts}
use Rattle.tokio.specs.declared.net.stream.TcpStream.{TcpStream}
use Rattle.sqs_server.specs.Head.{body_limit, is_foreign}
use Rattle.sqs_server.specs.Sent.{HoldsBody}

-- lack of memory
abbrev pub no_memory : TypedText
no_memory = as_json out_of_memory

-- where the body of a request is too long
abbrev pub body_too_large : TypedText
body_too_large = as_json (413, codes "{\"message\":\"body too large\"}")

-- the headers of a response of a content type
abbrev pub typed_headers : List ℕ → Entries FieldValue
typed_headers kind = insert [] (codes "content-type") (plain_value kind)

-- a response sends this: its status, its bytes, and the content type, unless there was no memory for that
pub record Sends (told : TypedText) (response : Response (Full (List ℕ))) : Type 0 where
  pub status : IsStatusCode told.0 → (head_of response).status ≡ told.0
  pub body : HoldsBody (body_of response) told.2
  pub headers : ((head_of response).headers ≡ typed_headers told.1) ⊎ ((head_of response).headers ≡ [])

-- each of these was printed of a queue that was opened under its name
abbrev pub ArePrinted : List Sheet → Type 0
ArePrinted sheets = All (λ sheet. IsSheetUnder sheet.name sheet) sheets

-- A method and a path are answered by what was printed of some queues and by what a server tells of itself. There may be no memory for an answer that tells of
-- queues, and for no other.
abbrev pub IsTold : List ℕ → List ℕ → TypedText → Type 0
IsTold method path told =
    ((sheets : List Sheet) × ArePrinted sheets × (served : ServerFacts) × (told ≡ response_of method path sheets (served_text served)))
    ⊎ ((told ≡ no_memory) × TellsOfQueues method path)

-- the same, where a body of this least size is not too large for the one method whose bodies are looked at
abbrev pub IsJudgedBySize : List ℕ → List ℕ → ℕ → TypedText → Type 0
IsJudgedBySize method path size told =
    MatchBool (bytes_eq method (codes "GET") && nat_lt body_limit size) (told ≡ body_too_large) (IsTold method path told)

-- where a client names another host than this machine
abbrev pub foreign_host : TypedText
foreign_host = as_json (403, codes "{\"message\":\"this host is not served\"}")

-- the same, behind the host that the client names
abbrev pub IsJudged : Option (List ℕ) → List ℕ → List ℕ → ℕ → TypedText → Type 0
IsJudged host method path size told = MatchBool (is_foreign host) (told ≡ foreign_host) (IsJudgedBySize method path size told)

-- the host that a head names
abbrev pub host_in : Parts → Option (List ℕ)
host_in head = option_map (λ value. value.bytes) (get head.headers (codes "host"))

-- a request is judged by the host that it names, by its method, by the size that is announced for its body, where one is, and by its path
abbrev pub IsAnswered : Request (Incoming TcpStream) → Response (Full (List ℕ)) → Type 0
IsAnswered asked response =
    (told : TypedText)
    × IsJudged (host_in (request.head_of asked)) (request.head_of asked).method (uri_path (request.head_of asked).uri)
    (unwrap_or (size_left (request.body_of asked).kind) 0) told
    × Sends told response
