-- What a request over HTTP asks (AWS JSON 1.0 for method and target; the limit and the order are this project's own).
use Rattle.std.specs.Prelude.{ℕ, nat_eq, nat_le, nat_lt, if◌then◌else◌, Bool, false, not, ◌==◌, ◌&&◌, ◌||◌, List, length, take, drop, codes, Option, Some, None, Result, Ok, Err}
use Rattle.std.specs.List.{starts_with}
use Rattle.std.specs.Option.{option_map_or}
use Rattle.std.specs.Str.{bytes_eq, is_utf8}
use Rattle.message.specs.declared.fault.Fault.{Fault}
use Rattle.message.specs.declared.fault.Fault.TheVariants.{UnsupportedOperation}
use Rattle.aws_json.specs.Steps.{◌>>=◌}
use Rattle.aws_json.specs.Request.{request_of}
use Rattle.aws_json.specs.declared.request.Request.{Request}
use Rattle.sqs_server.specs.declared.head.Denial.{Denial}
use Rattle.sqs_server.specs.declared.head.Denial.TheVariants.{FromPage, MethodNotAllowed, BodyTooLarge}

-- how many bytes the body of a request may have
abbrev pub body_limit : ℕ
body_limit = 8_388_608

-- as how many bytes a body counts among the large ones of a thread: a small one as none, and one whose size is not announced as the most
abbrev pub counted : Option ℕ → ℕ
counted announced = option_map_or (λ size. if nat_le size 65_536 then 0 else size) announced body_limit

-- why a request is not looked at that comes from no web page, by its method and by the size of its body: the method is judged first
abbrev pub denial_by_size : List ℕ → ℕ → Option Denial
denial_by_size method size =
    if bytes_eq method (codes "POST") then (if nat_lt body_limit size then Some BodyTooLarge else None)
    else Some MethodNotAllowed

-- why a request is not looked at: one that tells an origin, as a browser does for a web page, is never looked at
abbrev pub denial_of : Bool → List ℕ → ℕ → Option Denial
denial_of has_origin method size = if has_origin then Some FromPage else denial_by_size method size

-- A host that a client names is one of the machine's names, and behind it stands nothing or a port.
abbrev pub is_host : List ℕ → List ℕ → Bool
is_host name host =
    bytes_eq (take (length name) host) name
    && (length (drop (length name) host) == 0 || starts_with nat_eq (drop (length name) host) (codes ":"))

-- A host that is not this machine by its loopback names: so a web page names it whose own name was made to lead here.
abbrev pub is_foreign : Option (List ℕ) → Bool
is_foreign None = false
is_foreign (Some host) = not (is_host (codes "localhost") host || is_host (codes "127.0.0.1") host || is_host (codes "[::1]") host)

-- the action that bytes are, where they are a text
abbrev pub action_text : List ℕ → Result (List ℕ) Fault
action_text action = if is_utf8 action then Ok action else Err UnsupportedOperation

-- the action that a target names, behind the service's name; the target has to be there
abbrev pub action_of : Option (List ℕ) → Result (List ℕ) Fault
action_of None = Err UnsupportedOperation
action_of (Some target) = if bytes_eq (take 10 target) (codes "AmazonSQS.") then action_text (drop 10 target) else Err UnsupportedOperation

-- what a target and a body ask: the target is judged before the body
abbrev pub asked_of : Option (List ℕ) → List ℕ → Result Request Fault
asked_of target body = action_of target >>= λ action. request_of action body
