-- What the future of a response gives: a request is judged by its head, its stages follow one another, and what the last one ends with is sent.
use Rattle.std.specs.Prelude.{◌≡◌, ◌≢◌, ◌⊎◌, ⊤, ℕ, is_some, codes, List, [], Bool, Option, Some, None, Result, Ok, Err, unwrap_or}
use Rattle.http.specs.Request as request
use Rattle.http.specs.Response.{body_of, head_of}
use Rattle.http.specs.StatusCode.{IsStatusCode}
use Rattle.http.specs.declared.request.Parts.{Parts}
use Rattle.http.specs.declared.request.Request.{Request}
use Rattle.http.specs.declared.response.Response.{Response}
use Rattle.http_body_util.specs.Collected.{IsCollectOf}
use Rattle.http_header.specs.HeaderMap.{get}
use Rattle.http_body_util.specs.declared.full.Full.{Full}
use Rattle.hyper.specs.Incoming.{size_left}
use Rattle.hyper.specs.declared.body.incoming.Incoming.{Incoming}
use Rattle.hyper.specs.declared.error.Error.{Error}
use Rattle.message.specs.declared.fault.Fault.TheVariants.{OutOfMemory}
use Rattle.tokio.specs.declared.net.stream.TcpStream.{TcpStream}
use Rattle.sqs_server.specs.declared.answering.Way.{Way}
use Rattle.sqs_server.specs.declared.answering.Way.TheVariants as ways
use Rattle.sqs_server.specs.declared.arriving.Arriving.{Arriving}
use Rattle.sqs_server.specs.declared.head.Denial.{Denial}
use Rattle.sqs_server.specs.declared.reply.Sent.{Sent}
use Rattle.sqs_server.specs.declared.stage.Halt.{Halt}
use Rattle.sqs_server.specs.declared.stage.Halt.TheVariants as halts
use Rattle.sqs_server.specs.declared.stage.Next.TheVariants.{On, Ends}
use Rattle.sqs_server.specs.declared.stage.Stage.{Stage}
use Rattle.sqs_server.specs.declared.stage.Stage.TheVariants as stages
use Rattle.sqs_server.specs.declared.stage.Polled.TheVariants.{Goes, Waits}
use Rattle.sqs_server.specs.Head.{body_limit, counted, denial_of}
use Rattle.sqs_server.specs.Sent.{HoldsBody, crowded, denied, refused, reply_headers}
use Rattle.sqs_server.specs.Stages.{IsWokenAt, Turns}

-- ---- what is sent

-- a response sends this: its status, its bytes, and the content type, unless there was no memory for that
pub record Holds (sent : Sent) (response : Response (Full (List ℕ))) : Type 0 where
  pub status : IsStatusCode sent.status → (head_of response).status ≡ sent.status
  pub body : HoldsBody (body_of response) sent.body
  pub headers : ((head_of response).headers ≡ reply_headers) ⊎ ((head_of response).headers ≡ [])

-- a request that ended so gets this
abbrev pub Responds : Result Sent Error → Result (Response (Full (List ℕ))) Error → Type 0
Responds (Ok sent) given = (response : Response (Full (List ℕ))) × (given ≡ Ok response) × Holds sent response
Responds (Err error) given = given ≡ Err error

-- whether a head tells an origin
abbrev pub has_origin : Parts → Bool
has_origin head = is_some (get head.headers (codes "origin"))

-- R is the runtime that the server waits by
module _ {R : Type 0} where
  -- ---- how a request begins

  -- its body comes, under the limit, and counts as so many bytes
  abbrev pub Comes : Parts → Incoming TcpStream → ℕ → Stage R → Type 0
  Comes head body size stage =
      (arriving : Arriving) × (stage ≡ stages.Collecting arriving) × (arriving.head ≡ head) × (arriving.part.size ≡ size)
      × IsCollectOf arriving.body record { remaining = body_limit; inner = body }

  -- denied by its head; or its body comes, unless the bodies that are on their way hold too much: one that counts for nothing always comes
  abbrev pub Judged : Parts → Incoming TcpStream → Option ℕ → Option Denial → Stage R → Type 0
  Judged head body announced (Some denial) stage = stage ≡ stages.Sending (denied denial)
  Judged head body announced None stage = ((counted announced ≢ 0) × (stage ≡ stages.Sending crowded)) ⊎ Comes head body (counted announced) stage

  -- by the parts of a request; a body whose size is not announced is not too large yet
  abbrev pub IsFirstOf : Parts → Incoming TcpStream → Option ℕ → Stage R → Type 0
  IsFirstOf head body announced stage = Judged head body announced (denial_of (has_origin head) head.method (unwrap_or announced 0)) stage

  abbrev pub IsFirstStage : Request (Incoming TcpStream) → Stage R → Type 0
  IsFirstStage asked stage = IsFirstOf (request.head_of asked) (request.body_of asked) (size_left (request.body_of asked).kind) stage

  -- ---- where it waits or ends

  -- a fact of the stage at which a request waits
  abbrev pub OnHeld : Halt R → (Stage R → Type 0) → Type 0
  OnHeld (halts.Waits stage) P = P stage
  OnHeld (halts.Ends ended) P = ⊤

  -- where there was no memory to begin, what is known by the head is sent, and else that refusal
  abbrev pub without_memory : Stage R → Sent
  without_memory (stages.Sending sent) = sent
  without_memory stage = refused OutOfMemory

-- the same, of a server that answers requests at a port
module _ {R : Type 0} (port : ℕ) where
  -- ---- how it ends

  -- a request that is at a stage may end so: turn by turn
  pub data MayEnd : Stage R → Result Sent Error → Type 0 where
    ends : {stage : Stage R} → {ended : Result Sent Error} → Turns port stage (Goes (Ends ended)) → MayEnd stage ended
    goes : {stage next : Stage R} → {ended : Result Sent Error} → Turns port stage (Goes (On next)) → MayEnd next ended → MayEnd stage ended
    waits : {stage left : Stage R} → {ended : Result Sent Error} → Turns port stage (Waits left) → MayEnd left ended → MayEnd stage ended

  -- a request that is at a stage may end as it has ended; or what it waits at may end only as it may
  abbrev pub Halts : Stage R → Halt R → Type 0
  Halts stage (halts.Waits left) = (ended : Result Sent Error) → MayEnd left ended → MayEnd stage ended
  Halts stage (halts.Ends ended) = MayEnd stage ended

  -- a request that is at a stage may get this, where there was memory to begin
  abbrev pub Gives : Stage R → Result (Response (Full (List ℕ))) Error → Type 0
  Gives stage given = (ended : Result Sent Error) × MayEnd stage ended × Responds ended given

-- a response comes so to a request that begins with a stage, of a server that answers requests at a port
abbrev pub Begins : {R : Type 0} → ℕ → Stage R → Way R → Type 0
Begins port stage (ways.Stages request) = (request.value.front.port ≡ port) × (request.value.stage ≡ stage)
Begins port stage (ways.Known sent) = sent ≡ without_memory stage
Begins port stage ways.Over = ⊥

-- the sources that wake who waits for what comes so
abbrev pub WayNeeds : {R : Type 0} → Way R → ℕ → Type 0
WayNeeds (ways.Stages request) source = IsWokenAt request.value.stage source
WayNeeds way source = ⊥

-- what comes so may be this
abbrev pub IsGiven : {R : Type 0} → Way R → Result (Response (Full (List ℕ))) Error → Type 0
IsGiven (ways.Stages request) given = Gives request.value.front.port request.value.stage given
IsGiven (ways.Known sent) given = Responds (Ok sent) given
IsGiven ways.Over given = Responds (Ok (refused OutOfMemory)) given
