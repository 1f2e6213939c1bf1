-- What comes of each stage of a request: what a client is told, or what is asked of which queue next, at which moment and for which purpose. Of the
-- directory no clause says which queues it has, so a queue that was found under a name is some queue that was opened under it.
use Rattle.std.specs.Prelude.{◌≡◌, ◌≢◌, ◌⊎◌, ◌||◌, nat_lt, Bool, true, false, ℕ, List, codes, Option, Some, None, Result, Ok, Err, IfOk, IfErr, IsSomeAnd, IsErrAnd, MatchBool, ok_or, option_map}
use Rattle.std.specs.Arc.{arc_value}
use Rattle.aws_json.specs.Steps.{result_map}
use Rattle.aws_json.specs.declared.reply.ReplyShape.{ReplyShape}
use Rattle.aws_json.specs.declared.reply.ReplyShape.TheVariants as shapes
use Rattle.aws_json.specs.declared.request.Request.{Request}
use Rattle.board.specs.Printed.{Publications}
use Rattle.desk.specs.Views.{SeesMore}
use Rattle.futures.specs.Channel.{completed_source}
use Rattle.http.specs.declared.request.Parts.{Parts}
use Rattle.http_body_util.specs.Collected as gathering
use Rattle.http_body_util.specs.Collected.{collected_bytes}
use Rattle.http_body_util.specs.Limited.{Limits}
use Rattle.http_body_util.specs.declared.collected.Collected.{Collected}
use Rattle.http_body_util.specs.declared.combinators.collect.Collect.{Collect}
use Rattle.http_body_util.specs.declared.limited.Limited.{Limited}
use Rattle.http_body_util.specs.declared.limited.LimitedError.{LimitedError}
use Rattle.http_body_util.specs.declared.limited.LimitedError.TheVariants as limits
use Rattle.http_header.specs.HeaderMap.{get}
use Rattle.hyper.specs.Error.{kind_of}
use Rattle.hyper.specs.Incoming.{IncomingNeeds, IncomingYields}
use Rattle.hyper.specs.declared.body.incoming.Incoming.{Incoming}
use Rattle.hyper.specs.declared.error.Error.{Error}
use Rattle.hyper.specs.declared.error.Kind.TheVariants as kinds
use Rattle.message.specs.Fault.{Meets}
use Rattle.message.specs.declared.fault.Fault.{Fault}
use Rattle.message.specs.declared.fault.Fault.TheVariants.{OutOfMemory, QueueDoesNotExist, QueueNameExists, InvalidAttributeValue, ActorGone}
use Rattle.queue_actor.specs.Answered.{Answered}
use Rattle.queue_actor.specs.Asking.{Asking, IfSent, IfUnsent, MayGive, WaitsAt, is_for_actor, waiting_question}
use Rattle.queue_actor.specs.Questions.{IsAnswerTo, question}
use Rattle.queue_actor.specs.declared.fault.AskFault.{AskFault}
use Rattle.queue_config.specs.Settings.{QueueSettings, RequestedAttributes, requested_target, same_settings, settings_with}
use Rattle.queue_core.specs.declared.command.Command.{Command}
use Rattle.queue_core.specs.declared.command.Command.TheVariants as commands
use Rattle.queue_core.specs.declared.reply.Reply.{Reply}
use Rattle.queue_core.specs.declared.reply.Reply.TheVariants as replies
use Rattle.redrive.specs.Catalog.{NameDirectory, IsDirectory, names_listed, source_names, uid_of_name}
use Rattle.std.specs.Str.{bytes_eq}
use Rattle.tokio.specs.declared.net.stream.TcpStream.{TcpStream}
use Rattle.sqs_server.specs.declared.arriving.Arriving.{Arriving}
use Rattle.sqs_server.specs.declared.head.Denial.TheVariants.{BodyTooLarge}
use Rattle.request_plan.specs.declared.plan.Performed.{Performed}
use Rattle.request_plan.specs.declared.plan.Step.{Step}
use Rattle.request_plan.specs.declared.plan.Step.TheVariants as steps
use Rattle.request_plan.specs.declared.plan.Then.{Then}
use Rattle.request_plan.specs.declared.plan.Then.TheVariants as thens
use Rattle.sqs_server.specs.declared.order.Made.{Made}
use Rattle.sqs_server.specs.declared.order.MadePlace.{MadePlace}
use Rattle.sqs_server.specs.declared.order.Order.{Order}
use Rattle.sqs_server.specs.declared.queues.Queue.{Queue}
use Rattle.sqs_server.specs.declared.reply.Sent.{Sent}
use Rattle.sqs_server.specs.declared.stage.Creation.{Creation}
use Rattle.sqs_server.specs.declared.stage.Exchange.{Exchange}
use Rattle.sqs_server.specs.declared.stage.Next.{Next}
use Rattle.sqs_server.specs.declared.stage.Next.TheVariants.{On, Ends}
use Rattle.sqs_server.specs.declared.stage.Postponed.{Postponed}
use Rattle.sqs_server.specs.declared.stage.Purpose.{Purpose}
use Rattle.sqs_server.specs.declared.stage.Purpose.TheVariants as purposes
use Rattle.sqs_server.specs.declared.stage.Stage.{Stage}
use Rattle.sqs_server.specs.declared.stage.Stage.TheVariants as stages
use Rattle.sqs_server.specs.declared.stage.Polled.{Polled}
use Rattle.sqs_server.specs.declared.stage.Polled.TheVariants.{Goes, Waits}
use Rattle.request_plan.specs.declared.task.Task.{Task}
use Rattle.request_plan.specs.declared.task.Task.TheVariants as tasks
use Rattle.sqs_server.specs.Head.{action_of, asked_of}
use Rattle.request_plan.specs.Plan.{Follows, after}
use Rattle.sqs_server.specs.Orders.{IsMadeFor, IsOrder}
use Rattle.sqs_server.specs.Sent.{busy, denied, refused, sent_for}
use Rattle.request_plan.specs.Task.{Begins}
use Rattle.sqs_server.specs.Times.{wait_limit}

-- ---- what a client is sent

-- a body that did not come whole: one that is too long is denied, lack of memory is refused, and where the connection failed nothing is sent
abbrev pub SentOfError : LimitedError Error → Result Sent Error → Type 0
SentOfError limits.LengthLimit sent = sent ≡ Ok (denied BodyTooLarge)
SentOfError (limits.Body error) sent =
    ((kind_of error ≡ kinds.OutOfMemory) × (sent ≡ Ok (refused OutOfMemory))) ⊎ ((kind_of error ≢ kinds.OutOfMemory) × (sent ≡ Err error))

-- what a client is sent where no queue is found for it
abbrev pub IsLost : Sent → Type 0
IsLost sent = (sent ≡ refused QueueDoesNotExist) ⊎ (sent ≡ refused OutOfMemory)

-- the same, or too much mail waits for the one that is found
abbrev pub IsTurnedAway : Sent → Type 0
IsTurnedAway sent = IsLost sent ⊎ (sent ≡ busy)

-- whether a step asks for a queue's attributes
abbrev pub is_for_attributes : Step → Bool
is_for_attributes (steps.Ask command seconds (thens.Attributes queue names)) = true
is_for_attributes _ = false

-- what a client is sent whose queue is there: there is no memory for a pass of it, or too much mail waits for it
abbrev pub IsHeldUp : Sent → Type 0
IsHeldUp sent = (sent ≡ refused OutOfMemory) ⊎ (sent ≡ busy)

-- what a client is sent for whose step no queue is found, or too busy a one: none is too busy to tell its attributes
abbrev pub IsTurnedAwayWith : Step → Sent → Type 0
IsTurnedAwayWith step sent = MatchBool (is_for_attributes step) (IsLost sent) (IsTurnedAway sent)

-- ---- what is found, and what becomes of it

-- a queue that is looked for is not there, or there is no memory for a pass of it
abbrev pub IsMissed : Fault → Type 0
IsMissed fault = (fault ≡ QueueDoesNotExist) ⊎ (fault ≡ OutOfMemory)

-- the uid of the dead-letter queue that a queue of a name is to have, 0 for none: a directory has it, and it is another one
abbrev pub IsTarget : List ℕ → Option (Option (List ℕ)) → Result ℕ Fault → Type 0
IsTarget own (Some (Some name)) found =
    MatchBool (bytes_eq name own) (found ≡ Err InvalidAttributeValue)
    ((listed : NameDirectory) × IsDirectory listed × (found ≡ ok_or (uid_of_name listed name) InvalidAttributeValue))
IsTarget own asked found = found ≡ Ok 0

-- what became of a command that was answered
abbrev pub outcome : Command → Result Reply Fault → Result Performed Fault
outcome command reply = result_map (λ told. record { command = command; reply = told }) reply

-- whether a command that may wait so many seconds is left to the actor of its queue: what waits is, and what is for it alone
abbrev pub goes_by_mail : Command → ℕ → Bool
goes_by_mail command seconds = nat_lt 0 seconds || is_for_actor command

-- the value of the header that names the action
abbrev pub target_in : Parts → Option (List ℕ)
target_in head = option_map (λ value. value.bytes) (get head.headers (codes "x-amz-target"))

-- what may come of a body that is collected: the data of all its frames under its limit, or the first error, or lack of memory
abbrev pub MayCollect : Collect (Limited (Incoming TcpStream)) → Result Collected (LimitedError Error) → Type 0
MayCollect body given =
    IsSomeAnd body.collected (λ held.
    gathering.Collects (λ piece bytes. bytes ≡ piece) (Limits (λ piece. piece) (IncomingYields body.body.inner) body.body.remaining) held given)
    ⊎ IsErrAnd given (λ error. (cause : Error) × (error ≡ limits.Body cause) × (kind_of cause ≡ kinds.OutOfMemory))

-- R is the runtime that the server waits by
module _ {R : Type 0} where
  -- ---- what ends a request

  -- a refusal
  abbrev pub refuses : Fault → Next R
  refuses fault = Ends (Ok (refused fault))

  -- ---- queues

  -- a queue at hand is the one that was opened under its uid
  abbrev pub IsOpened : Queue R → Type 0
  IsOpened queue = queue.pass.start.uid ≡ queue.uid

  -- the same, and under a name
  abbrev pub IsOpenedAs : List ℕ → Queue R → Type 0
  IsOpenedAs name queue = (queue.pass.start.name ≡ name) × IsOpened queue

  -- a queue was found that was opened under a name, and this holds of it; or the client is sent something else, of which that holds
  abbrev pub Opens : List ℕ → (Queue R → Type 0) → (Sent → Type 0) → Next R → Type 0
  Opens name P Else next =
      ((queue : Queue R) × IsOpenedAs name queue × P queue)
      ⊎ ((sent : Sent) × Else sent × (next ≡ Ends (Ok sent)))

  -- the target that is asked for a queue of a name was found, and this holds of its uid; or the request is refused
  abbrev pub Targets : List ℕ → RequestedAttributes → (ℕ → Type 0) → Next R → Type 0
  Targets own wish P next =
      (found : Result ℕ Fault) × IsTarget own (requested_target wish) found × IfOk found P × IfErr found (λ fault. next ≡ refuses fault)

  -- ---- a queue is asked or ordered

  -- A command is mailed to the actor of a queue at a moment, with its desk and its pass, and waits so many seconds at most for its answer. A mail that could
  -- not be put has left the pass where it was.
  abbrev pub Mails : Queue R → ℕ → Command → ℕ → Asking → Type 0
  Mails queue at command seconds asking =
      IfSent asking (λ asked source. asked ≡ question (arc_value queue.desk) queue.pass at command (wait_limit at seconds))
      × IfUnsent asking (λ kept. kept ≡ queue.pass) × (asking ≢ Asking.Over)

  -- nothing was asked: the same queue, with what its pass has seen meanwhile, the command and its purpose come back
  pub record IsPostponed (queue : Queue R) (command : Command) (purpose : Purpose) (back : Postponed R) : Type 0 where
    pub uid : back.queue.uid ≡ queue.uid
    pub desk : back.queue.desk ≡ queue.desk
    pub seen : SeesMore queue.pass back.queue.pass
    pub same_command : back.command ≡ command
    pub same_purpose : back.purpose ≡ purpose

  -- There is an order for one, and what becomes of it is awaited where that is told. The client may be turned away
  abbrev pub Ordered : Creation → ℕ → Next R → Type 0
  Ordered creation target next =
      ((order : Order) × IsOrder creation target order.ordered
      × ((made : MadePlace) × (arc_value made.cell ≡ order.ordered) × (order.slot.source ≡ completed_source made.told)
      × (next ≡ On (stages.Making creation made))))
      ⊎ (next ≡ refuses OutOfMemory) ⊎ (next ≡ Ends (Ok busy)) ⊎ (next ≡ refuses ActorGone)

  -- ---- turns

  -- the sources that wake a request that waits at a stage: that of its body, of its order or of its answer. One that lets others have a turn asks for it itself
  abbrev pub IsWokenAt : Stage R → ℕ → Type 0
  IsWokenAt (stages.Collecting arriving) source = IncomingNeeds arriving.body.body.inner source
  IsWokenAt (stages.Making creation made) source = source ≡ completed_source made.told
  IsWokenAt (stages.Asking exchange) source = WaitsAt exchange.future source
  IsWokenAt stage source = ⊥

  -- a stage goes on, and this holds of it; or it waits, and this holds of the stage that is left
  abbrev pub Leads : (Next R → Type 0) → (Stage R → Type 0) → Polled R → Type 0
  Leads goes waits (Goes next) = goes next
  Leads goes waits (Waits stage) = waits stage

-- the same, of a server that answers requests at a port
module _ {R : Type 0} (port : ℕ) where
  -- an answer; a reply that there is no memory for is told as that refusal
  abbrev pub Tells : Result ReplyShape Fault → Next R → Type 0
  Tells answer next =
      (sent : Sent) × (next ≡ Ends (Ok sent)) × ((sent ≡ sent_for port answer) ⊎ (sent ≡ refused OutOfMemory))
      × IfErr answer (λ fault. sent ≡ refused fault)

  -- ---- a command was answered

  -- one that closes a queue or gives it settings: what it changes beside the queue its actor does
  abbrev pub Changed : {T : Type 0} → Result T Fault → Next R → Type 0
  Changed (Ok done) next = Tells (Ok shapes.Nothing) next
  Changed (Err fault) next = next ≡ refuses fault

  -- a look at a queue whose name another is to have: it is that one where it has the settings already
  abbrev pub Compared : Creation → QueueSettings → Next R → Type 0
  Compared creation settings next =
      Targets creation.name creation.wish (λ target.
      MatchBool (same_settings (settings_with settings creation.wish target) settings)
      (Tells (Ok (shapes.QueueUrl creation.name)) next) (next ≡ refuses QueueNameExists)) next

  -- the same; one that was closed is made anew
  abbrev pub Seen : Creation → Reply → Next R → Type 0
  Seen creation (replies.Looked look) next =
      MatchBool look.closed (next ≡ On (stages.Creating creation)) (Compared creation look.settings next)
  Seen creation reply next = Tells (Ok (shapes.QueueUrl creation.name)) next

  -- the same; one whose actor has ended is made anew
  abbrev pub Looked : Creation → Result Performed Fault → Next R → Type 0
  Looked creation (Ok done) next = Seen creation done.reply next
  Looked creation (Err ActorGone) next = next ≡ On (stages.Creating creation)
  Looked creation (Err fault) next = next ≡ refuses fault

  -- what became of a command is for its purpose
  abbrev pub Resumes : ℕ → Option (Queue R) → ℕ → Purpose → Result Performed Fault → Next R → Type 0
  Resumes uid queue at (purposes.Plan then) outcome next =
      (step : Step) × (next ≡ On (stages.Going uid queue at step)) × Follows then step (after uid then outcome)
  Resumes uid queue at purposes.Change outcome next = Changed outcome next
  Resumes uid queue at (purposes.Existing creation) outcome next = Looked creation outcome next

  -- an answer is for its purpose, and the queue of a uid that gave it is at hand again
  abbrev pub Regains : ℕ → ℕ → Purpose → Answered → Next R → Type 0
  Regains uid at purpose answer next =
      (queue : Queue R) × (queue.uid ≡ uid) × (arc_value queue.desk ≡ answer.desk) × (queue.pass ≡ answer.pass)
      × Resumes uid (Some queue) at purpose (outcome answer.command answer.reply) next

  -- It goes on with the queue that answered, at the moment and for the purpose of the exchange; where there is no answer, without a queue and with
  -- the fault.
  abbrev pub Returned : {P T : Type 0} → Exchange R → Result Answered (AskFault P T) → Next R → Type 0
  Returned exchange (Ok answer) next = Regains exchange.uid exchange.at exchange.purpose answer next
  Returned exchange (Err lost) next = Resumes exchange.uid None exchange.at exchange.purpose (Err lost.fault) next

  -- ---- a command is asked

  -- A command is sent for a purpose. Where there is no memory for the mail, that is what became of the command.
  abbrev pub Sends : Queue R → ℕ → Command → ℕ → Purpose → Next R → Type 0
  Sends queue at command seconds purpose next =
      ((exchange : Exchange R) × (next ≡ On (stages.Asking exchange)) × (exchange.uid ≡ queue.uid) × (exchange.at ≡ at)
      × (exchange.purpose ≡ purpose) × Mails queue at command seconds exchange.future)
      ⊎ Resumes queue.uid None at purpose (Err OutOfMemory) next

  -- a command was asked right now: what is told is the reply to that very question
  abbrev pub AsksNow : Queue R → ℕ → Command → Purpose → Next R → Type 0
  AsksNow queue at command purpose next =
      (answer : Answered) × IsAnswerTo (question (arc_value queue.desk) queue.pass at command at) answer × Regains queue.uid at purpose answer next

  -- a command that does not wait is asked right now, or is sent where nothing was asked
  abbrev pub AsksSoon : Queue R → ℕ → Command → Purpose → Next R → Type 0
  AsksSoon queue at command purpose next =
      AsksNow queue at command purpose next
      ⊎ ((back : Postponed R) × IsPostponed queue command purpose back × Sends back.queue at back.command 0 back.purpose next)

  -- a command is asked: one that waits, and one that is for the queue's actor alone, is sent
  abbrev pub Asks : Queue R → ℕ → Command → ℕ → Purpose → Next R → Type 0
  Asks queue at command seconds purpose next =
      MatchBool (goes_by_mail command seconds) (Sends queue at command seconds purpose next) (AsksSoon queue at command purpose next)

  -- the queue of a uid is looked for, and asked; where it is not to be had, that is what became of the command
  abbrev pub AsksFound : ℕ → ℕ → Command → ℕ → Then → Next R → Type 0
  AsksFound uid at command seconds then next =
      ((queue : Queue R) × (queue.uid ≡ uid) × IsOpened queue × Asks queue at command seconds (purposes.Plan then) next)
      ⊎ ((fault : Fault) × IsMissed fault × Resumes uid None at (purposes.Plan then) (Err fault) next)

  -- a step of the queue of a uid, at a moment
  abbrev pub GoesOn : ℕ → Option (Queue R) → ℕ → Step → Next R → Type 0
  GoesOn uid queue at (steps.Answer answer) next = Tells answer next
  GoesOn uid (Some queue) at (steps.Ask command seconds then) next = Asks queue at command seconds (purposes.Plan then) next
  GoesOn uid None at (steps.Ask command seconds then) next = AsksFound uid at command seconds then next

  -- ---- a request begins

  -- a queue of the name that is told is there
  abbrev pub TellsUrl : List ℕ → Next R → Type 0
  TellsUrl name next = Tells (Ok (shapes.QueueUrl name)) next ⊎ (next ≡ refuses QueueDoesNotExist)

  -- the names of a directory that begin with a prefix are told
  abbrev pub TellsUrls : List ℕ → Next R → Type 0
  TellsUrls prefix next =
      ((listed : NameDirectory) × IsDirectory listed × Tells (Ok (shapes.QueueUrls (names_listed listed prefix))) next)
      ⊎ (next ≡ refuses OutOfMemory)

  -- the names of the queues are told that have the queue of a uid for their dead letters in a directory
  abbrev pub TellsSources : Next R → Type 0
  TellsSources next =
      ((listed : NameDirectory) × (uid : ℕ) × Tells (Ok (shapes.SourceQueueUrls (source_names listed uid))) next)
      ⊎ ((fault : Fault) × IsMissed fault × (next ≡ refuses fault))

  -- what a task begins with at a moment
  abbrev pub Begun : Task → ℕ → Next R → Type 0
  Begun (tasks.Create name wish) at next = next ≡ On (stages.Creating record { name = name; wish = wish; at = at })
  Begun (tasks.Delete name) at next = Opens name (λ queue. Sends queue at commands.Close 0 purposes.Change next) IsLost next
  Begun (tasks.Set name wish) at next =
      Opens name (λ queue. Targets name wish (λ target.
      Sends queue at (commands.Set wish target) 0 purposes.Change next) next) IsTurnedAway next
  Begun (tasks.Url name) at next = TellsUrl name next
  Begun (tasks.Urls prefix) at next = TellsUrls prefix next
  Begun (tasks.Sources name) at next = TellsSources next
  Begun (tasks.Ask name step) at next = Opens name (λ queue. next ≡ On (stages.Going queue.uid (Some queue) at step)) (IsTurnedAwayWith step) next

  -- A request is judged by its head and these bytes, and begins with its task at one moment; or it is refused. Lack of memory may come in the place of
  -- what the bytes ask.
  abbrev pub IsJudged : Parts → List ℕ → Next R → Type 0
  IsJudged head bytes next =
      (asked : Result Request Fault) × Meets asked (asked_of (target_in head) bytes)
      × IfErr (action_of (target_in head)) (λ fault. asked ≡ Err fault)
      × IfOk asked (λ request. (at : ℕ) × (task : Task) × Begins request task × Begun task at next)
      × IfErr asked (λ fault. next ≡ refuses fault)

  -- the same of a body that has come, unless there is no memory for its bytes in one piece
  abbrev pub IsRead : Parts → Collected → Next R → Type 0
  IsRead head body next = IsJudged head (collected_bytes body) next ⊎ (next ≡ refuses OutOfMemory)

  -- ---- a queue is to be there

  -- an order was refused; where one of its name came to be there meanwhile, that is looked for
  abbrev pub Unmade : Creation → Fault → Next R → Type 0
  Unmade creation QueueNameExists next = next ≡ On (stages.Creating creation)
  Unmade creation fault next = next ≡ refuses fault

  -- one was ordered: it is there, or the order was refused
  abbrev pub Makes : {T : Type 0} → Creation → Result T Fault → Next R → Type 0
  Makes creation (Ok opened) next = Tells (Ok (shapes.QueueUrl creation.name)) next
  Makes creation (Err fault) next = Unmade creation fault next

  -- one is ordered, or that of its name is looked at; while that one is being opened, what is asked for comes back
  abbrev pub Creates : Creation → Result (Next R) Creation → Type 0
  Creates creation (Ok next) =
      Targets creation.name creation.wish (λ target.
      Ordered creation target next ⊎ Opens creation.name (λ queue. Sends queue creation.at commands.Look 0 (purposes.Existing creation) next) IsHeldUp next) next
  Creates creation (Err back) = back ≡ creation

  -- ---- all stages

  -- behind a head it has come, or it did not come whole
  abbrev pub IsCollected : Parts → Result Collected (LimitedError Error) → Next R → Type 0
  IsCollected head (Ok body) next = IsRead head body next
  IsCollected head (Err error) next = (sent : Result Sent Error) × SentOfError error sent × (next ≡ Ends sent)

  -- a body comes, or still comes, behind the same head and with the same part, and may give then only what it may give now
  abbrev pub Collects : Arriving → Polled R → Type 0
  Collects arriving =
      Leads (λ next. (given : Result Collected (LimitedError Error)) × MayCollect arriving.body given × IsCollected arriving.head given next)
      (λ stage. (left : Arriving) × (stage ≡ stages.Collecting left) × (left.head ≡ arriving.head) × (left.part ≡ arriving.part)
      × ((given : Result Collected (LimitedError Error)) → MayCollect left.body given → MayCollect arriving.body given))

  -- a queue is to be there
  abbrev pub Names : Creation → Polled R → Type 0
  Names creation = Leads (λ next. Creates creation (Ok next)) (λ stage. stage ≡ stages.Creating creation)

  -- A queue was ordered, and what is told is what became of that order, or that the thread which makes queues is gone. It is awaited at a place for the same order.
  abbrev pub AwaitsQueue : Creation → MadePlace → Polled R → Type 0
  AwaitsQueue creation place =
      Leads (λ next. ((made : Made) × IsMadeFor (arc_value place.cell) made × Makes creation made.outcome next) ⊎ (next ≡ refuses ActorGone))
      (λ stage. (left : MadePlace) × (stage ≡ stages.Making creation left) × (arc_value left.cell ≡ arc_value place.cell))

  -- a queue was asked
  abbrev pub AwaitsAnswer : Exchange R → Polled R → Type 0
  AwaitsAnswer exchange =
      Leads (λ next. (given : Result Answered (AskFault Publications Publications)) × MayGive exchange.future given × Returned exchange given next)
      (λ stage. (left : Exchange R) × (stage ≡ stages.Asking left) × (left.uid ≡ exchange.uid) × (left.at ≡ exchange.at)
      × (left.purpose ≡ exchange.purpose) × (waiting_question left.future ≡ waiting_question exchange.future)
      × ((given : Result Answered (AskFault Publications Publications)) → MayGive left.future given → MayGive exchange.future given))

  -- what becomes of a stage that is looked at
  abbrev pub Turns : Stage R → Polled R → Type 0
  Turns (stages.Collecting arriving) turn = Collects arriving turn
  Turns (stages.Creating creation) turn = Names creation turn
  Turns (stages.Making creation made) turn = AwaitsQueue creation made turn
  Turns (stages.Asking exchange) turn = AwaitsAnswer exchange turn
  Turns (stages.Going uid queue at step) turn = (next : Next R) × (turn ≡ Goes next) × GoesOn uid queue at step next
  Turns (stages.Sending sent) turn = turn ≡ Goes (Ends (Ok sent))
  Turns stages.Over turn = turn ≡ Goes (refuses OutOfMemory)
