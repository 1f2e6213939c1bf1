-- What is told at the port of the statistics.
use Rattle.std.proofs.Common.{Option, Result, Ok, Err, IfErr, Bor, ◌≡◌, ◌≢◌, ◌⊎◌, ℕ, ◌==◌, Bool, true, false, List, inl, inr, refl, ap, sym, ◌∙◌, arith}
use Rattle.std.specs.Bool.{Decides}
use Rattle.std.specs.Cmp.{unsigned_Decides}
use Rattle.board.specs.Sheet.{Sheet}
use Rattle.http.specs.declared.response.Response.{Response}
use Rattle.http_body_util.specs.declared.full.Full.{Full}
use Rattle.message.specs.declared.fault.Fault.{Fault}
use Rattle.message.specs.declared.fault.Fault.TheVariants.{OutOfMemory}
use Rattle.statistics_api.specs.Asked.{TellsOfQueues}
use Rattle.statistics_api.specs.declared.asked.AskedSheets.{AskedSheets}
use Rattle.statistics_api.specs.declared.asked.AskedSheets.TheVariants.{Nothing, Queue}
use Rattle.statistics_api.specs.Metrics.{served_text}
use Rattle.statistics_api.specs.Response.{TypedText, is_constant, response_of, told_by}
use Rattle.statistics_api.specs.declared.served.ServerFacts.{ServerFacts}
use Rattle.statistics_api.specs.Text.{is_written}
use Rattle.statistics_api.specs.declared.port.Response as answers
use Rattle.sqs_server.specs.Viewed.{ArePrinted, IsTold, IsJudged, Sends, no_memory}

-- where queues are asked for, there may be no memory for them
pub refused_of_queues : {X Q : Type 0} (given : Result X Fault) → IfErr given (λ fault. fault ≡ OutOfMemory) → Q → IfErr given (λ fault. (fault ≡ OutOfMemory) × Q)
refused_of_queues (Ok sheets) refused needed = tt
refused_of_queues (Err fault) refused needed = (refused, needed)

pub one_is_asked_for : (asked : AskedSheets) (name : Bor (List ℕ)) → asked ≡ Queue name → asked ≢ Nothing
one_is_asked_for asked name is none = absurd cc

-- there was no memory for an answer, which is no constant, and not one that takes none
unwritten : (method path : List ℕ) (sheets : List Sheet) (served : ServerFacts) (told : TypedText) → ArePrinted sheets → told ≡ no_memory
    → (is_constant path ≡ true → told ≡ response_of method path sheets (served_text served))
    → ((response_of method path sheets (served_text served)).0 ≢ 200 → told ≡ response_of method path sheets (served_text served))
    → (constant : Bool) → is_constant path ≡ constant → (good : Bool) → Decides good ((response_of method path sheets (served_text served)).0 ≡ 200) → IsTold method path told
unwritten method path sheets served told printed is constants exact true at good known = inl (sheets, printed, served, constants at)
unwritten method path sheets served told printed is constants exact false at true known = inr (is, (sheets, served_text served, known.0 refl, at))
unwritten method path sheets served told printed is constants exact false at false known =
    inl (sheets, printed, served, exact (λ e. (let e' : false ≡ true = known.1 e in absurd cc)))

-- what is told of these sheets and by this server
pub told_by_sheets : (method path : List ℕ) (sheets : List Sheet) (served : ServerFacts) (told : TypedText) → ArePrinted sheets
    → (told ≡ response_of method path sheets (served_text served)) ⊎ (told ≡ no_memory)
    → (is_constant path ≡ true → told ≡ response_of method path sheets (served_text served))
    → ((response_of method path sheets (served_text served)).0 ≢ 200 → told ≡ response_of method path sheets (served_text served)) → IsTold method path told
told_by_sheets method path sheets served told printed (inl e) constants exact = inl (sheets, printed, served, e)
told_by_sheets method path sheets served told printed (inr e) constants exact =
    unwritten method path sheets served told printed e constants exact (is_constant path) refl
    ((response_of method path sheets (served_text served)).0 == 200) (unsigned_Decides (response_of method path sheets (served_text served)).0 200)

-- a text that was written tells of queues
pub written_tells : (method path : List ℕ) (sheets : List Sheet) (own : List ℕ) (response : answers.Response)
    → (told_by response ≡ response_of method path sheets own) ⊎ (told_by response ≡ no_memory)
    → (is_written response.text ≡ true → (response.status ≡ 200) × (is_constant path ≡ false)) → is_written response.text ≡ true
    → TellsOfQueues method path
written_tells method path sheets own response (inl e) good written =
    (sheets, own, sym (ap (λ (t : TypedText). t.0) e) ∙ (good written).0, (good written).1)
written_tells method path sheets own response (inr e) good written =
    (let five : response.status ≡ 500 = ap (λ (t : TypedText). t.0) e in absurd (omega (arith, five, (good written).0)))

-- what is sent is told, or there was no memory to write it
pub sent_is_told : (host : Option (List ℕ)) (method path : List ℕ) (size : ℕ) (told : answers.Response) (response : Response (Full (List ℕ)))
    → IsJudged host method path size (told_by told) → (is_written told.text ≡ true → IsJudged host method path size no_memory)
    → Sends (told_by told) response ⊎ (Sends no_memory response × (is_written told.text ≡ true)) → (t : TypedText) × IsJudged host method path size t × Sends t response
sent_is_told host method path size told response judged written (inl sent) = (told_by told, judged, sent)
sent_is_told host method path size told response judged written (inr sent) = (no_memory, written sent.1, sent.0)
