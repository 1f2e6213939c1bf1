-- What a pass has seen while the turn of its desk was taken.
use Rattle.std.proofs.Common.{◌≡◌, ℕ, ◌≤◌, le_refl, le_trans, List, [], ◌∷◌, ◌++◌, Result, refl, sym, ◌∙◌, ap, append_assoc, append-nil}
use Rattle.message.specs.declared.fault.Fault.{Fault}
use Rattle.queue_core.specs.declared.command.Command.{Command}
use Rattle.queue_core.specs.declared.reply.Reply.{Reply}
use Rattle.desk.specs.declared.view.Call.{Call}
use Rattle.desk.specs.History.{call}
use Rattle.desk.specs.Views.{Pass, HasCalled, IsBusy, SeesMore}

-- it has seen no less, and knows of no fewer tickets
abbrev pub HasTried : Pass → Pass → Type 0
HasTried before after = SeesMore before after × (before.begun ≤ after.begun)

pub tried_nothing : (k : Pass) → HasTried k k
tried_nothing k = (
  record {
    same_desk = refl;
    same_start = refl;
    same_place = refl;
    same_number = refl;
    same_calls = refl;
    goes_on = ([], sym (append-nil k.seen));
  },
  le_refl k.begun,
)

-- once more, and the turn was taken again
pub tried_again : (a b c : Pass) → HasTried a b → SeesMore b c → IsBusy b c → HasTried a c
tried_again a b c first more busy = (
  record {
    same_desk = more.same_desk ∙ first.0.same_desk;
    same_start = more.same_start ∙ first.0.same_start;
    same_place = more.same_place ∙ first.0.same_place;
    same_number = more.same_number ∙ first.0.same_number;
    same_calls = more.same_calls ∙ first.0.same_calls;
    goes_on = (
      first.0.goes_on.0 ++ more.goes_on.0,
      more.goes_on.1 ∙ ap (λ (l : List Call). l ++ more.goes_on.0) first.0.goes_on.1 ∙ append_assoc a.seen first.0.goes_on.0 more.goes_on.0,
    );
  },
  le_trans first.1 busy.counted,
)

-- a call that is made then is one behind all that was seen before
pub called_then : (a b : Pass) (at : ℕ) (command : Command) (reply : Result Reply Fault) (c : Pass) → HasTried a b → HasCalled b at command reply c → HasCalled a at command reply c
called_then a b at command reply c tried called =
    let number : call b.number at command reply ≡ call a.number at command reply = ap (λ (n : ℕ). call n at command reply) tried.0.same_number in
    record {
      same_desk = called.same_desk ∙ tried.0.same_desk;
      same_start = called.same_start ∙ tried.0.same_start;
      same_place = called.same_place ∙ tried.0.same_place;
      same_number = called.same_number ∙ tried.0.same_number;
      counted = le_trans tried.1 called.counted;
      room = called.room;
      between = tried.0.goes_on.0 ++ called.between;
      history = called.history
          ∙ ap (λ (l : List Call). (l ++ called.between) ++ call b.number at command reply ∷ []) tried.0.goes_on.1
          ∙ ap (λ (l : List Call). l ++ call b.number at command reply ∷ []) (append_assoc a.seen tried.0.goes_on.0 called.between)
          ∙ ap (λ (d : Call). (a.seen ++ (tried.0.goes_on.0 ++ called.between)) ++ d ∷ []) number;
      own = called.own
          ∙ ap (λ (l : List Call). l ++ call b.number at command reply ∷ []) tried.0.same_calls
          ∙ ap (λ (d : Call). a.mine ++ d ∷ []) number;
    }
