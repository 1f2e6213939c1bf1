use Rattle.std.proofs.Common.{ℕ, ◌-◌, ◌/◌, sym, ap, ◌∙◌}
use Rattle.queue_core.proofs.indexed.QuestionLemmas.{oldest_by, oldest_none}
use Rattle.queue_core.proofs.index.MessageIndex.oldest_age.Goals as goal

pub returns-in-Some : goal.returns-in-Some
returns-in-Some c =
    λ q same is.
    oldest_by q c.args.self.now is c.in-Some.number c.age_of.result c.in-Some.ensures.0 c.in-Some.ensures.1
    (λ r e. c.age_of.ensures r e ∙ ap (λ (t : ℕ). (t - r.enqueue_time) / 1000) (sym same))

pub returns-in-None : goal.returns-in-None
returns-in-None c = λ q same is. oldest_none q c.args.self.now is (λ k h. c.in-None.ensures k)
