use Rattle.std.proofs.Common.{◌≡◌, ◌+◌, ℕ, List, true, false, None, refl, sym, ap, subst, ◌∙◌}
use Rattle.std.specs.Prelude.{nat_le}
use Rattle.std.proofs.lemmas.Option.{same_Some}
use Rattle.message.specs.Content.{ContentText}
use Rattle.journal.specs.declared.entry.Entry.{Entry}
use Rattle.journal.specs.Journal.{Lines}
use Rattle.journal.specs.Weight.{weight_of}
use Rattle.metric_window.specs.Flows.{minute_of}
use Rattle.queue_core.specs.Messages.{is_closed}
use Rattle.queue_core.specs.private.Tally.{Tallies}
use Rattle.queue_core.specs.private.Indexed.{Keeps}
use Rattle.queue_core.specs.private.Watched.{IsWatchOf}
use Rattle.queue_core.specs.private.Kept.{IsKept}
use Rattle.queue_core.specs.Summary.{Summary, summary_of}
use Rattle.queue_core.specs.Queue.{QueueHistory, is_at_limit, first_refusal, rebased}
use Rattle.queue_core.specs.private.Replaced.{CanComeBack}
use Rattle.queue_core.proofs.commands.LegalLemmas.{kept-spare}
use Rattle.queue_core.proofs.LegalSoundLemmas.{unrefused, stands_rebased, kept_rebased}
use Rattle.queue_core.proofs.commands.RoomLemmas.{unclosed_of, unfull_of, below_acting}
use Rattle.queue_core.proofs.state.QueueState.make_way.Goals.{After-replace}
use Rattle.queue_core.proofs.state.QueueState.make_way.Goals as goal

module _ (c : After-replace) where
  abbrev q : QueueHistory
  q = record { uid = c.self.inside.uid; name = c.self.inside.name; limits = c.self.inside.limits; rules = c.self.inside.rules.items; clock = c.self.inside.clock; lines = c.self.inside.journal.lines; spare = c.self.inside.journal.spare }

  abbrev now : QueueHistory
  now = record q { lines = c.replace.new.dest.lines; spare = c.replace.new.dest.spare }

  room : first_refusal q ≡ None
  room = ap (λ (r : QueueHistory). first_refusal r) c.self.view_is ∙ c.requires

  at : is_at_limit q ≡ true
  at = ap (λ (r : QueueHistory). is_at_limit r) c.self.view_is ∙ sym c.is_at_limit.ensures ∙ c.if-not-is_at_limit.false

  unclosed : is_closed q.lines ≡ false
  unclosed = unclosed_of q c.self.invariant.0.legal room

  lines-are : c.replace.new.dest.lines ≡ (rebased q).lines
  lines-are = ap (λ (j : Lines). j.lines) c.replace.ensures.after ∙ c.in_ok-journal.ensures.lines ∙ ap (λ (r : QueueHistory). (rebased r).lines) (sym c.self.view_is)

  limit-is : c.replace.new.dest.limit ≡ c.self.inside.journal.limit
  limit-is =
      ap (λ (j : Lines). j.limit) c.replace.ensures.after ∙ c.in_ok-journal.ensures.limit
      ∙ ap (λ (r : QueueHistory). r.limits.max_lines + 1) (sym c.self.view_is)
      ∙ sym c.self.invariant.0.room

  summary-is : summary_of c.replace.new.dest.lines q.clock ≡ summary_of q.lines q.clock
  summary-is = ap (λ (ls : List (Entry ContentText)). summary_of ls q.clock) lines-are ∙ (stands_rebased q c.self.invariant.0.legal unclosed).summary

  kept : IsKept now c.replace.new.dest.limit
  kept =
      subst (λ (limit : ℕ). IsKept now limit) (sym limit-is)
      (subst (λ (ls : List (Entry ContentText)). IsKept (record q { lines = ls; spare = c.replace.new.dest.spare }) c.self.inside.journal.limit) (sym lines-are)
      (kept-spare (rebased q) c.self.inside.journal.limit c.replace.new.dest.spare
      (kept_rebased q c.self.invariant.0.legal unclosed c.self.inside.journal.limit c.self.invariant.0 at (unfull_of q c.self.invariant.0.legal room))))

  below : is_at_limit now ≡ false
  below = ap (λ (ls : List (Entry ContentText)). nat_le q.limits.max_lines (weight_of ls)) lines-are ∙ below_acting q c.self.invariant.0.legal room true at

  open-now : is_closed now.lines ≡ false
  open-now = ap (λ (ls : List (Entry ContentText)). is_closed ls) lines-are

pub invariant_of-self : goal.invariant_of-self
invariant_of-self c = (
  kept c,
  subst (λ (s : Summary). Tallies c.self.inside.tally s) (sym (summary-is c)) c.self.invariant.1,
  subst (λ (s : Summary). Keeps c.self.inside.index s c.self.inside.clock) (sym (summary-is c)) c.self.invariant.2,
  c.self.invariant.3 ∙ ap (λ (s : Summary). s.accepted) (sym (summary-is c)),
  subst (λ (s : Summary). IsWatchOf s.rows s.flows (minute_of c.self.inside.clock) c.self.inside.rules.items c.self.inside.watch) (sym (summary-is c)) c.self.invariant.4,
)

pub returns-clause-kept : goal.returns-clause-kept
returns-clause-kept c = λ x h.
    subst (λ (j : Lines). CanComeBack (now c) j) (sym c.replace.ensures.value ∙ same_Some c.replace.result x h)
    (record {
      kept = c.self.invariant.0;
      same = record { uid = refl; name = refl; in_flight = refl; clock = refl; summary = sym (summary-is c) };
    })

pub returns-clause-open : goal.returns-clause-open
returns-clause-open c = unrefused (now c) (open-now c) (below c)

pub returns-clause-place : goal.returns-clause-place
returns-clause-place c = below c
