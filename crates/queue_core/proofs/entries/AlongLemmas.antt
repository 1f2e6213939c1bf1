-- What holds of a queue's opening, and goes on to hold with each entry that a command adds, holds of a whole journal.
use Rattle.std.proofs.Common.{List, [], ◌∷◌, ◌++◌, sym, subst, append_assoc}
use Rattle.std.proofs.lemmas.List.{append-nil}
use Rattle.message.specs.Content.{ContentText}
use Rattle.journal.specs.declared.entry.Entry.{Entry}
use Rattle.queue_core.specs.Queue.{QueueHistory}
use Rattle.queue_core.specs.Legal.{IsCausedIn, AreCaused, IsOpening, BeginsAndFollows}

module _ (q : QueueHistory) (P : List (Entry ContentText) → Type 0) (first : (e : Entry ContentText) → IsOpening q.uid e.event → P (e ∷ []))
    (next : (lines : List (Entry ContentText)) (e : Entry ContentText) → IsCausedIn (record q { clock = e.at; lines = lines }) e.event → P lines → P (lines ++ e ∷ [])) where
  holds_after : (before es : List (Entry ContentText)) → AreCaused q before es → P before → P (before ++ es)
  holds_after before [] h p = subst P (sym (append-nil before)) p
  holds_after before (e ∷ es) h p = subst P (append_assoc before (e ∷ []) es) (holds_after (before ++ e ∷ []) es h.1 (next before e h.0 p))

  pub holds_along : (lines : List (Entry ContentText)) → BeginsAndFollows q lines → P lines
  holds_along [] h = absurd h
  holds_along (e ∷ es) h = holds_after (e ∷ []) es h.1 (first e h.0)
