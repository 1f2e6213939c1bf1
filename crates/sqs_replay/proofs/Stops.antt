-- What a run wrote where it stops.
use Rattle.std.proofs.Common.{◌≡◌, ℕ, ◌+◌, ◌<◌, ◌⊎◌, inl, inr, List, [], ◌∷◌, ◌++◌, Option, length, take, refl, ap, sym, subst, ◌∙◌, append_assoc, append-nil}
use Rattle.std.specs.Io.KnownBytes.{Appends, Consumes, IsAtEnd}
use Rattle.std.proofs.KnownBytes.{Appends-nil, Appends-trans, Consumes-nil}
use Rattle.sqs_replay.specs.Failures.{AppendsPart, AppendsAndPart}
use Rattle.sqs_replay.specs.Cutting.{longest_line, whole_from, last_piece, line_of, lines_among, whole_lines, lines_of}
use Rattle.sqs_replay.specs.Answers.{texts, state_after, replay_text}
use Rattle.sqs_replay.specs.Progress.{AnswersPart, StopsBefore, StopsAmong, Stops}
use Rattle.sqs_replay.specs.private.Progress.{HasRead}
use Rattle.sqs_replay.proofs.Cuts.{whole_lines-append, whole_lines-feed, lines_of-split, lines_among-line}
use Rattle.sqs_replay.proofs.Runs.{kept_moves, texts-append, AppendsPart-whole, AppendsPart-longer}

-- ---- before some lines

module _ {S : Type 0} (text : S → List ℕ → List ℕ) where
  -- nothing of them was written
  pub stops-before_all : (state : S) (before taken : Option (List ℕ)) (front : List ℕ) (lines : List (List ℕ)) → Appends before taken front
      → StopsBefore text state before taken front lines
  stops-before_all state before taken front [] p = p
  stops-before_all state before taken front (line ∷ lines) p = ([], text state line, refl, subst (Appends before taken) (sym (append-nil front)) p)

  stops-before_more : (state : S) (before taken : Option (List ℕ)) (front : List ℕ) (lines more : List (List ℕ))
      → StopsBefore text state before taken front lines → StopsBefore text state before taken front (lines ++ more)
  stops-before_more state before taken front [] more h = stops-before_all state before taken front more h
  stops-before_more state before taken front (line ∷ lines) more h = h

  -- what was written before is written too
  stops-after_text : (state : S) (before now taken : Option (List ℕ)) (front : List ℕ) (lines : List (List ℕ)) → Appends before now front
      → StopsBefore text state now taken [] lines → StopsBefore text state before taken front lines
  stops-after_text state before now taken front [] p h = subst (Appends before taken) (append-nil front) (Appends-trans before now taken front [] p h)
  stops-after_text state before now taken front (line ∷ lines) p (part, rest, e, q) = (part, rest, e, Appends-trans before now taken front part p q)

  -- a line that is not empty is the only one of its piece: a part of its text was written
  pub stops-in_text : (state : S) (before taken : Option (List ℕ)) (piece line : List ℕ) → line ≡ line_of piece → 0 < length line
      → AppendsPart before taken (text state line) → StopsBefore text state before taken [] (lines_among (piece ∷ []))
  stops-in_text state before taken piece line e full part =
      let alone : lines_among (piece ∷ []) ≡ line ∷ [] = subst (λ (l : List ℕ). 0 < length l → lines_among (piece ∷ []) ≡ l ∷ []) (sym e)
      (lines_among-line piece) full in
      subst (StopsBefore text state before taken []) (sym alone) part

  stops-alike : ((state : S) (first second : List ℕ) → longest_line < length first → longest_line < length second → text state first ≡ text state second)
      → (state : S) (before taken : Option (List ℕ)) (front first second : List ℕ) → longest_line < length first → longest_line < length second
      → StopsBefore text state before taken front (first ∷ []) → StopsBefore text state before taken front (second ∷ [])
  stops-alike same_text state before taken front first second one two h = subst (AppendsAndPart before taken front) (same_text state first second one two) h

module _ {S : Type 0} (text : S → List ℕ → List ℕ) (after : S → List ℕ → S) where
  -- ---- among some lines

  -- more was read
  pub stops-further : (start : S) (before taken : Option (List ℕ)) (read more : List ℕ)
      → StopsAmong text after start before taken (whole_lines read) → StopsAmong text after start before taken (whole_lines (read ++ more))
  stops-further start before taken read more h =
      let next = lines_among (whole_from (last_piece read) more) in
      record {
        done = h.done;
        rest = h.rest ++ next;
        split = whole_lines-append read more ∙ (ap (λ l. l ++ next) h.split ∙ append_assoc h.done h.rest next);
        stop = stops-before_more text (state_after after start h.done) before taken (texts text after start h.done) h.rest next h.stop;
      }

  -- between two lines
  pub stops-between : (start state : S) (before taken : Option (List ℕ)) (read kept : List ℕ) → HasRead text after start before read state kept taken
      → StopsAmong text after start before taken (whole_lines read)
  stops-between start state before taken read kept h =
      record { done = whole_lines read; rest = []; split = sym (append-nil (whole_lines read)); stop = h.appended }

  -- nothing was read yet
  pub stops-at_once : (start : S) (left taken : Option (List ℕ)) → Stops text after start left left taken taken []
  stops-at_once start left taken =
      record { consumed = Consumes-nil left; among = inl (record { done = []; rest = []; split = refl; stop = Appends-nil taken }) }

  -- ---- a part of the text of the lines was written

  part_before : (state : S) (before taken : Option (List ℕ)) (front : List ℕ) (lines : List (List ℕ))
      → StopsBefore text state before taken front lines → AppendsPart before taken (front ++ texts text after state lines)
  part_before state before taken front [] h = AppendsPart-longer before taken front [] (AppendsPart-whole before taken front h)
  part_before state before taken front (line ∷ lines) (part, rest, e, p) =
      let next = texts text after (after state line) lines in (
        front ++ part,
        rest ++ next,
        ap (λ l. front ++ (l ++ next)) e ∙ (ap (λ l. front ++ l) (append_assoc part rest next) ∙ sym (append_assoc front part (rest ++ next))),
        p,
      )

  part_among : (start : S) (before taken : Option (List ℕ)) (lines : List (List ℕ)) → StopsAmong text after start before taken lines
      → AppendsPart before taken (texts text after start lines)
  part_among start before taken lines h =
      subst (AppendsPart before taken) (sym (ap (texts text after start) h.split ∙ texts-append text after start h.done h.rest))
      (part_before (state_after after start h.done) before taken (texts text after start h.done) h.rest h.stop)

  pub answers-part : (start : S) (left_before left_after before taken : Option (List ℕ)) (read : List ℕ)
      → Stops text after start left_before left_after before taken read → AnswersPart text after start left_before left_after before taken read
  answers-part start left_before left_after before taken read h =
      record {
        consumed = h.consumed;
        appended = elim h.among as (λ _. AppendsPart before taken (texts text after start (whole_lines read))
            ⊎ (IsAtEnd left_after × AppendsPart before taken (replay_text text after start read))) [
              | inl whole ↦ inl (part_among start before taken (whole_lines read) whole)
              | inr all ↦ inr (all.0, part_among start before taken (lines_of read) all.1)
            ];
      }

module _ {S : Type 0} (text : S → List ℕ → List ℕ) (after : S → List ℕ → S)
    (same_text : (state : S) (first second : List ℕ) → longest_line < length first → longest_line < length second → text state first ≡ text state second) where
  -- where it stops in what is kept of a piece, it stops in that piece
  pub stops-in_piece : (start state : S) (before now taken : Option (List ℕ)) (read kept : List ℕ) → HasRead text after start before read state kept now
      → StopsBefore text state now taken [] (lines_among (kept ∷ []))
      → StopsAmong text after start before taken (whole_lines read ++ lines_among (last_piece read ∷ []))
  stops-in_piece start state before now taken read kept h is =
      let reached = state_after after start (whole_lines read) in
      let at_reached : StopsBefore text reached now taken [] (lines_among (kept ∷ [])) = subst
      (λ (s : S). StopsBefore text s now taken [] (lines_among (kept ∷ []))) h.state_is is in
      let in_front : StopsBefore text reached now taken [] (lines_among (take (longest_line + 2) (last_piece read) ∷ [])) = subst
      (λ (k : List ℕ). StopsBefore text reached now taken [] (lines_among (k ∷ []))) h.kept_is at_reached in
      let in_piece : StopsBefore text reached now taken [] (lines_among (last_piece read ∷ [])) = kept_moves longest_line
      (StopsBefore text reached now taken []) (stops-alike text same_text reached now taken []) (last_piece read) in_front in
      record {
        done = whole_lines read;
        rest = lines_among (last_piece read ∷ []);
        split = refl;
        stop = stops-after_text text reached before now taken _ _ h.appended in_piece;
      }

  -- a line feed ended it
  pub stops-at_feed : (start state : S) (before now taken : Option (List ℕ)) (read kept : List ℕ) (byte : ℕ) → byte ≡ 10
      → HasRead text after start before read state kept now
      → StopsBefore text state now taken [] (lines_among (kept ∷ []))
      → StopsAmong text after start before taken (whole_lines (read ++ byte ∷ []))
  stops-at_feed start state before now taken read kept byte e h is =
      subst (StopsAmong text after start before taken) (sym (whole_lines-feed read byte e)) (stops-in_piece start state before now taken read kept h is)

  -- the input's end ended it
  pub stops-at_end : (start state : S) (left_before left_after before now taken : Option (List ℕ)) (read kept : List ℕ)
      → Consumes left_before left_after read → IsAtEnd left_after → HasRead text after start before read state kept now
      → StopsBefore text state now taken [] (lines_among (kept ∷ []))
      → Stops text after start left_before left_after before taken read
  stops-at_end start state left_before left_after before now taken read kept consumed ended h is = record {
    consumed = consumed;
    among = inr (
      ended,
      subst (StopsAmong text after start before taken) (sym (lines_of-split read)) (stops-in_piece start state before now taken read kept h is),
    );
  }
