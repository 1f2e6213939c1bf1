-- How a run goes on.
use Rattle.std.proofs.Common.{◌≡◌, ◌≢◌, ℕ, ◌+◌, ◌<◌, ◌≤◌, inl, inr, List, [], ◌∷◌, ◌++◌, Option, Some, None, IfSome, Result, Ok, Err, OnOk, OnErr, length, take, refl, ap, sym, subst, ◌∙◌, append_assoc, append-nil, length-take, arith}
use Rattle.std.specs.Io.KnownBytes.{Appends, Consumes, IsAtEnd}
use Rattle.std.proofs.KnownBytes.{Appends-nil, Appends-trans, Consumes-trans, Consumes-whole}
use Rattle.std.proofs.lemmas.List.{take_all}
use Rattle.std.proofs.lemmas.Bool.{cases_lt}
use Rattle.sqs_replay.specs.Failures.{AppendsPart}
use Rattle.sqs_replay.specs.Cutting.{longest_line, whole_from, last_piece, line_of, lines_among, whole_lines}
use Rattle.sqs_replay.specs.Answers.{texts, state_after, replay_text, replay_state}
use Rattle.sqs_replay.specs.Progress.{AnswersAll, AnswersPart}
use Rattle.sqs_replay.specs.private.Progress.{HasRead}
use Rattle.sqs_replay.proofs.Cuts.{whole_lines-append, whole_lines-feed, last_piece-feed, whole_lines-other, last_piece-other, lines_of-split, kept_push, kept_full, length-line_of, lines_among-line}

-- what holds at every result holds at an error
pub on_err : {T E P : Type 0} (r : Result T E) → P → OnErr r P
on_err (Ok x) p = tt
on_err (Err e) p = p

-- ---- a part of the bytes

pub AppendsPart-nothing : (a : Option (List ℕ)) (bytes : List ℕ) → AppendsPart a a bytes
AppendsPart-nothing a bytes = ([], bytes, refl, Appends-nil a)

pub AppendsPart-longer : (a b : Option (List ℕ)) (bytes more : List ℕ) → AppendsPart a b bytes → AppendsPart a b (bytes ++ more)
AppendsPart-longer a b bytes more p = (p.0, p.1 ++ more, ap (λ l. l ++ more) p.2 ∙ append_assoc p.0 p.1 more, p.3)

pub AppendsPart-whole : (a b : Option (List ℕ)) (bytes : List ℕ) → Appends a b bytes → AppendsPart a b bytes
AppendsPart-whole a b bytes p = (bytes, [], sym (append-nil bytes), p)

-- ---- texts and states of lines one after another

pub texts-append : {S : Type 0} (text : S → List ℕ → List ℕ) (after : S → List ℕ → S) (state : S) (ls ms : List (List ℕ))
    → texts text after state (ls ++ ms) ≡ texts text after state ls ++ texts text after (state_after after state ls) ms
texts-append text after state [] ms = refl
texts-append text after state (l ∷ ls) ms = ap (λ t. text state l ++ t) (texts-append text after (after state l) ls ms)
    ∙ sym (append_assoc (text state l) _ _)

pub state_after-append : {S : Type 0} (after : S → List ℕ → S) (state : S) (ls ms : List (List ℕ))
    → state_after after state (ls ++ ms) ≡ state_after after (state_after after state ls) ms
state_after-append after state [] ms = refl
state_after-append after state (l ∷ ls) ms = state_after-append after (after state l) ls ms

-- ---- the front of a line that is too long is too long as well

-- f sees all lines beyond the limit alike
abbrev pub SameBeyond : {A : Type 0} → ℕ → (List ℕ → A) → Type 0
SameBeyond limit f = (first second : List ℕ) → limit < length first → limit < length second → f first ≡ f second

pub kept_alike : {A : Type 0} (limit : ℕ) (f : List (List ℕ) → A) → SameBeyond limit (λ line. f (line ∷ [])) → (p : List ℕ)
    → f (lines_among (take (limit + 2) p ∷ [])) ≡ f (lines_among (p ∷ []))
kept_alike limit f same p =
    elim (cases_lt (limit + 2) (length p)) [
      | inl long ↦
          let k = take (limit + 2) p in
          let size : length k ≡ limit + 2 = omega (arith, length-take (limit + 2) p) in
          let at_front : limit < length (line_of k) = omega (arith, length-line_of k) in
          let at_all : limit < length (line_of p) = omega (arith, length-line_of p) in
          ap f (lines_among-line k (omega arith)) ∙ (same (line_of k) (line_of p) at_front at_all ∙ sym (ap f (lines_among-line p (omega arith))))
      | inr short ↦ ap (λ (q : List ℕ). f (lines_among (q ∷ []))) (take_all (limit + 2) p short)
    ]

-- the same of what holds of all lines beyond the limit, where it holds of one
pub kept_moves : (limit : ℕ) (P : List (List ℕ) → Type 0)
    → ((first second : List ℕ) → limit < length first → limit < length second → P (first ∷ []) → P (second ∷ []))
    → (p : List ℕ) → P (lines_among (take (limit + 2) p ∷ [])) → P (lines_among (p ∷ []))
kept_moves limit P move p =
    elim (cases_lt (limit + 2) (length p)) [
      | inl long ↦ λ h.
          let k = take (limit + 2) p in
          let size : length k ≡ limit + 2 = omega (arith, length-take (limit + 2) p) in
          let at_front : limit < length (line_of k) = omega (arith, length-line_of k) in
          let at_all : limit < length (line_of p) = omega (arith, length-line_of p) in
          subst P (sym (lines_among-line p (omega arith)))
          (move (line_of k) (line_of p) at_front at_all (subst P (lines_among-line k (omega arith)) h))
      | inr short ↦ subst (λ (q : List ℕ). P (lines_among (q ∷ []))) (take_all (limit + 2) p short)
    ]

module _ {S : Type 0} (text : S → List ℕ → List ℕ) (after : S → List ℕ → S)
    (same_text : (state : S) (first second : List ℕ) → longest_line < length first → longest_line < length second → text state first ≡ text state second)
    (same_after : (state : S) (first second : List ℕ) → longest_line < length first → longest_line < length second → after state first ≡ after state second) where
  same_texts : (state : S) → SameBeyond longest_line (λ line. texts text after state (line ∷ []))
  same_texts state first second p q = ap (λ t. t ++ []) (same_text state first second p q)

  -- the text of what is kept, after that of the whole lines, is that of the whole lines and the piece
  pub texts-piece : (start : S) (before : Option (List ℕ)) (read : List ℕ) (state : S) (kept : List ℕ) (taken : Option (List ℕ))
      → HasRead text after start before read state kept taken
      → texts text after start (whole_lines read ++ lines_among (last_piece read ∷ [])) ≡ texts text after start (whole_lines read) ++ texts text after state
      (lines_among (kept ∷ []))
  texts-piece start before read state kept taken h =
      let now = state_after after start (whole_lines read) in
      texts-append text after start (whole_lines read) (lines_among (last_piece read ∷ []))
      ∙ ap (λ t. texts text after start (whole_lines read) ++ t)
      (sym (kept_alike longest_line (texts text after now) (same_texts now) (last_piece read))
      ∙ (ap (λ (k : List ℕ). texts text after now (lines_among (k ∷ []))) (sym h.kept_is)
      ∙ ap (λ (s : S). texts text after s (lines_among (kept ∷ []))) (sym h.state_is)))

  pub state_after-piece : (start : S) (before : Option (List ℕ)) (read : List ℕ) (state : S) (kept : List ℕ) (taken : Option (List ℕ))
      → HasRead text after start before read state kept taken
      → state_after after start (whole_lines read ++ lines_among (last_piece read ∷ [])) ≡ state_after after state (lines_among (kept ∷ []))
  state_after-piece start before read state kept taken h =
      let now = state_after after start (whole_lines read) in
      state_after-append after start (whole_lines read) (lines_among (last_piece read ∷ []))
      ∙ (sym (kept_alike longest_line (state_after after now) (same_after now) (last_piece read))
      ∙ (ap (λ (k : List ℕ). state_after after now (lines_among (k ∷ []))) (sym h.kept_is)
      ∙ ap (λ (s : S). state_after after s (lines_among (kept ∷ []))) (sym h.state_is)))

  -- a line feed, and the piece was answered
  pub feed_read : (start : S) (before : Option (List ℕ)) (read : List ℕ) (state : S) (kept : List ℕ) (taken : Option (List ℕ))
      → HasRead text after start before read state kept taken
      → (byte : ℕ) → byte ≡ 10 → (state' : S) (kept' : List ℕ) (taken' : Option (List ℕ))
      → Appends taken taken' (texts text after state (lines_among (kept ∷ []))) → state' ≡ state_after after state (lines_among (kept ∷ [])) → kept' ≡ []
      → HasRead text after start before (read ++ byte ∷ []) state' kept' taken'
  feed_read start before read state kept taken h byte e state' kept' taken' written state_is none =
      let lines = whole_lines-feed read byte e in
      record {
        state_is = state_is ∙ (sym (state_after-piece start before read state kept taken h) ∙ sym (ap (state_after after start) lines));
        kept_is = none ∙ ap (take (longest_line + 2)) (sym (last_piece-feed read byte e));
        appended = subst (Appends before taken') (sym (ap (texts text after start) lines ∙ texts-piece start before read state kept taken h))
            (Appends-trans before taken taken' _ _ h.appended written);
      }

  -- the end of the input, and the last piece was answered
  pub end_read : (start : S) (read : List ℕ) (state : S) (kept : List ℕ) (left_before left_after before taken : Option (List ℕ))
      → HasRead text after start before read state kept taken
      → Consumes left_before left_after read → IsAtEnd left_after → (state' : S) (taken' : Option (List ℕ))
      → Appends taken taken' (texts text after state (lines_among (kept ∷ []))) → state' ≡ state_after after state (lines_among (kept ∷ []))
      → AnswersAll text after start state' left_before left_after before taken' read
  end_read start read state kept left_before left_after before taken h consumed ended state' taken' written state_is =
      record {
        consumed = consumed;
        ended = ended;
        appended = subst (Appends before taken') (sym (ap (texts text after start) (lines_of-split read) ∙ texts-piece start before read state kept taken h))
            (Appends-trans before taken taken' _ _ h.appended written);
        state_is = state_is ∙ (sym (state_after-piece start before read state kept taken h) ∙ sym (ap (state_after after start) (lines_of-split read)));
      }

-- ---- steps that answer nothing

-- a copy of what is kept
pub kept_as : {S : Type 0} {text : S → List ℕ → List ℕ} {after : S → List ℕ
    → S} {start : S} {before : Option (List ℕ)} {read : List ℕ} {state : S} {kept : List ℕ} {taken : Option (List ℕ)} (piece : List ℕ)
    → piece ≡ kept → HasRead text after start before read state kept taken → HasRead text after start before read state piece taken
kept_as piece e h = record { state_is = h.state_is; kept_is = e ∙ h.kept_is; appended = h.appended }

module _ {S : Type 0} (text : S → List ℕ → List ℕ) (after : S → List ℕ → S) where
  -- another byte that is kept
  pub other_read : (start : S) (before : Option (List ℕ)) (read : List ℕ) (state : S) (kept : List ℕ) (taken : Option (List ℕ))
      → HasRead text after start before read state kept taken
      → (byte : ℕ) → byte ≢ 10 → length kept < longest_line + 2 → (kept' : List ℕ) → kept' ≡ kept ++ byte ∷ []
      → HasRead text after start before (read ++ byte ∷ []) state kept' taken
  other_read start before read state kept taken h byte e room kept' k =
      let fits : length (take (longest_line + 2) (last_piece read)) < longest_line + 2 = omega (arith, ap length h.kept_is) in
      record {
        state_is = h.state_is ∙ ap (state_after after start) (sym (whole_lines-other read byte e));
        kept_is = k ∙ (ap (λ l. l ++ byte ∷ []) h.kept_is ∙ (sym (kept_push (longest_line + 2) (last_piece read) byte fits)
            ∙ ap (take (longest_line + 2)) (sym (last_piece-other read byte e))));
        appended = subst (Appends before taken) (ap (texts text after start) (sym (whole_lines-other read byte e))) h.appended;
      }

  -- another byte of a line that is too long
  pub other_dropped : (start : S) (before : Option (List ℕ)) (read : List ℕ) (state : S) (kept : List ℕ) (taken : Option (List ℕ))
      → HasRead text after start before read state kept taken
      → (byte : ℕ) → byte ≢ 10 → longest_line + 2 ≤ length kept
      → HasRead text after start before (read ++ byte ∷ []) state kept taken
  other_dropped start before read state kept taken h byte e full =
      let is_full : longest_line + 2 ≤ length (take (longest_line + 2) (last_piece read)) = omega (arith, ap length h.kept_is) in
      record {
        state_is = h.state_is ∙ ap (state_after after start) (sym (whole_lines-other read byte e));
        kept_is = h.kept_is ∙ (sym (kept_full (longest_line + 2) (last_piece read) byte is_full)
            ∙ ap (take (longest_line + 2)) (sym (last_piece-other read byte e)));
        appended = subst (Appends before taken) (ap (texts text after start) (sym (whole_lines-other read byte e))) h.appended;
      }

  -- the text of the whole lines goes on when more is read
  pub part_of_more : (start : S) (before taken : Option (List ℕ)) (read more : List ℕ) → AppendsPart before taken (texts text after start (whole_lines read))
      → AppendsPart before taken (texts text after start (whole_lines (read ++ more)))
  part_of_more start before taken read more p =
      let next = lines_among (whole_from (last_piece read) more) in
      subst (AppendsPart before taken)
      (sym (ap (texts text after start) (whole_lines-append read more) ∙ texts-append text after start (whole_lines read) next))
      (AppendsPart-longer before taken _ (texts text after (state_after after start (whole_lines read)) next) p)

-- ---- where a run ends

pub on_ok_both : {T E P Q R : Type 0} (r : Result T E) → (P → Q → R) → OnOk r P → OnOk r Q → OnOk r R
on_ok_both (Ok x) f p q = f p q
on_ok_both (Err e) f p q = tt

-- a read that gave nothing took nothing
pub Consumes-none : (a b c : Option (List ℕ)) (read buffer : List ℕ) (n : ℕ) → Consumes a b read → Consumes b c (take n buffer) → n ≡ 0 → Consumes a c read
Consumes-none a b c read buffer n p q e =
    let none : take n buffer ≡ [] = ap (λ (m : ℕ). take m buffer) e in
    subst (Consumes a c) (ap (λ l. read ++ l) none ∙ append-nil read) (Consumes-trans a b c read (take n buffer) p q)

module _ {S : Type 0} (text : S → List ℕ → List ℕ) (after : S → List ℕ → S) where
  pub known_text : (start end : S) (left_before left_after before taken : Option (List ℕ)) (input : List ℕ)
      → AnswersAll text after start end left_before left_after before taken input
      → IfSome left_before (λ all. Appends before taken (replay_text text after start all))
  known_text start end left_before left_after before taken input h =
      Consumes-whole left_before left_after input (λ all. Appends before taken (replay_text text after start all)) h.consumed h.ended h.appended

  pub known_state : (start end : S) (left_before left_after before taken : Option (List ℕ)) (input : List ℕ)
      → AnswersAll text after start end left_before left_after before taken input
      → IfSome left_before (λ all. end ≡ replay_state after start all)
  known_state start end left_before left_after before taken input h =
      Consumes-whole left_before left_after input (λ all. end ≡ replay_state after start all) h.consumed h.ended h.state_is

-- ---- what was appended is a front of the text of the whole input

pub either_way : {T E P : Type 0} (r : Result T E) → OnOk r P → OnErr r P → P
either_way (Ok x) p q = p
either_way (Err e) p q = q

pub front_of_nothing : (left taken : Option (List ℕ)) (f : List ℕ → List ℕ) → IfSome left (λ input. AppendsPart taken taken (f input))
front_of_nothing None taken f = tt
front_of_nothing (Some input) taken f = AppendsPart-nothing taken (f input)

module _ {S : Type 0} (text : S → List ℕ → List ℕ) (after : S → List ℕ → S) where
  -- the text of the whole lines is a front of the text of all lines
  part_of_all : (start : S) (before taken : Option (List ℕ)) (input : List ℕ) → AppendsPart before taken (texts text after start (whole_lines input))
      → AppendsPart before taken (replay_text text after start input)
  part_of_all start before taken input p =
      let last = lines_among (last_piece input ∷ []) in
      subst (AppendsPart before taken)
      (sym (ap (texts text after start) (lines_of-split input) ∙ texts-append text after start (whole_lines input) last))
      (AppendsPart-longer before taken _ (texts text after (state_after after start (whole_lines input)) last) p)

  pub front_of_all : (start end : S) (left_before left_after before taken : Option (List ℕ)) (input : List ℕ)
      → AnswersAll text after start end left_before left_after before taken input
      → IfSome left_before (λ all. AppendsPart before taken (replay_text text after start all))
  front_of_all start end left_before left_after before taken input h =
      Consumes-whole left_before left_after input (λ all. AppendsPart before taken (replay_text text after start all)) h.consumed h.ended
      (AppendsPart-whole before taken _ h.appended)

  pub front_of_part : (start : S) (left_before left_after before taken : Option (List ℕ)) (read : List ℕ)
      → AnswersPart text after start left_before left_after before taken read
      → IfSome left_before (λ all. AppendsPart before taken (replay_text text after start all))
  front_of_part start None left_after before taken read h = tt
  front_of_part start (Some input) None before taken read h = absurd h.consumed
  front_of_part start (Some input) (Some rest) before taken read h =
      elim h.appended [
        | inl whole ↦
            subst (λ (all : List ℕ). AppendsPart before taken (replay_text text after start all)) (sym h.consumed)
            (part_of_all start before taken (read ++ rest) (part_of_more text after start before taken read rest whole))
        | inr end ↦
            subst (λ (all : List ℕ). AppendsPart before taken (replay_text text after start all))
            (sym (h.consumed ∙ (ap (λ l. read ++ l) end.0 ∙ append-nil read))) end.1
      ]
