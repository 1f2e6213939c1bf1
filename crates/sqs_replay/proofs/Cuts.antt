-- How the cutting goes on when more bytes come.
use Rattle.std.proofs.Common.{◌≡◌, ◌≢◌, ℕ, ◌+◌, ◌-◌, ◌<◌, ◌≤◌, ◌⊎◌, inl, inr, Bool, true, false, ◌==◌, if◌then◌else◌, nat_lt, List, [], ◌∷◌, ◌++◌, length, take, drop, get_or, map, slice_index, refl, sym, ap, subst, ◌∙◌, append_assoc, append-nil, length-append, length-take, arith}
use Rattle.std.specs.List.{filter, flat_map, AllByRecursion}
use Rattle.std.proofs.lemmas.List.{map-append, take-append-le, take_all, take-append-drop, take_rest, take_more}
use Rattle.std.proofs.lemmas.Bool.{lt-ltb}
use Rattle.std.proofs.Math.Seq.{get_or-append_seam, take-append_seam}
use Rattle.std.proofs.lemmas.List.Elements.{filter-append}
use Rattle.std.proofs.lemmas.Bool.Decides.{eqb_tells}
use Rattle.sqs_replay.specs.Cutting.{HasNoFeed, whole_from, last_from, whole_pieces, last_piece, line_of, lines_among, whole_lines, lines_of}

pub whole_from-append : (begun xs ys : List ℕ) → whole_from begun (xs ++ ys) ≡ whole_from begun xs ++ whole_from (last_from begun xs) ys
whole_from-append begun [] ys = refl
whole_from-append begun (x ∷ xs) ys =
    elim (x == 10) as (λ b. (if b then begun ∷ whole_from [] (xs ++ ys) else whole_from (begun ++ x ∷ []) (xs ++ ys)) ≡
    (if b then begun ∷ whole_from [] xs else whole_from (begun ++ x ∷ []) xs) ++ whole_from
    (if b then last_from [] xs else last_from (begun ++ x ∷ []) xs) ys) [
      | true ↦ ap (λ l. begun ∷ l) (whole_from-append [] xs ys)
      | false ↦ whole_from-append (begun ++ x ∷ []) xs ys
    ]

pub last_from-append : (begun xs ys : List ℕ) → last_from begun (xs ++ ys) ≡ last_from (last_from begun xs) ys
last_from-append begun [] ys = refl
last_from-append begun (x ∷ xs) ys =
    elim (x == 10) as (λ b. (if b then last_from [] (xs ++ ys) else last_from (begun ++ x ∷ []) (xs ++ ys)) ≡ last_from
    (if b then last_from [] xs else last_from (begun ++ x ∷ []) xs) ys) [
      | true ↦ last_from-append [] xs ys
      | false ↦ last_from-append (begun ++ x ∷ []) xs ys
    ]

pub lines_among-append : (ps qs : List (List ℕ)) → lines_among (ps ++ qs) ≡ lines_among ps ++ lines_among qs
lines_among-append ps qs = ap (filter (λ line. nat_lt 0 (length line))) (map-append line_of ps qs)
    ∙ filter-append (λ line. nat_lt 0 (length line)) (map line_of ps) (map line_of qs)

pub whole_lines-append : (xs ys : List ℕ) → whole_lines (xs ++ ys) ≡ whole_lines xs ++ lines_among (whole_from (last_piece xs) ys)
whole_lines-append xs ys = ap lines_among (whole_from-append [] xs ys) ∙ lines_among-append (whole_pieces xs) (whole_from (last_piece xs) ys)

-- a line feed ends the piece
pub whole_lines-feed : (xs : List ℕ) (b : ℕ) → b ≡ 10 → whole_lines (xs ++ b ∷ []) ≡ whole_lines xs ++ lines_among (last_piece xs ∷ [])
whole_lines-feed xs b e = ap (λ (c : ℕ). whole_lines (xs ++ c ∷ [])) e ∙ whole_lines-append xs (10 ∷ [])

pub last_piece-feed : (xs : List ℕ) (b : ℕ) → b ≡ 10 → last_piece (xs ++ b ∷ []) ≡ []
last_piece-feed xs b e = ap (λ (c : ℕ). last_piece (xs ++ c ∷ [])) e ∙ last_from-append [] xs (10 ∷ [])

-- a byte that isn't a line feed fails the test
other_byte : (b : ℕ) → b ≢ 10 → (b == 10) ≡ false
other_byte b h = elim (eqb_tells b 10) [ inl same ↦ absurd (h same.1) | inr other ↦ other.0 ]

-- another byte goes on with it
pub whole_lines-other : (xs : List ℕ) (b : ℕ) → b ≢ 10 → whole_lines (xs ++ b ∷ []) ≡ whole_lines xs
whole_lines-other xs b e =
    whole_lines-append xs (b ∷ [])
    ∙ (ap (λ (t : Bool). whole_lines xs ++ lines_among (if t then last_piece xs ∷ [] else [])) (other_byte b e) ∙ append-nil (whole_lines xs))

pub last_piece-other : (xs : List ℕ) (b : ℕ) → b ≢ 10 → last_piece (xs ++ b ∷ []) ≡ last_piece xs ++ b ∷ []
last_piece-other xs b e =
    last_from-append [] xs (b ∷ [])
    ∙ ap (λ (t : Bool). if t then [] else last_piece xs ++ b ∷ []) (other_byte b e)

pub lines_of-split : (xs : List ℕ) → lines_of xs ≡ whole_lines xs ++ lines_among (last_piece xs ∷ [])
lines_of-split xs = lines_among-append (whole_pieces xs) (last_piece xs ∷ [])

-- ---- what is kept of a piece

pub kept_push : (n : ℕ) (p : List ℕ) (b : ℕ) → length (take n p) < n → take n (p ++ b ∷ []) ≡ take n p ++ b ∷ []
kept_push n p b h =
    let few : length p < n = omega (arith, length-take n p) in
    let all : take n p ≡ p = take_all n p (omega arith) in
    let more : take n (p ++ b ∷ []) ≡ p ++ b ∷ [] = take_all n (p ++ b ∷ []) (omega (arith, length-append p (b ∷ []))) in
    more ∙ ap (λ l. l ++ b ∷ []) (sym all)

pub kept_full : (n : ℕ) (p : List ℕ) (b : ℕ) → n ≤ length (take n p) → take n (p ++ b ∷ []) ≡ take n p
kept_full n p b h = take-append-le n p (b ∷ []) (omega (arith, length-take n p))

pub length-line_of : (p : List ℕ) → length p ≤ length (line_of p) + 1
length-line_of p =
    elim (slice_index p (length p - 1) == 13) as (λ b. length p ≤ length (if b then take (length p - 1) p else p) + 1) [
      | true ↦ omega (arith, length-take (length p - 1) p)
      | false ↦ omega arith
    ]

-- a line that isn't empty is the only one of its piece
pub lines_among-line : (p : List ℕ) → 0 < length (line_of p) → lines_among (p ∷ []) ≡ line_of p ∷ []
lines_among-line p h = ap (λ (b : Bool). if b then line_of p ∷ [] else []) (lt-ltb 0 (length (line_of p)) h)

-- ---- the law of the cutting

pub whole_from-joined : (begun bytes : List ℕ) → flat_map (λ piece. piece ++ 10 ∷ []) (whole_from begun bytes) ++ last_from begun bytes ≡ begun ++ bytes
whole_from-joined begun [] = sym (append-nil begun)
whole_from-joined begun (x ∷ xs) =
    elim (eqb_tells x 10) [
      | inl same ↦
          subst (λ (t : Bool). flat_map (λ piece. piece ++ 10 ∷ []) (if t then begun ∷ whole_from [] xs else whole_from (begun ++ x ∷ []) xs) ++
          (if t then last_from [] xs else last_from (begun ++ x ∷ []) xs) ≡ begun ++ x ∷ xs) (sym same.0)
          (append_assoc (begun ++ 10 ∷ []) (flat_map (λ piece. piece ++ 10 ∷ []) (whole_from [] xs)) (last_from [] xs)
          ∙ (ap (λ l. (begun ++ 10 ∷ []) ++ l) (whole_from-joined [] xs) ∙ (append_assoc begun (10 ∷ []) xs ∙ ap (λ (b : ℕ). begun ++ b ∷ xs) (sym same.1))))
      | inr other ↦
          subst (λ (t : Bool). flat_map (λ piece. piece ++ 10 ∷ []) (if t then begun ∷ whole_from [] xs else whole_from (begun ++ x ∷ []) xs) ++
          (if t then last_from [] xs else last_from (begun ++ x ∷ []) xs) ≡ begun ++ x ∷ xs) (sym other.0)
          (whole_from-joined (begun ++ x ∷ []) xs ∙ append_assoc begun (x ∷ []) xs)
    ]

HasNoFeed-push : (xs : List ℕ) (b : ℕ) → HasNoFeed xs → b ≢ 10 → HasNoFeed (xs ++ b ∷ [])
HasNoFeed-push [] b h other = (other, tt)
HasNoFeed-push (x ∷ xs) b h other = (h.0, HasNoFeed-push xs b h.1 other)

pub whole_from-no_feed : (begun bytes : List ℕ) → HasNoFeed begun → AllByRecursion HasNoFeed (whole_from begun bytes)
whole_from-no_feed begun [] h = tt
whole_from-no_feed begun (x ∷ xs) h =
    elim (eqb_tells x 10) [
      | inl same ↦ subst (λ (t : Bool). AllByRecursion HasNoFeed (if t then begun ∷ whole_from [] xs else whole_from (begun ++ x ∷ []) xs)) (sym same.0)
          (h, whole_from-no_feed [] xs tt)
      | inr other ↦ subst (λ (t : Bool). AllByRecursion HasNoFeed (if t then begun ∷ whole_from [] xs else whole_from (begun ++ x ∷ []) xs)) (sym other.0)
          (whole_from-no_feed (begun ++ x ∷ []) xs (HasNoFeed-push begun x h other.1))
    ]

pub last_from-no_feed : (begun bytes : List ℕ) → HasNoFeed begun → HasNoFeed (last_from begun bytes)
last_from-no_feed begun [] h = h
last_from-no_feed begun (x ∷ xs) h =
    elim (eqb_tells x 10) [
      | inl same ↦ subst (λ (t : Bool). HasNoFeed (if t then last_from [] xs else last_from (begun ++ x ∷ []) xs)) (sym same.0) (last_from-no_feed [] xs tt)
      | inr other ↦ subst (λ (t : Bool). HasNoFeed (if t then last_from [] xs else last_from (begun ++ x ∷ []) xs)) (sym other.0)
          (last_from-no_feed (begun ++ x ∷ []) xs (HasNoFeed-push begun x h other.1))
    ]

-- ---- a byte or some bytes in the middle

-- what a slice from n on holds, after what stands before it
pub cut_on : (bytes front rest : List ℕ) (n : ℕ) → bytes ≡ front ++ rest → bytes ≡ (front ++ take n rest) ++ take (length rest - n) (drop n rest)
cut_on bytes front rest n e =
    e ∙ (ap (λ l. front ++ l) (sym (take-append-drop n rest) ∙ ap (λ l. take n rest ++ l) (sym (take_rest rest n)))
    ∙ sym (append_assoc front (take n rest) _))

pub read_more : (read bytes : List ℕ) (i : ℕ) → i < length bytes → (read ++ take i bytes) ++ get_or bytes i 0 ∷ [] ≡ read ++ take (i + 1) bytes
read_more read bytes i h = append_assoc read (take i bytes) (get_or bytes i 0 ∷ []) ∙ ap (λ l. read ++ l) (sym (take_more bytes i 0 h))

pub read_rest : (read bytes : List ℕ) (i : ℕ) → i < length bytes → ((read ++ take i bytes) ++ get_or bytes i 0 ∷ []) ++ drop (i + 1) bytes ≡ read ++ bytes
read_rest read bytes i h =
    ap (λ l. l ++ drop (i + 1) bytes) (read_more read bytes i h)
    ∙ (append_assoc read (take (i + 1) bytes) (drop (i + 1) bytes) ∙ ap (λ l. read ++ l) (take-append-drop (i + 1) bytes))

-- ---- no other pieces join to the bytes

whole_from-piece : (begun piece : List ℕ) → HasNoFeed piece → whole_from begun piece ≡ []
whole_from-piece begun [] h = refl
whole_from-piece begun (x ∷ xs) h =
    ap (λ (t : Bool). if t then begun ∷ whole_from [] xs else whole_from (begun ++ x ∷ []) xs) (other_byte x h.0) ∙ whole_from-piece (begun ++ x ∷ []) xs h.1

last_from-piece : (begun piece : List ℕ) → HasNoFeed piece → last_from begun piece ≡ begun ++ piece
last_from-piece begun [] h = sym (append-nil begun)
last_from-piece begun (x ∷ xs) h =
    ap (λ (t : Bool). if t then last_from [] xs else last_from (begun ++ x ∷ []) xs) (other_byte x h.0)
    ∙ (last_from-piece (begun ++ x ∷ []) xs h.1 ∙ append_assoc begun (x ∷ []) xs)

pub whole_pieces-joined : (pieces : List (List ℕ)) (last : List ℕ) → AllByRecursion HasNoFeed pieces → HasNoFeed last
    → whole_pieces (flat_map (λ piece. piece ++ 10 ∷ []) pieces ++ last) ≡ pieces
whole_pieces-joined [] last h free = whole_from-piece [] last free
whole_pieces-joined (p ∷ ps) last h free =
    let rest = flat_map (λ (piece : List ℕ). piece ++ 10 ∷ []) ps ++ last in
    ap whole_pieces (append_assoc (p ++ 10 ∷ []) (flat_map (λ (piece : List ℕ). piece ++ 10 ∷ []) ps) last ∙ append_assoc p (10 ∷ []) rest)
    ∙ (whole_from-append [] p (10 ∷ rest)
    ∙ (ap (λ l. l ++ whole_from (last_from [] p) (10 ∷ rest)) (whole_from-piece [] p h.0)
    ∙ (ap (λ (l : List ℕ). l ∷ whole_from [] rest) (last_from-piece [] p h.0)
    ∙ ap (λ l. p ∷ l) (whole_pieces-joined ps last h.1 free))))

pub last_piece-joined : (pieces : List (List ℕ)) (last : List ℕ) → AllByRecursion HasNoFeed pieces → HasNoFeed last
    → last_piece (flat_map (λ piece. piece ++ 10 ∷ []) pieces ++ last) ≡ last
last_piece-joined [] last h free = last_from-piece [] last free
last_piece-joined (p ∷ ps) last h free =
    let rest = flat_map (λ (piece : List ℕ). piece ++ 10 ∷ []) ps ++ last in
    ap last_piece (append_assoc (p ++ 10 ∷ []) (flat_map (λ (piece : List ℕ). piece ++ 10 ∷ []) ps) last ∙ append_assoc p (10 ∷ []) rest)
    ∙ (last_from-append [] p (10 ∷ rest) ∙ last_piece-joined ps last h.1 free)

-- ---- one carriage return is dropped

pub line_of-return : (line : List ℕ) → line_of (line ++ 13 ∷ []) ≡ line
line_of-return line =
    let last : length (line ++ 13 ∷ []) - 1 ≡ length line = omega (arith, length-append line (13 ∷ [])) in
    ap (λ (k : ℕ). if slice_index (line ++ 13 ∷ []) k == 13 then take k (line ++ 13 ∷ []) else line ++ 13 ∷ []) last
    ∙ (ap (λ (b : ℕ). if b == 13 then take (length line) (line ++ 13 ∷ []) else line ++ 13 ∷ []) (get_or-append_seam line 13 [] 0)
    ∙ take-append_seam line (13 ∷ []))

pub line_of-cases : (piece : List ℕ) → (line_of piece ≡ piece) ⊎ (piece ≡ line_of piece ++ 13 ∷ [])
line_of-cases [] = inl refl
line_of-cases (x ∷ xs) =
    let piece = x ∷ xs in
    let end = length piece - 1 in
    elim (eqb_tells (slice_index piece end) 13) [
      | inl same ↦
          let whole : length piece ≤ end + 1 = omega arith in
          let inside : end < length piece = omega arith in
          inr (sym (take_all (end + 1) piece whole)
          ∙ (take_more piece end 0 inside
          ∙ (ap (λ (b : ℕ). take end piece ++ b ∷ []) same.1
          ∙ ap (λ (b : Bool). (if b then take end piece else piece) ++ 13 ∷ []) (sym same.0))))
      | inr other ↦ inl (ap (λ (b : Bool). if b then take end piece else piece) other.0)
    ]
