-- How the input is cut into lines: this project's own rule.
use Rattle.std.specs.List.{AllByRecursion}
use Rattle.std.specs.Prelude.{◌≢◌, ℕ, ◌-◌, ◌==◌, nat_lt, if◌then◌else◌, List, [], ◌∷◌, ◌++◌, length, take, map, filter, slice_index}

-- the pieces that a line feed (10) ends, where `begun` came before these bytes
abbrev pub whole_from : List ℕ → List ℕ → List (List ℕ)
whole_from begun [] = []
whole_from begun (byte ∷ bytes) = if byte == 10 then begun ∷ whole_from [] bytes else whole_from (begun ++ byte ∷ []) bytes

-- what comes after the last line feed, where `begun` came before these bytes
abbrev pub last_from : List ℕ → List ℕ → List ℕ
last_from begun [] = begun
last_from begun (byte ∷ bytes) = if byte == 10 then last_from [] bytes else last_from (begun ++ byte ∷ []) bytes

-- the input is cut at each line feed: the pieces before one, and what comes after the last
abbrev pub whole_pieces : List ℕ → List (List ℕ)
whole_pieces input = whole_from [] input

abbrev pub last_piece : List ℕ → List ℕ
last_piece input = last_from [] input

-- a piece without the one carriage return (13) that may end it
abbrev pub line_of : List ℕ → List ℕ
line_of piece = if slice_index piece (length piece - 1) == 13 then take (length piece - 1) piece else piece

-- the lines of some pieces: those that are not empty
abbrev pub lines_among : List (List ℕ) → List (List ℕ)
lines_among pieces = filter (λ line. nat_lt 0 (length line)) (map line_of pieces)

-- the lines that a line feed ended
abbrev pub whole_lines : List ℕ → List (List ℕ)
whole_lines input = lines_among (whole_pieces input)

-- the lines of an input that has ended: what comes after the last line feed is one too
abbrev pub lines_of : List ℕ → List (List ℕ)
lines_of input = lines_among (whole_pieces input ++ last_piece input ∷ [])

-- the longest line that can be a request, in bytes: this project's own choice
abbrev pub longest_line : ℕ
longest_line = 8388704

-- no byte of these is a line feed
abbrev pub HasNoFeed : List ℕ → Type 0
HasNoFeed bytes = AllByRecursion (λ byte. byte ≢ 10) bytes
