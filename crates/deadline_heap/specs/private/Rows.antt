-- Rows of a number and what is kept of it, the least number first.
use Rattle.std.specs.Prelude.{◌≡◌, ℕ, ◌<◌, ◌≤◌, List, length, slice_index_or}

-- the number of the row at place i
abbrev pub key_at : List (ℕ × ℕ) → ℕ → ℕ × ℕ → ℕ
key_at rows i d = let row = slice_index_or rows i d in row.0

-- the numbers rise, so none comes twice
abbrev pub IsRising : List (ℕ × ℕ) → Type 0
IsRising rows = (i j : ℕ) (d : ℕ × ℕ) → i < j → j < length rows → key_at rows i d < key_at rows j d

-- the row at place i has the number
pub record IsRowOf (rows : List (ℕ × ℕ)) (number i : ℕ) : Type 0 where
  pub within : i < length rows
  pub number_is : (d : ℕ × ℕ) → key_at rows i d ≡ number

-- no row has the number, which would go to place i: lesser numbers before it, and greater ones from it on
pub record IsGapFor (rows : List (ℕ × ℕ)) (number i : ℕ) : Type 0 where
  pub within : i ≤ length rows
  pub lesser_before : (j : ℕ) (d : ℕ × ℕ) → j < i → key_at rows j d < number
  pub greater_after : (j : ℕ) (d : ℕ × ℕ) → i ≤ j → j < length rows → number < key_at rows j d
