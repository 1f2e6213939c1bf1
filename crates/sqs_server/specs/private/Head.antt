-- How many bytes the large bodies at one thread may have together.
use Rattle.std.specs.Prelude.{ℕ}

-- the most bytes that large bodies may have together whose requests one thread answers: those of four of the largest
abbrev pub bodies_limit : ℕ
bodies_limit = 33_554_432
