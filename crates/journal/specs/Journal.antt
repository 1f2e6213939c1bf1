-- A journal, as contracts see it.
use Rattle.std.specs.Prelude.{ℕ, ◌-◌, List, [], ◌∷◌, ◌++◌}
use Rattle.message.specs.Content.{ContentText}
use Rattle.journal.specs.declared.entry.Entry.{Entry}
use Rattle.journal.specs.declared.entry.Event.TheVariants.{Base}
use Rattle.journal.specs.Base.{BaseOf}

-- the lines, oldest first, how much they may weigh, and for how many more there is memory for sure
pub record Lines : Type 0 where
  pub lines : List (Entry ContentText)
  pub limit : ℕ
  pub spare : ℕ

abbrev pub no_lines : ℕ → Lines
no_lines limit = record { lines = []; limit = limit; spare = 0 }

-- one more line at the end, which takes one of the spare places where there is one
abbrev pub with_line : Lines → Entry ContentText → Lines
with_line j line = record j { lines = j.lines ++ line ∷ []; spare = j.spare - 1 }

-- one entry in the place of all, which stands for them
abbrev pub based : ℕ → BaseOf ContentText → List (Entry ContentText)
based at base = record { at = at; event = Base base } ∷ []
