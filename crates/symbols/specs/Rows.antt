-- Rows of names: what a row says of its name's candidates, how it takes one in, and what the rows of all
-- names are after a candidate is offered for one.
use Rattle.std.specs.Prelude.{ℕ, ◌||◌, false, cond, List, Option, Some, None, is_some, max, unwrap_or}
use Rattle.std.specs.Option.{option_or}
use Rattle.std.specs.Str.{bytes_eq}
use Rattle.symbols.specs.declared.candidate.Candidate.{Candidate}
use Rattle.symbols.specs.declared.candidate.CandidateKind.{CandidateKind}
use Rattle.symbols.specs.declared.candidate.CandidateKind.TheVariants.{Strong, Weak, Common}
use Rattle.symbols.specs.declared.row.Row.{Row}

-- the row of a name without candidates
abbrev pub no_row : Row
no_row = record { strong = None; twice = false; weak = None; common = None; common_size = 0; common_align = 0 }

-- A row after a candidate: the first one of the candidate's kind stays, and is the candidate where there was
-- none; a strong one after a strong one makes two; a common block grows to hold a common one.
abbrev pub taken_as : CandidateKind → Candidate → Row → Row
taken_as Strong c row = record row {
  strong = option_or row.strong (Some c.symbol);
  twice = row.twice || is_some row.strong;
}
taken_as Weak c row = record row { weak = option_or row.weak (Some c.symbol) }
taken_as Common c row = record row {
  common = option_or row.common (Some c.symbol);
  common_size = max row.common_size c.size;
  common_align = max row.common_align c.align;
}

abbrev pub taken_in : Candidate → Row → Row
taken_in c row = taken_as c.kind c row

-- the row of a name, if it has one, after a candidate
abbrev pub taken : Candidate → Option Row → Row
taken c row = taken_in c (unwrap_or row no_row)

-- the row of each name that has one
abbrev pub Rows : Type 0
Rows = List ℕ → Option Row

abbrev pub no_rows : Rows
no_rows name = None

-- the rows after a candidate is offered for a name: its row has taken the candidate in, and every other
-- name's is as before
abbrev pub offered : List ℕ → Candidate → Rows → Rows
offered name c rows other = cond (bytes_eq name other) (Some (taken c (rows name))) (rows other)
