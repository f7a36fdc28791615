-- Definitions as candidates that a table of names is offered, and what its rows then say a name means.
use Rattle.std.specs.Prelude.{ℕ, ◌==◌, ◌&&◌, Bool, false, List, Option, map, unwrap_or}
use Rattle.std.specs.Option.{option_map_or, option_or}
use Rattle.elf_model.specs.Link.Resolution.{SymbolOf}
use Rattle.elf_model.specs.declared.references.SymbolRef.{SymbolRef}
use Rattle.symbols.specs.Kinds.{kind_by}
use Rattle.symbols.specs.Offers.{Offer, all_offered}
use Rattle.symbols.specs.Rows.{Rows, no_row, no_rows}
use Rattle.symbols.specs.declared.candidate.Candidate.{Candidate}
use Rattle.symbols.specs.declared.candidate.CandidateKind.{CandidateKind}
use Rattle.symbols.specs.declared.row.Row.{Row}

abbrev pub ref_of : SymbolOf → SymbolRef
ref_of s = record { object = record { 0 = s.object }; symbol = s.number }

abbrev pub kind_of : SymbolOf → CandidateKind
kind_of s = kind_by s.entry s.dropped

abbrev pub candidate_of : SymbolOf → Candidate
candidate_of s = record { symbol = ref_of s; kind = kind_of s; size = s.entry.st_size; align = s.entry.st_value }

abbrev pub offer_of : SymbolOf → Offer
offer_of s = record { name = s.name; candidate = candidate_of s }

abbrev pub offers_of : List SymbolOf → List Offer
offers_of ss = map offer_of ss

-- the rows of a table to which definitions are offered, each once, and nothing else
abbrev pub rows_of : List SymbolOf → Rows
rows_of ss = all_offered (offers_of ss) no_rows

-- the symbol that a row's name means: the first strong one, else the first common one, else the first weak one
abbrev pub chosen_ref : Row → Option SymbolRef
chosen_ref row = option_or row.strong (option_or row.common row.weak)

abbrev pub chosen_in : Rows → List ℕ → Option SymbolRef
chosen_in rows name = chosen_ref (unwrap_or (rows name) no_row)

-- a symbol has these numbers
abbrev pub is_referred : SymbolOf → SymbolRef → Bool
is_referred s r = s.object == r.object.0 && s.number == r.symbol

-- a symbol is the one that its name means
abbrev pub is_meant : Rows → SymbolOf → Bool
is_meant rows s = option_map_or (is_referred s) (chosen_in rows s.name) false
