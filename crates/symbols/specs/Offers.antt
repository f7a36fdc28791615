-- Offers of candidates for names, in order, and what a row says of the candidates of its name, from which the
-- chosen one can be read: the strong one, else the common block, else the first weak one (System V gABI 4,
-- "Symbol Table"; that it is the first weak one, and the block's alignment the greatest, is the profile's).
use Rattle.std.specs.Prelude.{◌≡◌, ℕ, ◌≤◌, ◌↔◌, Bool, true, false, List, [], ◌∷◌, Option, Some, None, IsTrue, count_by, filter, find, map}
use Rattle.std.specs.Option.{option_map}
use Rattle.std.specs.Str.{bytes_eq}
use Rattle.elf_model.specs.Link.Commons.{greatest}
use Rattle.elf_model.specs.declared.references.SymbolRef.{SymbolRef}
use Rattle.symbols.specs.Rows.{Rows, offered, taken}
use Rattle.symbols.specs.declared.candidate.Candidate.{Candidate}
use Rattle.symbols.specs.declared.candidate.CandidateKind.{CandidateKind}
use Rattle.symbols.specs.declared.candidate.CandidateKind.TheVariants.{Strong, Weak, Common}
use Rattle.symbols.specs.declared.row.Row.{Row}

-- a candidate, and the name that it is offered for
pub record Offer : Type 0 where
  pub name : List ℕ
  pub candidate : Candidate

abbrev pub is_for : List ℕ → Offer → Bool
is_for name o = bytes_eq o.name name

-- the candidates that are offered for a name, in order
abbrev pub candidates_of : List ℕ → List Offer → List Candidate
candidates_of name offers = map (λ o. o.candidate) (filter (is_for name) offers)

-- the row of a name, if it has one, after candidates in order
abbrev pub all_taken : List Candidate → Option Row → Option Row
all_taken [] row = row
all_taken (c ∷ cs) row = all_taken cs (Some (taken c row))

-- the row of a name after offers; None where none of them is for it
abbrev pub row_of : List Offer → List ℕ → Option Row
row_of offers name = all_taken (candidates_of name offers) None

-- the rows of all names after offers
abbrev pub all_offered : List Offer → Rows → Rows
all_offered [] rows = rows
all_offered (o ∷ os) rows = all_offered os (offered o.name o.candidate rows)

-- the kinds of candidates
abbrev pub is_strong_kind : CandidateKind → Bool
is_strong_kind Strong = true
is_strong_kind Weak = false
is_strong_kind Common = false

abbrev pub is_weak_kind : CandidateKind → Bool
is_weak_kind Strong = false
is_weak_kind Weak = true
is_weak_kind Common = false

abbrev pub is_common_kind : CandidateKind → Bool
is_common_kind Strong = false
is_common_kind Weak = false
is_common_kind Common = true

abbrev pub is_strong : Candidate → Bool
is_strong c = is_strong_kind c.kind

abbrev pub is_weak : Candidate → Bool
is_weak c = is_weak_kind c.kind

abbrev pub is_common : Candidate → Bool
is_common c = is_common_kind c.kind

-- the symbol of the first candidate that passes a test
abbrev pub first_symbol : (Candidate → Bool) → List Candidate → Option SymbolRef
first_symbol test cs = option_map (λ c. c.symbol) (find test cs)

-- what a row says of the candidates of its name
pub record IsRowOf (cs : List Candidate) (row : Row) : Type 0 where
  pub strong : row.strong ≡ first_symbol is_strong cs
  pub twice : IsTrue row.twice ↔ (2 ≤ count_by is_strong cs)
  pub weak : row.weak ≡ first_symbol is_weak cs
  pub common : row.common ≡ first_symbol is_common cs
  pub common_size : row.common_size ≡ greatest (map (λ c. c.size) (filter is_common cs))
  pub common_align : row.common_align ≡ greatest (map (λ c. c.align) (filter is_common cs))
