-- What the row of a name says of its candidates: the first of each kind, whether two are strong, and what a
-- common block has to hold.
use Rattle.std.proofs.Common.{◌≡◌, ℕ, ◌+◌, ◌≤◌, Bool, true, false, cond, List, [], ◌∷◌, ◌++◌, refl, sym, ◌∙◌, ap, subst, arith, Some, None, Option}
use Rattle.std.specs.Prelude.{◌||◌, IsTrue, count_by, filter, find, is_some, map, max, nat_le, unwrap_or}
use Rattle.std.specs.Option.{option_map, option_or}
use Rattle.std.proofs.lemmas.Bool.Decides.{nat_tests}
use Rattle.std.proofs.lemmas.List.Sums.{sum_by-cons}
use Rattle.elf_model.specs.Link.Commons.{greatest}
use Rattle.elf_model.specs.declared.references.SymbolRef.{SymbolRef}
use Rattle.symbols.specs.Offers.{IsRowOf, Offer, all_taken, candidates_of, first_symbol, is_common, is_common_kind, is_strong, is_strong_kind, is_weak, is_weak_kind, row_of}
use Rattle.symbols.specs.Rows.{no_row, taken, taken_as, taken_in}
use Rattle.symbols.specs.declared.candidate.Candidate.{Candidate}
use Rattle.symbols.specs.declared.candidate.CandidateKind.{CandidateKind}
use Rattle.symbols.specs.declared.candidate.CandidateKind.TheVariants.{Strong, Weak, Common}
use Rattle.symbols.specs.declared.row.Row.{Row}
use Rattle.symbols.proofs.OfferLaws.{row_of-append}

-- a row after candidates in order
abbrev pub row_after : List Candidate → Row → Row
row_after [] row = row
row_after (c ∷ cs) row = row_after cs (taken_in c row)

all_taken-row : (cs : List Candidate) (row : Option Row) → unwrap_or (all_taken cs row) no_row ≡ row_after cs (unwrap_or row no_row)
all_taken-row [] row = refl
all_taken-row (c ∷ cs) row = all_taken-row cs (Some (taken c row))

first_stays : (first : Option SymbolRef) (s : SymbolRef) (rest : Option SymbolRef) → option_or (option_or first (Some s)) rest ≡ option_or first (Some s)
first_stays None s rest = refl
first_stays (Some f) s rest = refl

-- what a row keeps of candidates of a kind, where it takes in one, and then others, of which the first is given
abbrev Keeps : (CandidateKind → Bool) → (Row → Option SymbolRef) → CandidateKind → Candidate → Row → Type 0
Keeps is part k c row =
    (rest : Option Candidate) →
    option_or (part (taken_as k c row)) (option_map (λ x. x.symbol) rest)
    ≡ option_or (part row) (option_map (λ x. x.symbol) (cond (is k) (Some c) rest))

record KeepsFirst (k : CandidateKind) (c : Candidate) (row : Row) : Type 0 where
  strong : Keeps is_strong_kind (λ r. r.strong) k c row
  weak : Keeps is_weak_kind (λ r. r.weak) k c row
  common : Keeps is_common_kind (λ r. r.common) k c row

keeps_first : (k : CandidateKind) (c : Candidate) (row : Row) → KeepsFirst k c row
keeps_first Strong c row = record {
  strong = λ rest. first_stays row.strong c.symbol (option_map (λ x. x.symbol) rest);
  weak = λ rest. refl;
  common = λ rest. refl;
}
keeps_first Weak c row = record {
  strong = λ rest. refl;
  weak = λ rest. first_stays row.weak c.symbol (option_map (λ x. x.symbol) rest);
  common = λ rest. refl;
}
keeps_first Common c row = record {
  strong = λ rest. refl;
  weak = λ rest. refl;
  common = λ rest. first_stays row.common c.symbol (option_map (λ x. x.symbol) rest);
}

nothing_else : (o : Option SymbolRef) → o ≡ option_or o None
nothing_else None = refl
nothing_else (Some s) = refl

-- the first one of a kind
row_after-first :
    (is : CandidateKind → Bool) (part : Row → Option SymbolRef) →
    ((k : CandidateKind) (c : Candidate) (row : Row) → Keeps is part k c row) →
    (cs : List Candidate) (row : Row) → part (row_after cs row) ≡ option_or (part row) (first_symbol (λ c. is c.kind) cs)
row_after-first is part keeps [] row = nothing_else (part row)
row_after-first is part keeps (c ∷ cs) row = row_after-first is part keeps cs (taken_in c row) ∙ keeps c.kind c row (find (λ x. is x.kind) cs)

pub row_after-strong : (cs : List Candidate) (row : Row) → (row_after cs row).strong ≡ option_or row.strong (first_symbol is_strong cs)
row_after-strong = row_after-first is_strong_kind (λ r. r.strong) (λ k c row. (keeps_first k c row).strong)

pub row_after-weak : (cs : List Candidate) (row : Row) → (row_after cs row).weak ≡ option_or row.weak (first_symbol is_weak cs)
row_after-weak = row_after-first is_weak_kind (λ r. r.weak) (λ k c row. (keeps_first k c row).weak)

pub row_after-common : (cs : List Candidate) (row : Row) → (row_after cs row).common ≡ option_or row.common (first_symbol is_common cs)
row_after-common = row_after-first is_common_kind (λ r. r.common) (λ k c row. (keeps_first k c row).common)

-- how many strong ones a row has seen, as far as its first
abbrev pub ones : Option SymbolRef → ℕ
ones None = 0
ones (Some s) = 1

twice_strong :
    (first : Option SymbolRef) (t : Bool) (s : SymbolRef) (n : ℕ) →
    ((t || is_some first) || nat_le 2 (ones (option_or first (Some s)) + n)) ≡ (t || nat_le 2 (ones first + (1 + n)))
twice_strong first true s n = refl
twice_strong None false s n = ap (λ m. nat_le 2 m) (omega arith)
twice_strong (Some f) false s n = let more : nat_le 2 (1 + (1 + n)) ≡ true = grind (arith, nat_tests) in sym more

twice_step :
    (k : CandidateKind) (c : Candidate) (row : Row) (n : ℕ) →
    ((taken_as k c row).twice || nat_le 2 (ones (taken_as k c row).strong + n))
    ≡ (row.twice || nat_le 2 (ones row.strong + (cond (is_strong_kind k) 1 0 + n)))
twice_step Strong c row n = twice_strong row.strong row.twice c.symbol n
twice_step Weak c row n = ap (λ m. row.twice || nat_le 2 (ones row.strong + m)) (omega arith)
twice_step Common c row n = ap (λ m. row.twice || nat_le 2 (ones row.strong + m)) (omega arith)

not_yet : (t : Bool) (first : Option SymbolRef) → t ≡ (t || nat_le 2 (ones first + 0))
not_yet true first = refl
not_yet false None = refl
not_yet false (Some s) = refl

-- whether two are strong
pub row_after-twice : (cs : List Candidate) (row : Row) → (row_after cs row).twice ≡ (row.twice || nat_le 2 (ones row.strong + count_by is_strong cs))
row_after-twice [] row = not_yet row.twice row.strong
row_after-twice (c ∷ cs) row =
    let counted = sum_by-cons (λ x. cond (is_strong x) 1 0) c cs in
    row_after-twice cs (taken_in c row) ∙ twice_step c.kind c row (count_by is_strong cs)
    ∙ ap (λ n. row.twice || nat_le 2 (ones row.strong + n)) (sym counted)

-- the greatest number of a common one, which a row keeps
module _ (number : Candidate → ℕ) (kept : Row → ℕ) (strong : (c : Candidate) (row : Row) → kept (taken_as Strong c row) ≡ kept row)
    (weak : (c : Candidate) (row : Row) → kept (taken_as Weak c row) ≡ kept row) (common : (c : Candidate) (row : Row) → kept (taken_as Common c row) ≡ max (kept row) (number c)) where
  greatest_step :
      (k : CandidateKind) (c : Candidate) (row : Row) (rest : List Candidate) →
      max (kept (taken_as k c row)) (greatest (map number rest)) ≡ max (kept row) (greatest (map number (cond (is_common_kind k) (c ∷ rest) rest)))
  greatest_step Strong c row rest = ap (λ n. max n (greatest (map number rest))) (strong c row)
  greatest_step Weak c row rest = ap (λ n. max n (greatest (map number rest))) (weak c row)
  greatest_step Common c row rest = let is = common c row in omega (arith, is)

  greatest_after : (cs : List Candidate) (row : Row) → kept (row_after cs row) ≡ max (kept row) (greatest (map number (filter is_common cs)))
  greatest_after [] row = omega arith
  greatest_after (c ∷ cs) row = greatest_after cs (taken_in c row) ∙ greatest_step c.kind c row (filter is_common cs)

pub row_after-common_size :
    (cs : List Candidate) (row : Row) → (row_after cs row).common_size ≡ max row.common_size (greatest (map (λ c. c.size) (filter is_common cs)))
row_after-common_size = greatest_after (λ c. c.size) (λ row. row.common_size) (λ c row. refl) (λ c row. refl) (λ c row. refl)

pub row_after-common_align :
    (cs : List Candidate) (row : Row) → (row_after cs row).common_align ≡ max row.common_align (greatest (map (λ c. c.align) (filter is_common cs)))
row_after-common_align = greatest_after (λ c. c.align) (λ row. row.common_align) (λ c row. refl) (λ c row. refl) (λ c row. refl)

-- what a row says after candidates in order, where nothing was said before
pub row_after-IsRowOf : (cs : List Candidate) → IsRowOf cs (row_after cs no_row)
row_after-IsRowOf cs =
    let two = row_after-twice cs no_row in
    let n = count_by is_strong cs in
    record {
      strong = row_after-strong cs no_row;
      twice = ((λ t. two_from_test n (sym two ∙ t)), (λ more. two ∙ test_from_two n more));
      weak = row_after-weak cs no_row;
      common = row_after-common cs no_row;
      common_size = row_after-common_size cs no_row ∙ omega arith;
      common_align = row_after-common_align cs no_row ∙ omega arith;
    }
  where
    two_from_test : (n : ℕ) → nat_le 2 (0 + n) ≡ true → 2 ≤ n
    two_from_test n t = grind (arith, nat_tests)

    test_from_two : (n : ℕ) → 2 ≤ n → nat_le 2 (0 + n) ≡ true
    test_from_two n more = grind (arith, nat_tests)

-- The row of a name after offers says what its candidates are: from it the choice among them can be read,
-- the first strong one, else the common block, else the first weak one.
pub row_of-IsRowOf : (offers : List Offer) (name : List ℕ) → IsRowOf (candidates_of name offers) (unwrap_or (row_of offers name) no_row)
row_of-IsRowOf offers name =
    let cs = candidates_of name offers in
    subst (λ row. IsRowOf cs row) (sym (all_taken-row cs None)) (row_after-IsRowOf cs)

-- two strong ones stay two, whatever is offered behind them
pub twice_stays :
    (offers others : List Offer) (name : List ℕ) → IsTrue (unwrap_or (row_of offers name) no_row).twice → IsTrue (unwrap_or (row_of (offers ++ others) name) no_row).twice
twice_stays offers others name two =
    let cs = candidates_of name others in
    let row = unwrap_or (row_of offers name) no_row in
    ap (λ o. (unwrap_or o no_row).twice) (row_of-append offers others name)
    ∙ ap (λ r. r.twice) (all_taken-row cs (row_of offers name))
    ∙ row_after-twice cs row
    ∙ ap (λ t. t || nat_le 2 (ones row.strong + count_by is_strong cs)) two
