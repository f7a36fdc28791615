use Rattle.std.proofs.Common.{◌≡◌, ℕ, List, drop, map}
use Rattle.std.specs.Borrow.{Bor}
use Rattle.symbols.specs.Offers.{Offer, all_offered}
use Rattle.symbols.specs.declared.candidate.Candidate.{Candidate}
use Rattle.reader_tests.proofs.tests.names.offer_all.Given as goal

abbrev pub offers_in : List (Bor (List ℕ) × Candidate) → List Offer
offers_in offers = map (λ o. record { name = o.0.now; candidate = o.1 }) offers

-- what is left leads where all of them lead from the start
abbrev pub invariant-loop-name : goal.invariant-loop-name
invariant-loop-name g l =
    all_offered (offers_in (drop l.name-index l.offers)) (g.T.NameTable.rows l.table)
    ≡ all_offered (offers_in l.offers) (g.T.NameTable.rows l.fn.table)
