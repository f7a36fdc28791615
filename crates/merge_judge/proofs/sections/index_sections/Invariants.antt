use Rattle.std.proofs.Common.{◌≡◌, ℕ}
use Rattle.std.specs.Prelude.{find}
use Rattle.check_link.specs.PlaceIndex.{address_in}
use Rattle.check_link.specs.Views.{piece_views}
use Rattle.merge_judge.specs.Sections.{is_numbered}
use Rattle.merge_judge.proofs.SectionLaws.{found_at}
use Rattle.merge_judge.proofs.sections.index_sections.Given as goal

abbrev pub invariant-loop-k : goal.invariant-loop-k
invariant-loop-k l =
    (object section : ℕ)
    → found_at object section (piece_views l.pieces) (address_in l.index object section) l.k
    ≡ find (is_numbered object section) (piece_views l.pieces)
