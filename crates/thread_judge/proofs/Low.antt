-- Pieces that end low have a low greatest end.
use Rattle.std.specs.Prelude.{◌≤◌, ◌^◌, Bool, List}
use Rattle.std.proofs.lemmas.List.Elements.{All-weaker}
use Rattle.elf_model.proofs.PieceBounds.{EndsBy, end_by}
use Rattle.elf_model.specs.Link.LinkerValues.{end_of_pieces}
use Rattle.elf_model.specs.Link.Pieces.{Piece}
use Rattle.elf_model.specs.Link.Placement.{Placed}
use Rattle.judge_model.specs.Placed.{IsLow}
use Rattle.thread_judge.specs.Parts.{AreLow}

pub low_end : (test : Piece → Bool) (qs : List Placed) → AreLow qs → end_of_pieces test qs ≤ 2 ^ 47
low_end test qs low = end_by test (2 ^ 47) qs (All-weaker IsLow (EndsBy test (2 ^ 47)) (λ q ends t. ends) qs low)
