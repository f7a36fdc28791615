use Rattle.std.proofs.Common.{List, ℕ, subst, sym}
use Rattle.std.specs.Prelude.{All}
use Rattle.std.proofs.lemmas.List.Elements.{All-map}
use Rattle.check_load.specs.Kept.{piece_at}
use Rattle.check_load.specs.Views.{loaded_view}
use Rattle.elf_model.proofs.Listed.{All-unmap}
use Rattle.elf_model.specs.Link.Pieces.{Piece}
use Rattle.keep_judge.specs.Collected.{IsRightIn}
use Rattle.keep_judge.proofs.object_sections.are_sections_right.Goals as goal

pub returns : goal.returns
returns c =
    let n = c.args.number in
    let o = loaded_view c.args.loaded.now in
    let P : Piece → Type 0 = IsRightIn c.args.drops.now n o in
    let xs : List ℕ = c.kept_sections-sections.result.now in
    let pieces = c.kept_sections-sections.ensures.pieces n in (
      λ t. subst (All P) (sym pieces) (All-map P (piece_at n o) xs (c.are_right_among.ensures.0 t)),
      λ all. c.are_right_among.ensures.1 (All-unmap P (piece_at n o) xs (subst (All P) pieces all)),
    )
