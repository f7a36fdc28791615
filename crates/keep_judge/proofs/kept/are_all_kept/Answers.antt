use Rattle.std.proofs.Common.{◌≡◌, ◌∙◌, List, ap, subst, sym}
use Rattle.std.specs.Prelude.{All}
use Rattle.std.proofs.lemmas.List.Elements.{All-map}
use Rattle.check_link.specs.Views.{piece_view, piece_views}
use Rattle.check_link.specs.declared.things.Piece.{Piece}
use Rattle.elf_model.proofs.Listed.{All-unmap}
use Rattle.elf_model.specs.Link.Pieces.{kept_sections}
use Rattle.elf_model.specs.declared.link_map.DropLine.{DropLine}
use Rattle.judge_model.specs.Links.{objects_of}
use Rattle.keep_judge.specs.Kept.{IsKeptIn}
use Rattle.keep_judge.proofs.KeptLaws.{all_kept, kept_all}
use Rattle.keep_judge.proofs.kept.are_all_kept.Goals as goal

pub returns : goal.returns
returns c = λ l objects drops whole bare.
    let items = c.in_ok-pieces.pieces.items in
    let is : piece_views items ≡ kept_sections (objects_of l) = c.in_ok-pieces.ensures.pieces ∙ ap kept_sections (sym objects) in
    let P = IsKeptIn c.args.drops.now in
    let seen : All (λ (p : Piece). P (piece_view p)) items → All (IsKeptIn l.certificate.drops) (kept_sections (objects_of l)) = λ all.
    subst (λ (ds : List DropLine). All (IsKeptIn ds) (kept_sections (objects_of l))) (sym drops)
    (subst (All P) is (All-map P piece_view items all)) in
    let back : All (IsKeptIn l.certificate.drops) (kept_sections (objects_of l)) → All (λ (p : Piece). P (piece_view p)) items = λ all.
    All-unmap P piece_view items (subst (All P) (sym is) (subst (λ (ds : List DropLine). All (IsKeptIn ds) (kept_sections (objects_of l))) drops all)) in (
      λ t. all_kept l whole bare (seen (subst (λ (xs : List Piece). All (λ (p : Piece). P (piece_view p)) xs) c.deref.ensures.value (c.are_kept_right.ensures.0 t))),
      λ k. c.are_kept_right.ensures.1 (subst (λ (xs : List Piece). All (λ (p : Piece). P (piece_view p)) xs) (sym c.deref.ensures.value) (back (kept_all l whole bare k))),
    )
