use Rattle.std.proofs.Common.{◌≡◌, ◌∙◌, List, ap, refl, subst, sym, true}
use Rattle.std.specs.Prelude.{◌↔◌, option_copied}
use Rattle.elf_model.specs.Link.Pieces.{Piece}
use Rattle.check_link.specs.Outputs.{AreOne}
use Rattle.check_link.specs.Views.{piece_views}
use Rattle.check_link.proofs.SeenOutputs.{one_in_table}
use Rattle.check_link.proofs.output_names.Outputs.are_one.Goals as goal

pub returns-in-Some : goal.returns-in-Some
returns-in-Some c =
    let name = c.args.name.now in
    subst (λ (ps : List Piece). (c.in-Some.output.now.alike ≡ true) ↔ AreOne ps name) c.self.view_is
    (one_in_table name (piece_views c.self.inside.pieces.now) c.self.inside.table (c.self.invariant name) _
    (sym c.get.ensures.value ∙ ap option_copied c.in-Some.is) c.in-Some.output.now.alike refl)

pub returns-in-None : goal.returns-in-None
returns-in-None c =
    let name = c.args.name.now in
    subst (λ (ps : List Piece). (true ≡ true) ↔ AreOne ps name) c.self.view_is
    (one_in_table name (piece_views c.self.inside.pieces.now) c.self.inside.table (c.self.invariant name) _
    (sym c.get.ensures.value ∙ ap option_copied c.in-None.is) true refl)
