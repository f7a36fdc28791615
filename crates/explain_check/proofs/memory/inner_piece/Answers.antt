use Rattle.std.proofs.Common.{◌∙◌, List, ap, refl, sym}
use Rattle.std.specs.List.{slice_get}
use Rattle.std.proofs.lemmas.Bool.{false≢true}
use Rattle.elf_model.proofs.Listed.{Contains-from_slice_get}
use Rattle.elf_model.specs.Image.RightLink.{placed_of}
use Rattle.elf_model.specs.Link.Placement.{Placed}
use Rattle.check_link.specs.Views.{placed_view}
use Rattle.explain_check.proofs.memory.inner_piece.Goals as goal

pub returns : goal.returns
returns c =
    let q = c.in_ok-placed.placed in record {
      header = c.in_ok-start.field-0;
      there = c.in_ok-start.ensures;
      is_start = refl;
      is_end = c.requires.data_end;
      inner = (
        Contains-from_slice_get (placed_of c.args.bound.now) c.args.number (placed_view q)
            (ap (λ (qs : List Placed). slice_get qs c.args.number) (sym c.placed.ensures) ∙ c.in_ok-placed.ensures),
        (refl, λ both. false≢true (sym c.if-is_out_of.false ∙ c.is_out_of.ensures.1 both)),
      );
    }
