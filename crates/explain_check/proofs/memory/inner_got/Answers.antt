use Rattle.std.proofs.Common.{◌∙◌, ap, refl, subst, sym}
use Rattle.std.specs.Prelude.{All}
use Rattle.std.proofs.lemmas.Bool.{false≢true}
use Rattle.elf_model.specs.Image.RightLink.{IsClearOf, Subject}
use Rattle.elf_model.specs.Link.Placement.{got_start, got_things}
use Rattle.check_relocs.specs.Bindings.{Bound}
use Rattle.explain_check.proofs.memory.inner_got.Goals as goal

pub returns : goal.returns
returns c =
    let start = c.in_ok-start.field-0.p_vaddr in record {
      header = c.in_ok-start.field-0;
      there = c.in_ok-start.ensures;
      is_start = refl;
      is_end = c.requires.data_end;
      inner = (
        c.got_start-at.ensures ∙ ap (λ (b : Bound). got_start b.places.got) c.bindings.ensures,
        subst (λ (t : Subject). ¬ All (IsClearOf start c.args.end) (got_things t.map.got)) (c.behind-bound.view_is ∙ c.link.ensures)
            (λ all. false≢true (sym c.if-is_got_clear_of.false ∙ c.is_got_clear_of.ensures.1 all)),
      );
    }
