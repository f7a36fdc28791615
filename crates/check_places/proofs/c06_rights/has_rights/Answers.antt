use Rattle.std.proofs.Common.{List, subst, sym, ◌∙◌}
use Rattle.std.specs.Prelude.{All}
use Rattle.elf_model.specs.Link.Placement.{LiesInSegment}
use Rattle.elf_model.specs.declared.records.ProgramHeader.{ProgramHeader}
use Rattle.check_places.proofs.c06_rights.has_rights.Goals as goal

pub returns : goal.returns
returns c = (
  λ b. record {
    first = sym c.first_address.ensures ∙ c.if-first_address-base.false;
    nonempty = c.nonempty_lie.ensures.0 c.if-not-nonempty_lie.false;
    got =
        subst (λ (hs : List ProgramHeader). All (LiesInSegment hs) c.args.gots.now) c.segments.ensures (c.all_lie.ensures.0 b);
  },
  λ rights. c.all_lie.ensures.1
      (subst (λ (hs : List ProgramHeader). All (LiesInSegment hs) c.args.gots.now) (sym c.segments.ensures) rights.got),
)
