use Rattle.std.proofs.Common.{List, subst, sym}
use Rattle.std.specs.Prelude.{IsPermutation}
use Rattle.check_load.specs.Views.{loaded_view, loaded_views}
use Rattle.link_fields.specs.declared.object_fields.SectionField.{SectionField}
use Rattle.link_fields.proofs.FieldParts.{has_all, has_none}
use Rattle.link_fields.proofs.object_fields.row_of.Goals as goal

pub returns-in_ok-row-in-Some : goal.returns-in_ok-row-in-Some
returns-in_ok-row-in-Some c =
    has_all (loaded_views c.args.objects.now) c.args.number (loaded_view c.in-Some.loaded.now) c.in_ok-row-in-Some.row.items (sym c.in-Some.ensures)
    (subst (λ (fs : List SectionField). IsPermutation fs c.in_ok-row-in-Some.row.items) c.in_ok-collected-in-Some.ensures c.in_ok-row-in-Some.ensures.same)
    c.in_ok-row-in-Some.ensures.rising

pub returns-in-None : goal.returns-in-None
returns-in-None c = has_none (loaded_views c.args.objects.now) c.args.number c.new.result.items c.in-None.ensures c.new.ensures.items
