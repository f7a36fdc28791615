use Rattle.std.proofs.Common.{List, subst, sym}
use Rattle.std.specs.Prelude.{Some}
use Rattle.elf_model.specs.Own.ImageFile.{own_end}
use Rattle.resolve.specs.Views.{meaning_views}
use Rattle.resolve.specs.declared.definition.Definition as code
use Rattle.image_write.specs.Listings.{AreKept, IsListing, in_order, table_in}
use Rattle.image_write.specs.Tables.{HasTable}
use Rattle.image_write.specs.declared.listed.Listed.{Listed}
use Rattle.linker.specs.InOrder.{AreInOrder}
use Rattle.linker.proofs.InOrderLaws.{from_listing}
use Rattle.linker.proofs.own_definitions.own_definitions.Goals as goal

pub returns-in-InOrder-clause-order : goal.returns-in-InOrder-clause-order
returns-in-InOrder-clause-order c =
    let objects = c.args.linkage.now.objects in
    let kept : IsListing objects c.in-InOrder.listed.items = subst (AreKept objects) c.in-InOrder.is c.parts-parts.ensures.parts.listed in
    subst (λ (ms : List code.Definition). AreInOrder objects (meaning_views ms)) (sym c.deref.ensures.value) (from_listing objects c.in-InOrder.listed.items kept)

pub returns-in-InOrder-clause-sound : goal.returns-in-InOrder-clause-sound
returns-in-InOrder-clause-sound c =
    let objects = c.args.linkage.now.objects in
    let kept : IsListing objects c.in-InOrder.listed.items = subst (AreKept objects) c.in-InOrder.is c.parts-parts.ensures.parts.listed in
    kept.sound

pub returns-in-InOrder-clause-table : goal.returns-in-InOrder-clause-table
returns-in-InOrder-clause-table c =
    let l = c.args.linkage.now in
    subst (λ (ms : List code.Definition). HasTable l.objects (own_end l.plan.base l.objects) (meaning_views ms) l.plan.strip (Some c.in-InOrder.table))
    (sym c.deref.ensures.value)
    (subst (λ (x : Listed). HasTable l.objects (own_end l.plan.base l.objects) (meaning_views (in_order x)) l.plan.strip (table_in x)) c.in-InOrder.is
    c.parts-parts.ensures.parts.tabled)
