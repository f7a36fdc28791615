use Rattle.std.proofs.Common.{◌≡◌, None, Option, subst, sym}
use Rattle.std.specs.Prelude.{All, IfSome}
use Rattle.elf_model.specs.Link.Relocation.{relocations}
use Rattle.link_fields.proofs.ForeignFields.{all_right}
use Rattle.link_fields.proofs.WrongPlaces.{wrong_fields}
use Rattle.link_fields.specs.Parts.{IsFieldRightUnlessOut, Parts}
use Rattle.link_fields.specs.Wrong.{IsDenied, field_named}
use Rattle.link_fields.proofs.relocations.wrong_field.Goals as goal

pub returns-clause-right : goal.returns-clause-right
returns-clause-right c = λ l parts drops are none.
    (all_right l c.args.taken.now are c.args.drops.now drops).0
    (subst (λ (p : Parts). All (IsFieldRightUnlessOut p c.args.taken.now c.args.drops.now) (relocations p.objects)) (sym parts)
    (c.wrong_among.ensures.right none))

pub returns-clause-wrong : goal.returns-clause-wrong
returns-clause-wrong c = λ l parts drops are.
    wrong_fields l c.args.taken.now are c.args.drops.now drops c.wrong_among.result
    (subst
    (λ (p : Parts). IfSome c.wrong_among.result (IsDenied (IsFieldRightUnlessOut p c.args.taken.now c.args.drops.now) field_named (relocations p.objects)))
    (sym parts) c.wrong_among.ensures.wrong)
