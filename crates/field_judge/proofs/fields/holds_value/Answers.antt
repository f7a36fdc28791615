use Rattle.std.proofs.Common.{refl}
use Rattle.std.proofs.lemmas.Bool.{false≢true}
use Rattle.field_judge.proofs.OneField.{held_where, not_fitting}
use Rattle.field_judge.specs.Given.{letters_in, pointer_of}
use Rattle.field_judge.specs.Kinds.{kind_view}
use Rattle.field_judge.proofs.fields.holds_value.Goals as goal

pub returns-then-not-fits : goal.returns-then-not-fits
returns-then-not-fits c = λ g v given value.
    let image = c.args.image.now in
    let x = letters_in image g v c.args.slot in
    let wanted = c.value_of-wanted.ensures x (pointer_of image) (c.terms_of.ensures image g v c.args.slot given value) refl in (
      λ e. absurd (false≢true e),
      λ h. absurd
          (not_fitting image g (kind_view c.args.kind.now) v c.args.slot c.value_of-wanted.result c.fits.result wanted c.fits.ensures
          c.if-not-fits.true h),
    )

pub returns : goal.returns
returns c = λ g v given value.
    let image = c.args.image.now in
    let x = letters_in image g v c.args.slot in
    let wanted = c.value_of-wanted.ensures x (pointer_of image) (c.terms_of.ensures image g v c.args.slot given value) refl in
    held_where image g (kind_view c.args.kind.now) v c.args.slot c.value_of-wanted.result c.args.asked.now.at c.args.asked.now.offset
    c.fits.result c.holds_number.result wanted given.at given.offset c.fits.ensures c.holds_number.ensures c.if-not-fits.false
