use Rattle.std.proofs.Common.{rules, ◌%◌, ◌^◌, ◌∙◌, ℕ, ap, refl, subst, sym}
use Rattle.std.specs.Prelude.{Some}
use Rattle.std.proofs.lemmas.Int.{to_z-of_z}
use Rattle.std.proofs.lemmas.Option.{same_Some}
use Rattle.std.specs.Int.{w64}
use Rattle.byteview.specs.Numbers.{le, le_bytes}
use Rattle.judge_model.specs.Memory.{Holds}
use Rattle.field_judge.proofs.LetterLaws.{less_same}
use Rattle.field_judge.proofs.OneField.{same_place, slot_told}
use Rattle.field_judge.specs.Given.{letters_in, pointer_of, value_in}
use Rattle.field_judge.specs.Kinds.{kind_view}
use Rattle.field_judge.proofs.fields.slot_of.Goals as goal

pub returns-in-Some : goal.returns-in-Some
returns-in-Some c = λ g v at given low h.
    let image = c.args.image.now in
    let k = c.args.kind.now in
    let a = c.args.asked in
    let w = value_in image g (kind_view k) v at in
    let place = same_place a.at a.offset g.at g.offset given.at given.offset in
    let held = subst (λ (n : ℕ). Holds image n (le_bytes k.width w)) (sym place) h.holds in
    let number = same_Some c.in-Some.number (le (le_bytes k.width w)) (c.in-Some.ensures.only w held) in
    let less =
    c.less_of-less.ensures (letters_in image g 0 at) (pointer_of image) (c.terms_of.ensures image g 0 at given refl)
    ∙ ap (λ (n : ℕ). n % 2 ^ 64)
    (less_same k.formula (letters_in image g 0 at) (letters_in image g v at) (pointer_of image) refl refl) in
    ap Some
    (slot_told image g k v at c.in-Some.number c.shown.result c.slot_address.result c.less_of-less.result _ c.requires.slot c.requires.tells low
    (to_z-of_z w64 a.addend (search rules) ∙ given.addend) h number c.shown.ensures less c.slot_address.ensures)
