use Rattle.std.proofs.Common.{ℕ, ◌++◌, ◌∷◌, [], ◌∙◌, List, ap, append-nil, arith, not, refl, sym}
use Rattle.check_load.specs.KeptRelocations.{relocation_at}
use Rattle.memory_judge.specs.declared.rests.FieldSpan.{FieldSpan}
use Rattle.input_judge.proofs.ApartLaws.{no_bytes, some_bytes}
use Rattle.input_judge.specs.declared.fields_apart.FieldBytes.{FieldBytes}
use Rattle.input_judge.proofs.fields_apart.add_field.Goals as goal

abbrev bytes_at : ℕ → FieldSpan → FieldBytes
bytes_at section s = record { at = s.at; section = section; width = s.width }

pub returns-then-place-eq0 : goal.returns-then-place-eq0
returns-then-place-eq0 c = λ o.
    let r = relocation_at c.args.number o c.args.relocation.now in
    let width = ap (λ (s : FieldSpan). s.width) (c.place_of-place.ensures r refl) in
    let zero = c.if-place-eq0.true in
    let none = no_bytes c.args.drops.now r (omega (arith, width, zero)) in
    sym (ap (λ (fs : List FieldBytes). c.args.fields.now.items ++ fs) none ∙ append-nil c.args.fields.now.items)

pub returns : goal.returns
returns c = λ o.
    let r = relocation_at c.args.number o c.args.relocation.now in
    let place = c.place_of-place.ensures r refl in
    let width = ap (λ (s : FieldSpan). s.width) place in
    let other = c.if-place-eq0.false in
    let some = some_bytes c.args.drops.now r (ap not (sym c.has.ensures ∙ c.if-has.false)) (λ none. omega (arith, width, other, none)) in
    c.in_ok-push.ensures.items
    ∙ (ap (λ (s : FieldSpan). c.args.fields.now.items ++ bytes_at c.args.relocation.now.section s ∷ []) place
    ∙ sym (ap (λ (fs : List FieldBytes). c.args.fields.now.items ++ fs) some))
