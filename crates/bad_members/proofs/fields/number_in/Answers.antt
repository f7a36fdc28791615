use Rattle.std.proofs.Common.{◌≡◌, ℕ, List, true, take, ap, sym, subst, ◌∙◌}
use Rattle.std.specs.Str.{all_ascii_digits}
use Rattle.elf_model.proofs.DecimalDigits.{prefix_digits}
use Rattle.bad_members.proofs.fields.number_in.Goals as goal

pub digits_value-requires-clause-digits : goal.digits_value-requires-clause-digits
digits_value-requires-clause-digits c =
    let front = c.split_at.ensures.front ∙ ap (λ (n : ℕ). take n c.args.field.now) c.digit_count.ensures.value in
    subst (λ (ds : List ℕ). all_ascii_digits ds ≡ true) (sym front) (prefix_digits c.args.field.now)
