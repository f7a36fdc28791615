use Rattle.std.proofs.Common.{◌≡◌, ◌%◌, ◌^◌, ℕ, ℤ, pos, subst}
use Rattle.std.specs.Prelude.{◌+ℤ◌, ◌-ℤ◌}
use Rattle.std.proofs.lemmas.Int.{to_z-of_z}
use Rattle.std.specs.Int.{w64}
use Rattle.elf_model.specs.Link.Relocation.{modulo_64}
use Rattle.check_relocs.proofs.Modulo.{value_is}
use Rattle.check_relocs.proofs.values.value_of.Goals as goal

pub returns : goal.returns
returns c =
    let a = c.args.addend in
    let is =
    subst
    (λ (z : ℤ). (n l : ℕ) → c.base_of.result ≡ n % 2 ^ 64 → c.less_of.result ≡ l % 2 ^ 64 → c.shifted.result ≡ modulo_64 ((pos n +ℤ z) -ℤ pos l))
    (to_z-of_z w64 a c.ranges.addend) c.shifted.ensures in
    value_is c.args.formula c.args.terms a c.shifted.result c.base_of.result c.less_of.result c.base_of.ensures c.less_of.ensures is
