use Rattle.std.proofs.Common.{ℕ, ℤ, pos, ◌+ℤ◌, sym, ap, ◌∙◌, w64}
use Rattle.std.proofs.Math.Nat.{mod-eq_of_lt}
use Rattle.std.proofs.lemmas.Int.{to_z-of_z}
use Rattle.elf_model.specs.Link.Relocation.{modulo_64}
use Rattle.reloc_values.proofs.ThreadSums.{thread-sum}
use Rattle.reloc_values.proofs.formulas.thread_sum.Goals as goal

pub returns : goal.returns
returns c = λ t e.
    c.sum.ensures c.args.offset (sym (mod-eq_of_lt c.ranges.offset.fits))
    ∙ (ap (λ (a : ℤ). modulo_64 (pos c.args.offset +ℤ a)) (to_z-of_z w64 c.args.addend c.ranges.addend)
    ∙ (ap (λ (n : ℕ). modulo_64 (pos n +ℤ c.args.addend)) e ∙ thread-sum t c.args.addend c.ranges.addend))
