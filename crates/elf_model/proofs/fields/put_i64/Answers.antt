use Rattle.std.proofs.Common.{ℕ, ◌++◌, take, ap, ◌∙◌}
use Rattle.std.specs.Int.{w64, cast_unsigned}
use Rattle.std.proofs.lemmas.Int.{to_z-of_z}
use Rattle.byteview.specs.Numbers.{le_bytes}
use Rattle.elf_model.proofs.fields.put_i64.Goals as goal

pub returns-clause-front : goal.returns-clause-front
returns-clause-front c =
    let bits = c.cast_unsigned.ensures ∙ ap (cast_unsigned w64) (to_z-of_z w64 c.args.n c.ranges.n) in
    c.put_u64.ensures.front ∙ ap (λ (x : ℕ). take c.args.at c.args.out.now ++ le_bytes 8 x) bits
