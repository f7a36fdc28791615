use Rattle.std.proofs.Common.{◌≡◌, ◌+◌, ℕ, List, subst, arith}
use Rattle.std.specs.Prelude.{Any}
use Rattle.byteview.specs.Numbers.{le_bytes}
use Rattle.elf_model.specs.declared.records.ProgramHeader.{ProgramHeader}
use Rattle.judge_model.specs.Fields.{IsInFile}
use Rattle.judge_model.specs.Memory.{Holds}
use Rattle.memory_judge.proofs.slots.is_slot.Goals as goal

pub returns : goal.returns
returns c =
    let at = c.args.at in
    let here : at + 0 ≡ at = omega arith in (
      λ e. record {
        aligned = let no = c.if-at-ne0.false in omega (arith, no);
        in_file =
            subst (λ (hs : List ProgramHeader). Any (λ h. IsInFile h at 8) hs) c.segments.ensures
            (c.is_in_some_file.ensures.0 c.if-not-is_in_some_file.false);
        apart = c.is_apart_from_all.ensures.0 e;
        holds =
            subst (λ (n : ℕ). Holds c.args.image.now n (le_bytes 8 c.args.value)) here (c.holds_number.ensures.0 c.if-not-holds_number.false);
      },
      λ s. c.is_apart_from_all.ensures.1 s.apart,
    )
