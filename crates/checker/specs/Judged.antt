-- What a verdict says of a link whose words are a plan and whose text is a map.
use Rattle.elf_model.specs.Image.RightLink.{Holds, HoldsBefore, Subject}
use Rattle.elf_model.specs.declared.verdict.Clause.{Clause}
use Rattle.elf_model.specs.declared.verdict.Verdict.{Verdict}
use Rattle.elf_model.specs.declared.verdict.Verdict.TheVariants.{No, Yes}

-- all clauses hold; or those before a clause hold, and it doesn't
abbrev pub Judges : Verdict → Subject → Type 0
Judges Yes s = (c : Clause) → Holds c s
Judges (No c) s = HoldsBefore c s × (¬ Holds c s)
