use Rattle.std.proofs.Common.{Option, Some, None, sym, subst}
use Rattle.std.specs.Prelude.{All, AllPairs, Contains, IfSome, length}
use Rattle.std.proofs.lemmas.List.Elements.{All-contains}
use Rattle.elf_model.specs.Image.MemoryImage.{Encloses}
use Rattle.elf_model.specs.declared.records.ProgramHeader.{ProgramHeader}
use Rattle.loader_model.specs.Table.{EndsBefore, IsLawful}
use Rattle.check_stages.proofs.PartsEnd.{lawful_loads}
use Rattle.loader_model.proofs.SegmentsApart.{loads_apart}
use Rattle.check_stages.proofs.segments.enclosing.Goals as goal

-- where a fact of what may be found gives another
some_weaker : {X : Type 0} (P Q : X → Type 0) (o : Option X) → ((x : X) → P x → Q x) → IfSome o P → IfSome o Q
some_weaker P Q None more p = p
some_weaker P Q (Some x) more p = more x p

pub find_enclosing-requires-clause-apart : goal.find_enclosing-requires-clause-apart
find_enclosing-requires-clause-apart c =
    subst (AllPairs EndsBefore) (sym c.segments.ensures) (loads_apart c.args.memory.now c.image-image.ensures.accepted)

pub returns-clause-lawful : goal.returns-clause-lawful
returns-clause-lawful c =
    some_weaker (λ (h : ProgramHeader). Contains c.segments.result.now h × Encloses h c.args.at c.args.size)
    (IsLawful (length c.args.memory.now)) c.find_enclosing.result
    (λ h found. All-contains (IsLawful (length c.args.memory.now)) c.segments.result.now h
    (subst (All (IsLawful (length c.args.memory.now))) (sym c.segments.ensures) (lawful_loads c.args.memory.now c.image-image.ensures.accepted)) found.0)
    c.find_enclosing.ensures.found
