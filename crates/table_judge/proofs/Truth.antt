-- A section header is true by its clauses exactly where it is true.
use Rattle.std.proofs.Common.{ℕ, List}
use Rattle.std.specs.Prelude.{◌↔◌, All, Any}
use Rattle.std.proofs.lemmas.List.Elements.{All-weaker}
use Rattle.elf_model.specs.Image.MemoryImage.{loads}
use Rattle.elf_model.specs.declared.records.ProgramHeader.{ProgramHeader}
use Rattle.elf_model.specs.declared.records.SectionHeader.{SectionHeader}
use Rattle.judge_model.specs.Tables.{IsMappedBy, IsSectionTrue}
use Rattle.table_judge.specs.Sections.{IsMapped, IsTrueIn}

any_weaker : {X : Type 0} (P Q : X → Type 0) → ((x : X) → P x → Q x) → (xs : List X) → Any P xs → Any Q xs
any_weaker P Q weaker xs (i, x, low, is, p) = (i, x, low, is, weaker x p)

by_segment : (h : SectionHeader) (g : ProgramHeader) → IsMapped h g → IsMappedBy h g
by_segment h g m = (m.from, m.to, m.rights, m.file.part)

of_segment : (h : SectionHeader) (g : ProgramHeader) → IsMappedBy h g → IsMapped h g
of_segment h g m = record { from = m.0; to = m.1; rights = m.2; file = record { part = m.3 } }

to_true : (image : List ℕ) (h : SectionHeader) → IsTrueIn image h → IsSectionTrue image h
to_true image h t = (
  λ memory some. any_weaker (IsMapped h) (IsMappedBy h) (by_segment h) (loads image) (t.mapped.mapped memory some),
  t.in_file.in_file,
)

of_true : (image : List ℕ) (h : SectionHeader) → IsSectionTrue image h → IsTrueIn image h
of_true image h t = record {
  mapped = record {
    mapped = λ memory some. any_weaker (IsMappedBy h) (IsMapped h) (of_segment h) (loads image) (t.0 memory some);
  };
  in_file = record { in_file = t.1 };
}

pub all_true : (image : List ℕ) (hs : List SectionHeader) → All (IsTrueIn image) hs ↔ All (IsSectionTrue image) hs
all_true image hs = (
  λ all. All-weaker (IsTrueIn image) (IsSectionTrue image) (to_true image) hs all,
  λ all. All-weaker (IsSectionTrue image) (IsTrueIn image) (of_true image) hs all,
)
