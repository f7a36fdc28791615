-- Groups without a symbol for their signature, and with bad members, as faults of the file.
use Rattle.std.proofs.Common.{◌≡◌, inl, inr, ℕ, List, get_or, length, sym, subst, arith}
use Rattle.std.specs.List.{All}
use Rattle.elf_model.specs.Inputs.ObjectFile.{AreGoodGroupSections, AreMembers, Group, HasGoodSymbolTable, HasMembers, HasTable, HaveSignatures, IsPlaced, LiesInside, StandsIn, groups_of}
use Rattle.elf_model.specs.declared.faults.ObjFault.TheVariants as fault
use Rattle.elf_model.specs.declared.records.FileHeader.{FileHeader}
use Rattle.elf_model.specs.declared.records.SectionHeader.{SectionHeader}
use Rattle.elf_model.specs.declared.records.Symbol.{Symbol}
use Rattle.elf_read.proofs.GroupLists.{members_of_groups}
use Rattle.elf_read.proofs.RelaFaults.{no_links}
use Rattle.elf_read.proofs.SectionLemmas.{reads_symbols}

-- what stands where GROUP sections were judged
pub record GroupsJudged (len : ℕ) (ss : List SectionHeader) : Type 0 where
  pub ranges : All (IsPlaced len) ss
  pub symbol_table : HasGoodSymbolTable ss
  pub tables : AreGoodGroupSections ss

pub bad_signatures : (bytes : List ℕ) (h : FileHeader) (ss : List SectionHeader) (symbols : List Symbol) → GroupsJudged (length bytes) ss
    → HasTable (length bytes) h → ¬ HaveSignatures (length symbols) ss → StandsIn bytes h ss symbols fault.BadGroup
bad_signatures bytes h ss symbols judged table bad =
    elim (reads_symbols (length bytes) h ss table judged.ranges judged.symbol_table) [
      | inl reads ↦ inr (inl (reads.symbols, bad))
      | inr none ↦
          absurd (bad (λ k d within group. absurd (no_links ss (get_or ss k d) judged.symbol_table none (judged.tables k d within group).symbols)))
    ]

-- a placed GROUP section lies inside
group_inside : (len : ℕ) (s : SectionHeader) → s.sh_type ≡ 17 → IsPlaced len s → LiesInside len s
group_inside len s group placed = elim placed.range [
  | inl null ↦ absurd (omega (arith, group, null))
  | inr other ↦ elim other [
    | inl nobits ↦ absurd (omega (arith, group, nobits))
    | inr inside ↦ inside
  ]
]

-- the members of a placed GROUP section with a good header can be read
readable : (len : ℕ) (ss : List SectionHeader) → GroupsJudged len ss
    → All (λ s. s.sh_type ≡ 17 → HasMembers len s) ss
readable len ss judged k d within group =
    let own = judged.tables k d within group in
    let inside_or_empty = group_inside len (get_or ss k d) group (judged.ranges k d within) in
    record {
      group = group;
      some = own.some;
      whole = own.whole;
      inside = inside_or_empty;
    }

pub bad_members : (bytes : List ℕ) (h : FileHeader) (ss : List SectionHeader) (symbols : List Symbol) (names : ℕ → List ℕ) (gs : List Group)
    → GroupsJudged (length bytes) ss → HasTable (length bytes) h → gs ≡ groups_of bytes ss names → ¬ All (λ g. AreMembers ss g.members) gs
    → StandsIn bytes h ss symbols fault.BadGroup
bad_members bytes h ss symbols names gs judged table gs_are bad =
    inr (inr (
      table,
      λ good. bad (subst (λ (xs : List Group). All (λ g. AreMembers ss g.members) xs) (sym gs_are)
          (members_of_groups bytes ss names (λ k d within group. good k d within (readable (length bytes) ss judged k d within group)))),
    ))
