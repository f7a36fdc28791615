use Rattle.std.proofs.Common.{refl, subst, ◌∙◌, List}
use Rattle.std.specs.List.{All}
use Rattle.std.proofs.lemmas.Bool.{false≢true}
use Rattle.elf_model.specs.Inputs.ObjectFile.{AreMembers, Group}
use Rattle.elf_read.specs.Reading.{names_of}
use Rattle.elf_read.proofs.GroupFaults.{bad_members, bad_signatures}
use Rattle.elf_read.proofs.GroupLists.{members_of_sections}
use Rattle.elf_read.proofs.groups.judge_groups.Goals as goal

pub returns-then-not-have_signatures-clause-fault : goal.returns-then-not-have_signatures-clause-fault
returns-then-not-have_signatures-clause-fault c h table =
    bad_signatures c.args.file.now h c.args.sections.now c.args.symbols.now record {
      ranges = c.requires.ranges;
      symbol_table = c.requires.symbol_table;
      tables = c.requires.tables;
    } table (λ good. false≢true (c.if-not-have_signatures.ensures.1 good))

pub returns-then-not-have_good_members-clause-fault : goal.returns-then-not-have_good_members-clause-fault
returns-then-not-have_good_members-clause-fault c h table =
    bad_members c.args.file.now h c.args.sections.now c.args.symbols.now (names_of c.args.symbol_strings.now c.args.symbols.now) c.deref.result.now record {
      ranges = c.requires.ranges;
      symbol_table = c.requires.symbol_table;
      tables = c.requires.tables;
    } table (c.deref.ensures.value ∙ c.in_ok-groups.ensures) (λ good. false≢true (c.if-not-have_good_members.ensures.1 good))

pub returns-clause-members : goal.returns-clause-members
returns-clause-members c =
    let ss = c.args.sections.now in
    members_of_sections c.args.file.now ss (names_of c.args.symbol_strings.now c.args.symbols.now)
    (subst (λ (gs : List Group). All (λ g. AreMembers ss g.members) gs) (c.deref.ensures.value ∙ c.in_ok-groups.ensures) (c.if-not-have_good_members.ensures.0 refl))
