use Rattle.std.proofs.Common.{List, subst}
use Rattle.std.specs.Global.{Vec}
use Rattle.std.specs.Prelude.{◌≡◌, IfOk}
use Rattle.elf_model.specs.Inputs.ObjectFile.{Group}
use Rattle.elf_read.proofs.Whole.{groups_are, groups_fault, groups_found}
use Rattle.elf_read.proofs.object_file.good_groups.Goals as goal

pub returns-clause-object : goal.returns-clause-object
returns-clause-object c =
    let judged = c.judge_groups.ensures in
    groups_found c.args.file.now c.args.header.now c.args.sections.now c.args.symbols.now c.judge_groups.result c.requires.header c.requires.sections c.requires.entries
    judged.signatures judged.members

pub returns-clause-groups : goal.returns-clause-groups
returns-clause-groups c =
    let are = groups_are c.args.file.now c.args.header.now c.args.sections.now c.args.symbols.now c.symbol_strings.result c.requires.header c.requires.sections
    c.requires.entries c.symbol_strings.ensures
    in
    subst (λ (gs : List Group). IfOk c.judge_groups.result (λ (v : Vec Group). v.items ≡ gs)) are c.judge_groups.ensures.exact

pub returns-clause-fault : goal.returns-clause-fault
returns-clause-fault c =
    groups_fault c.args.file.now c.args.header.now c.args.sections.now c.args.symbols.now c.judge_groups.result c.requires.header c.requires.sections c.requires.entries
    c.judge_groups.ensures.fault
