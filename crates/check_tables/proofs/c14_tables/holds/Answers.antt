use Rattle.std.proofs.Common.{◌∙◌, ap, rules, sym}
use Rattle.elf_model.specs.Inputs.Records.{file_header}
use Rattle.elf_model.specs.Image.RightLink.{Subject}
use Rattle.check_tables.proofs.TableClause.{none_right}
use Rattle.check_tables.proofs.c14_tables.holds.Goals as goal

pub returns-in-None : goal.returns-in-None
returns-in-None c =
    let s = c.behind-bound.view_is ∙ c.link.ensures in
    none_right c.args.bound.now c.header.result c.has_no_sections.result (sym (ap (λ (t : Subject). t.map.symtab) s) ∙ c.in-None.is) (search rules)
    (c.header.ensures ∙ ap file_header c.memory.ensures) c.has_no_sections.ensures
