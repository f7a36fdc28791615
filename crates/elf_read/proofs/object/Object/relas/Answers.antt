use Rattle.std.proofs.Common.{◌∙◌, Some, ap, sym}
use Rattle.std.specs.Prelude.{option_map}
use Rattle.std.specs.Global.{Vec}
use Rattle.elf_model.specs.Inputs.ObjectFile.{relas}
use Rattle.elf_model.specs.declared.records.Rela.{Rela}
use Rattle.elf_read.proofs.KeptRelas.{kept_at}
use Rattle.elf_read.proofs.RelaRuns.{found}
use Rattle.elf_read.proofs.object.Object.relas.Goals as goal

pub returns-in-Some : goal.returns-in-Some
returns-in-Some c =
    let lookup = c.in_ok-entries.ensures.lookup in
    let kept = c.self.inside.relas.items in
    let there = found kept c.deref.result.now c.args.i c.in_ok-entries.field-0.now lookup.0 lookup.1 c.deref.ensures.value in
    ap Some c.as_slice.ensures.value
    ∙ sym (ap (option_map (λ (v : Vec Rela). v.items)) c.in-Some.is)
    ∙ kept_at c.self.inside.file kept c.args.i c.in_ok-entries.field-0.now c.self.invariant.relas_are there
    ∙ ap (λ bs. relas bs c.args.i) c.self.view_is

pub returns-in-None : goal.returns-in-None
returns-in-None c =
    let lookup = c.in_ok-entries.ensures.lookup in
    let kept = c.self.inside.relas.items in
    let there = found kept c.deref.result.now c.args.i c.in_ok-entries.field-0.now lookup.0 lookup.1 c.deref.ensures.value in
    sym (ap (option_map (λ (v : Vec Rela). v.items)) c.in-None.is)
    ∙ kept_at c.self.inside.file kept c.args.i c.in_ok-entries.field-0.now c.self.invariant.relas_are there
    ∙ ap (λ bs. relas bs c.args.i) c.self.view_is
