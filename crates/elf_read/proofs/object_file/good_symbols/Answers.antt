use Rattle.std.proofs.Common.{List, subst, sym, ◌∙◌}
use Rattle.std.proofs.lemmas.Bool.{false≢true}
use Rattle.std.proofs.lemmas.Result.{err_from_is_err_and}
use Rattle.elf_model.specs.Inputs.ObjectFile.{StandsIn}
use Rattle.elf_model.specs.declared.faults.ObjFault.TheVariants as fault
use Rattle.elf_model.specs.declared.records.Symbol.{Symbol}
use Rattle.elf_read.specs.Reading.{HaveGoodEntries}
use Rattle.elf_read.proofs.Faults.{of_file, passed}
use Rattle.elf_read.proofs.RelaFaults.{bad_relas}
use Rattle.elf_read.proofs.object_file.good_symbols.Goals as goal

pub returns-in_err-judge_symbols-clause-fault : goal.returns-in_err-judge_symbols-clause-fault
returns-in_err-judge_symbols-clause-fault c =
    let bytes = c.args.file.now in
    let ss = c.args.sections.now in
    let f = c.in_err-judge_symbols.field-0.0 in
    let symbols_are = c.deref.ensures.value ∙ c.in_ok-symbols.ensures ∙ c.symbols_of.ensures in
    let stands = subst (λ (symbols : List Symbol). StandsIn bytes c.args.header.now ss symbols f) symbols_are c.in_err-judge_symbols.ensures.fault in
    let exit = c.from_residual-in_err-judge_symbols in
    passed bytes exit.result f (err_from_is_err_and exit.result exit.ensures.1)
    (of_file bytes c.args.header.now ss f c.requires.header.header_is c.requires.sections.sections_are stands)

pub returns-then-not-have_good_entries-clause-fault : goal.returns-then-not-have_good_entries-clause-fault
returns-then-not-have_good_entries-clause-fault c =
    let bytes = c.args.file.now in
    let ss = c.args.sections.now in
    let symbols = c.in_ok-symbols.symbols.items in
    let count = c.len.ensures ∙ c.in_ok-symbols.symbols.ok.0 in
    let symbols_are = c.in_ok-symbols.ensures ∙ c.symbols_of.ensures in
    let bad = bad_relas bytes c.args.header.now ss symbols c.requires.sections (λ good. false≢true (c.if-not-have_good_entries.ensures.1 (
    subst (λ n. HaveGoodEntries n bytes ss) (sym count) good))) in
    of_file bytes c.args.header.now ss fault.BadRela c.requires.header.header_is c.requires.sections.sections_are
    (subst (λ (xs : List Symbol). StandsIn bytes c.args.header.now ss xs fault.BadRela) symbols_are bad)
