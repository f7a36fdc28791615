use Rattle.std.proofs.Common.{ℕ, List, sym, subst}
use Rattle.std.proofs.lemmas.Bool.{false≢true}
use Rattle.elf_model.specs.Inputs.ObjectFile.{AreSectionsNamed, AreSymbolsNamed}
use Rattle.elf_read.proofs.Faults.{bad_symbols, unnamed_sections, unnamed_symbols}
use Rattle.elf_read.proofs.symbols.judge_symbols.Goals as goal

pub returns-then-not-are_good_symbols-clause-fault : goal.returns-then-not-are_good_symbols-clause-fault
returns-then-not-are_good_symbols-clause-fault c =
    bad_symbols c.args.file.now c.args.header.now c.args.sections.now c.args.symbols.now c.requires.sections c.requires.symbols_are (λ good. false≢true (c.if-not-are_good_symbols.ensures.1 good))

pub returns-then-not-are_sections_named-clause-fault : goal.returns-then-not-are_sections_named-clause-fault
returns-then-not-are_sections_named-clause-fault c =
    let strings = c.section_strings.ensures in
    unnamed_sections c.args.file.now c.args.header.now c.args.sections.now c.args.symbols.now c.requires.sections (λ named. false≢true (c.if-not-are_sections_named.ensures.1 (subst (λ (xs : List ℕ). AreSectionsNamed xs c.args.sections.now) (sym strings) named)))

pub returns-then-not-are_symbols_named-clause-fault : goal.returns-then-not-are_symbols_named-clause-fault
returns-then-not-are_symbols_named-clause-fault c =
    let strings = c.symbol_strings.ensures in
    unnamed_symbols c.args.file.now c.args.header.now c.args.sections.now c.args.symbols.now c.requires.sections c.requires.symbols_are (λ named. false≢true (c.if-not-are_symbols_named.ensures.1 (subst (λ (xs : List ℕ). AreSymbolsNamed xs c.args.symbols.now) (sym strings) named)))
