use Rattle.std.proofs.Common.{◌<◌, ◌∙◌, List, ap, arith, length, subst, sym}
use Rattle.std.specs.Vec.{vec_len}
use Rattle.std.proofs.lemmas.Bool.{eqb-false}
use Rattle.elf_model.specs.Inputs.ObjectFile.{contents}
use Rattle.elf_model.specs.declared.records.SectionHeader.{SectionHeader}
use Rattle.elf_model.specs.declared.records.Symbol.{Symbol}
use Rattle.link_fields.specs.Parts.{Parts}
use Rattle.symbol_judge.specs.Tables.{AreLocalsFirst}
use Rattle.symbol_judge.proofs.NamedLaws.{info_is, strings_are, symbols_are}
use Rattle.symbol_judge.proofs.TableLaws.{named_of, positive, table_of}
use Rattle.symbol_judge.proofs.symbols.are_symbols_right.Goals as goal

pub returns : goal.returns
returns c = λ l parts sections strips.
    let p = c.args.parts.now in
    let hs = c.args.sections.now in
    let file = c.new-file.result in
    let table = c.symbol_table-table.result in
    let file_is = c.new-file.ensures ∙ (c.image.ensures.bytes ∙ ap (λ (q : Parts). q.image) c.parts.view_is) in
    let table_is = c.symbol_table-table.ensures in
    let read = symbols_are l p hs file table parts sections file_is table_is in
    let symbols = read ∙ sym (c.deref-2.ensures.value ∙ c.in_ok-entries.ensures) in
    let first_symbols = read ∙ sym (c.deref.ensures.value ∙ c.in_ok-entries.ensures) in
    let strings =
    strings_are l p hs file table parts sections file_is table_is
    ∙ sym (c.contents-strings.ensures ∙ ap (λ (h : SectionHeader). contents file h) c.section.ensures) in
    let named = c.in_ok-right.ensures l parts sections strings symbols strips in
    let info = info_is l p hs file table parts sections file_is table_is in
    let first =
    subst (λ (es : List Symbol). AreLocalsFirst table.sh_info es) (sym first_symbols)
    (c.are_locals_first.ensures.0 c.if-not-are_locals_first.false) in
    let never = eqb-false (vec_len c.in_ok-entries.entries) 0 (sym c.is_empty.ensures ∙ c.if-is_empty.false) in
    let more = positive (vec_len c.in_ok-entries.entries) never in
    let len = c.deref-2.ensures.len in
    let held : 0 < length c.deref-2.result.now = omega (arith, len, more) in
    let some = subst (λ (es : List Symbol). 0 < length es) (sym symbols) held in (
      λ t there. table_of l table.sh_info info first (named.0 t),
      λ h. named.1 (named_of l (h some)),
    )
