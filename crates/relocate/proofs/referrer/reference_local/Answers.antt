use Rattle.std.proofs.Common.{◌≡◌, ◌≢◌, ◌&&◌, ◌∙◌, Bool, ap, false, not, refl, subst, sym, true}
use Rattle.std.specs.Prelude.{◌↔◌, IsSomeAnd, IsTrue}
use Rattle.elf_model.specs.Link.Loading.{is_dropped}
use Rattle.elf_model.specs.Link.Pieces.{is_alloc}
use Rattle.elf_model.specs.Link.Relocation.{symbol_at}
use Rattle.elf_model.specs.Link.Resolution.{SymbolOf, is_undefined, section_of}
use Rattle.elf_model.specs.declared.records.Symbol.{Symbol}
use Rattle.search.specs.Views.{loaded_view}
use Rattle.relocate.specs.References.{section_in}
use Rattle.relocate.proofs.LocalReferences.{is_local_reference, stands_in}
use Rattle.relocate.proofs.referrer.reference_local.Goals as goal

pub returns : goal.returns
returns c =
    let o = loaded_view c.args.loaded.now in
    let L = c.args.resolved.now in
    let s : SymbolOf = symbol_at c.args._number o c.args.j in
    let h = c.section_of-section.result in
    let stands : section_of L s ≡ h =
    stands_in L c.args._number o c.args.j c.requires.here
    ∙ (ap (λ (e : Symbol). section_in o.bytes e) (sym c.symbol-entry.ensures) ∙ sym c.section_of-section.ensures) in
    let dropped : c.is_dropped-dropped.result ≡ s.dropped =
    c.is_dropped-dropped.ensures ∙ ap (λ (e : Symbol). is_dropped o e.st_shndx) c.symbol-entry.ensures in
    is_local_reference L s c.requires.local h _ stands
    (subst (λ (e : Symbol). IsTrue c.is_undefined_local.result ↔ ((c.args.j ≢ 0) × (is_undefined e ≡ true))) c.symbol-entry.ensures c.is_undefined_local.ensures)
    (subst (λ (d : Bool). IsTrue c.is_unkept.result ↔ IsSomeAnd h (λ x. (is_alloc x && not d) ≡ false)) dropped c.is_unkept.ensures)
    dropped c.is_thread_section.ensures refl
