use Rattle.std.proofs.Common.{◌≡◌, ap, subst, sym}
use Rattle.elf_model.specs.declared.constants.TheConstants.{SHN_COMMON}
use Rattle.elf_model.specs.Link.Resolution.{SymbolOf}
use Rattle.check_load.specs.Numbered.{name_at}
use Rattle.check_link.specs.DefinitionList.{unnamed}
use Rattle.check_link.specs.Views.{symbol_view}
use Rattle.check_relocs.specs.Bindings.{IsTargetOf}
use Rattle.check_relocs.specs.Referrers.{object_here, objects_here, symbol_here}
use Rattle.check_relocs.proofs.Unnamed.{choice_of, visible_defined}
use Rattle.check_relocs.proofs.targets.own_visible_target.Goals as goal

pub returns-in-Some : goal.returns-in-Some
returns-in-Some c =
    let h = c.args.here.now in
    let L = objects_here h in
    let s = symbol_here h c.args.j in
    choice_of (IsTargetOf h.bindings.now s c.target_defined.result) L (name_at (object_here h).bytes c.args.j) (symbol_view c.in-Some.chosen)
    ((rw c.in-Some.is at c.noted_choice.ensures) (object_here h) h.own)
    (λ t choice same.
    c.target_defined.ensures s t (sym (ap (λ (x : SymbolOf). unnamed x) c.unnamed_at.ensures)) (ap (λ (x : SymbolOf). unnamed x) same)
    (visible_defined L s t c.requires choice
    (subst (λ (x : SymbolOf). x.entry.st_shndx ≡ SHN_COMMON → ⊥) (sym same) c.if-chosen.true)))
