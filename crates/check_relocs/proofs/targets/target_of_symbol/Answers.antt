use Rattle.std.proofs.Common.{◌≡◌, ◌∙◌, true, sym, ap, subst}
use Rattle.elf_model.specs.Link.Relocation.{is_local, symbol_at}
use Rattle.check_load.specs.Views.{loaded_view}
use Rattle.elf_model.specs.Link.Resolution.{SymbolOf}
use Rattle.check_relocs.specs.Bindings.{IsTargetOf}
use Rattle.check_relocs.proofs.Unnamed.{target_unnamed}
use Rattle.check_relocs.proofs.targets.target_of_symbol.Goals as goal

pub local_target-requires : goal.local_target-requires
local_target-requires c =
    ap (λ (s : SymbolOf). is_local s) c.unnamed_at.ensures ∙ (sym (c.is_local_at.ensures c.args.number) ∙ c.if-is_local_at.true)

pub returns-then-is_local_at : goal.returns-then-is_local_at
returns-then-is_local_at c =
    let b = c.args.bindings.now in
    let s = symbol_at c.args.number (loaded_view c.args.loaded.now) c.args.j in
    let t = c.local_target.result in
    let local : is_local s ≡ true = sym (c.is_local_at.ensures c.args.number) ∙ c.if-is_local_at.true in
    target_unnamed b s t local (subst (λ (u : SymbolOf). IsTargetOf b u t) c.unnamed_at.ensures c.local_target.ensures)
