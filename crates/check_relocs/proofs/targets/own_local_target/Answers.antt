use Rattle.std.proofs.Common.{◌∙◌, ap, subst}
use Rattle.elf_model.specs.Link.Relocation.{is_local}
use Rattle.elf_model.specs.Link.Resolution.{SymbolOf}
use Rattle.check_relocs.specs.Bindings.{IsTargetOf}
use Rattle.check_relocs.specs.Referrers.{symbol_here}
use Rattle.check_relocs.proofs.Unnamed.{target_unnamed}
use Rattle.check_relocs.proofs.targets.own_local_target.Goals as goal

pub local_target-requires : goal.local_target-requires
local_target-requires c = ap (λ (s : SymbolOf). is_local s) c.unnamed_at.ensures ∙ c.requires

pub returns : goal.returns
returns c =
    let h = c.args.here.now in
    let t = c.local_target.result in
    target_unnamed h.bindings.now (symbol_here h c.args.j) t c.requires
    (subst (λ (u : SymbolOf). IsTargetOf h.bindings.now u t) c.unnamed_at.ensures c.local_target.ensures)
