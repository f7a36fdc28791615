use Rattle.std.proofs.Common.{refl}
use Rattle.check_link.specs.Views.{symbol_view}
use Rattle.check_relocs.proofs.Unnamed.{local_defined}
use Rattle.check_relocs.proofs.bindings.Bindings.local_target.Goals as goal

pub returns : goal.returns
returns c =
    let s = symbol_view c.args.symbol.now in
    c.target_defined.ensures s s refl refl (local_defined c.args.self.now.objects s c.requires c.if-symbol-eq-SHN_UNDEF.false)
