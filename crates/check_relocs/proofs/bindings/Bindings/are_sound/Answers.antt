use Rattle.std.proofs.Common.{List, ap, subst, ◌∙◌}
use Rattle.std.specs.Prelude.{◌↔◌, IsTrue}
use Rattle.elf_model.specs.Link.Loading.{LoadedObject}
use Rattle.elf_model.specs.Link.Resolution.{AreSoundSymbols}
use Rattle.check_relocs.specs.Bindings.{Bound}
use Rattle.check_relocs.proofs.bindings.Bindings.are_sound.Goals as goal

pub returns : goal.returns
returns c =
    let same = c.objects.ensures ∙ ap (λ (b : Bound). b.objects) c.self.view_is in
    subst (λ (L : List LoadedObject). IsTrue c.are_sound.result ↔ AreSoundSymbols L) same c.are_sound.ensures
