use Rattle.std.proofs.Common.{◌≡◌, ◌∙◌, true, sym}
use Rattle.elf_model.specs.Link.Relocation.{is_local}
use Rattle.check_relocs.specs.Referrers.{object_here, objects_here, symbol_here}
use Rattle.check_relocs.proofs.Noted.{noted_is_no_use}
use Rattle.check_relocs.proofs.Unnamed.{local_is_no_use}
use Rattle.check_relocs.proofs.linker_uses.is_use_of.Goals as goal

pub returns-then-is_local_at : goal.returns-then-is_local_at
returns-then-is_local_at c =
    let h = c.args.here.now in
    let s = symbol_here h c.args.j in
    let local : is_local s ≡ true = sym (c.is_local_at.ensures h.number) ∙ c.if-is_local_at.true in
    local_is_no_use (objects_here h) s local

pub returns-then-has_noted_choice : goal.returns-then-has_noted_choice
returns-then-has_noted_choice c =
    let h = c.args.here.now in
    noted_is_no_use (objects_here h) (symbol_here h c.args.j) (c.has_noted_choice.ensures c.if-has_noted_choice.true (object_here h) h.own)
