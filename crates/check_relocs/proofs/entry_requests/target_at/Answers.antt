use Rattle.std.proofs.Common.{◌≡◌, ◌∙◌, ap, false, true, sym}
use Rattle.elf_model.specs.Link.Relocation.{is_local, symbol_at}
use Rattle.check_load.specs.Views.{loaded_view}
use Rattle.elf_model.specs.Image.MapRecord.{OfName}
use Rattle.check_relocs.proofs.Unnamed.{local_target, named_target}
use Rattle.check_relocs.proofs.entry_requests.target_at.Goals as goal

pub returns-then-is_local_at : goal.returns-then-is_local_at
returns-then-is_local_at c =
    let s = symbol_at c.args.number (loaded_view c.args.loaded.now) c.args.j in
    let local : is_local s ≡ true = sym (c.is_local_at.ensures c.args.number) ∙ c.if-is_local_at.true in
    local_target s local

pub returns : goal.returns
returns c =
    let s = symbol_at c.args.number (loaded_view c.args.loaded.now) c.args.j in
    let visible : is_local s ≡ false = sym (c.is_local_at.ensures c.args.number) ∙ c.if-is_local_at.false in
    ap OfName c.symbol_name.ensures ∙ named_target s visible
