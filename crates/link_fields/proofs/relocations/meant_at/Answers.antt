use Rattle.std.proofs.Common.{Bool, ℕ, Option, ap, subst, ◌∙◌}
use Rattle.check_link.specs.Views.{symbol_view}
use Rattle.check_load.specs.Views.{loaded_view}
use Rattle.elf_model.specs.Link.Relocation.{symbol_at}
use Rattle.elf_model.specs.Link.Resolution.{SymbolOf}
use Rattle.judge_model.specs.Means.{added}
use Rattle.link_fields.specs.Parts.{IsMeant, address_of, has_frames}
use Rattle.std.specs.Prelude.{[], ◌&&◌, is_some, unwrap_or}
use Rattle.elf_model.specs.Inputs.ObjectFile.{section_name}
use Rattle.link_fields.proofs.relocations.meant_at.Goals as goal

pub returns : goal.returns
returns c =
    let p = c.args.parts.now in
    let frames =
    has_frames (unwrap_or (section_name c.args.loaded.now.object c.args.section) [])
    && is_some (address_of p.placed c.args.number c.args.section)
    in
    subst (λ (s : SymbolOf). IsMeant p frames s (added c.args.entry.now) c.symbol_meant.result)
    (c.symbol_of-symbol.ensures ∙ ap (symbol_at c.args.number (loaded_view c.args.loaded.now)) c.symbol.ensures)
    (subst (λ (a : Option ℕ). IsMeant p frames (symbol_view c.symbol_of-symbol.result) a c.symbol_meant.result) c.added.ensures
    (subst (λ (b : Bool). IsMeant p b (symbol_view c.symbol_of-symbol.result) c.added.result c.symbol_meant.result) c.has_own_frames-frames.ensures
    c.symbol_meant.ensures))
