use Rattle.std.proofs.Common.{◌∷◌, [], List, ap, map, refl, sym, ◌||◌, ◌∙◌}
use Rattle.std.specs.List.{list_any}
use Rattle.elf_model.specs.Link.Relocation.{Relocation, relocation_of}
use Rattle.elf_model.specs.Link.UsedNames.{is_among, uses_line}
use Rattle.elf_model.proofs.LinkerUses.{gained}
use Rattle.search.proofs.KeptWalks.{entry_first}
use Rattle.relocate.specs.Uses.{using}
use Rattle.relocate.proofs.linker_uses.add_section.Goals as goal

pub loop-entry-init : goal.loop-entry-init
loop-entry-init c = λ n.
    let u = c.args.user.now in
    ap (λ (rs : List Relocation). is_among c.args.names.now n || list_any (uses_line u.resolved.now n) rs)
    (ap (map (relocation_of u.number (using u) c.args.rela.target)) c.into_iter-entry-iterator.ensures.into_iter_gives
    ∙ c.kept_entries-entry-items.ensures u.number)

pub loop-entry-preserved : goal.loop-entry-preserved
loop-entry-preserved c = λ n.
    let u = c.args.user.now in
    let t = c.args.rela.target in
    let f = relocation_of u.number (using u) t in
    let old = c.loop-entry.names in
    gained u.resolved.now (f c.in-Some.entry ∷ []) (map f c.next.new.self) old c.add_use.new.names n _ c.in_ok-add_use.ensures
    (sym (ap (λ (rs : List Relocation). is_among old n || list_any (uses_line u.resolved.now n) rs)
    (entry_first u.number (using u) t t c.in-Some.entry _ _ refl c.in-Some.ensures.steps))
    ∙ c.loop-entry.invariant n)
