use Rattle.std.proofs.Common.{◌∷◌, [], ap, map, refl, sym, ◌∙◌}
use Rattle.elf_model.specs.Link.Relocation.{relocation_of}
use Rattle.search.proofs.KeptWalks.{entry_first}
use Rattle.search.specs.KeptLists.{relocations_by}
use Rattle.got_tls.specs.Askers.{all_asked, asking}
use Rattle.got_tls.specs.Asking.{with_relocations}
use Rattle.got_tls.specs.AskedViews.{wants}
use Rattle.got_tls.proofs.AskedOnce.{objects_kept, taken}
use Rattle.got_tls.proofs.asked_slots.add_section.Goals as goal

pub loop-entry-init : goal.loop-entry-init
loop-entry-init c =
    let k = c.args.asker.now in
    ap (with_relocations (all_asked k) (wants c.args.asked.now))
    (ap (map (relocation_of k.number (asking k) c.args.rela.target)) c.into_iter-entry-iterator.ensures.into_iter_gives
    ∙ c.kept_entries-entry-items.ensures k.number)

pub add_entry-requires-clause-same : goal.add_entry-requires-clause-same
add_entry-requires-clause-same c =
    let k = c.args.asker.now in
    objects_kept (all_asked k) (wants c.loop-entry.asked) (wants c.args.asked.now)
    (map (relocation_of k.number (asking k) c.args.rela.target) c.loop-entry.entry-iterator) (relocations_by k.number (asking k) c.args.rela)
    c.loop-entry.invariant
    ∙ c.requires.same

pub loop-entry-preserved : goal.loop-entry-preserved
loop-entry-preserved c =
    let k = c.args.asker.now in
    let t = c.args.rela.target in
    let f = relocation_of k.number (asking k) t in
    taken (all_asked k) (wants c.loop-entry.asked) (wants c.add_entry.new.asked)
    (with_relocations (all_asked k) (wants c.args.asked.now) (relocations_by k.number (asking k) c.args.rela))
    (f c.in-Some.entry ∷ []) (map f c.next.new.self) (map f c.loop-entry.entry-iterator)
    c.in_ok-add_entry.ensures (entry_first k.number (asking k) t t c.in-Some.entry _ _ refl c.in-Some.ensures.steps) c.loop-entry.invariant

pub returns : goal.returns
returns c =
    let k = c.args.asker.now in
    sym (ap (with_relocations (all_asked k) (wants c.loop-entry.asked)) (ap (map (relocation_of k.number (asking k) c.args.rela.target)) c.in-None.ensures.steps.0))
    ∙ c.loop-entry.invariant
