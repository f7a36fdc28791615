use Rattle.std.proofs.Common.{◌+◌, ap, drop, get_or, sym, ◌∙◌}
use Rattle.elf_model.specs.Link.Relocation.{relocations_from}
use Rattle.search.proofs.KeptWalks.{no_rela, relas_more}
use Rattle.search.specs.KeptLists.{relocations_by, relocations_of_relas}
use Rattle.got_tls.specs.Askers.{all_asked, asking}
use Rattle.got_tls.specs.Asking.{with_relocations}
use Rattle.got_tls.specs.AskedViews.{wants}
use Rattle.got_tls.proofs.AskedOnce.{objects_kept, taken}
use Rattle.got_tls.proofs.asked_slots.add_relocations.Goals as goal

pub loop-rela-init : goal.loop-rela-init
loop-rela-init c =
    ap (with_relocations (all_asked c.args.asker.now) (wants c.args.asked.now)) (sym (c.kept_relas-relas.ensures.relocations c.args.asker.now.number))

pub loop-rela-preserved : goal.loop-rela-preserved
loop-rela-preserved c =
    let L = all_asked c.args.asker.now in
    let o = asking c.args.asker.now in
    let n = c.args.asker.now.number in
    let ks = c.kept_relas-relas.result.now in
    let i = c.loop-rela.rela-index in
    taken L (wants c.loop-rela.asked) (wants c.add_section.new.asked) (with_relocations L (wants c.args.asked.now) (relocations_from n o))
    (relocations_by n o (get_or ks i no_rela)) (relocations_of_relas n o (drop (i + 1) ks)) (relocations_of_relas n o (drop i ks))
    c.in_ok-add_section.ensures (relas_more n o ks i no_rela c.loop-rela-test.true) c.loop-rela.invariant

pub add_section-requires-clause-same : goal.add_section-requires-clause-same
add_section-requires-clause-same c =
    let k = c.args.asker.now in
    objects_kept (all_asked k) (wants c.loop-rela.asked) (wants c.args.asked.now)
    (relocations_of_relas k.number (asking k) (drop c.loop-rela.rela-index c.kept_relas-relas.result.now)) (relocations_from k.number (asking k)) c.loop-rela.invariant
    ∙ c.requires.same
