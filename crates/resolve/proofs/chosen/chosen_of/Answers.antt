use Rattle.std.proofs.Common.{◌+◌, map}
use Rattle.std.specs.Prelude.{filter}
use Rattle.elf_model.specs.Link.Commons.{is_common_symbol}
use Rattle.resolve.specs.Offered.{ref_of}
use Rattle.resolve.specs.Owned.{is_kept}
use Rattle.resolve.specs.Threads.{is_thread_chosen}
use Rattle.resolve.proofs.Gathered.{gathered_more, joins_filter, joins_map}
use Rattle.resolve.proofs.Walks.{next_object, symbols_here, symbols_left}
use Rattle.resolve.proofs.chosen.chosen_of.Goals as goal

pub loop-k-preserved : goal.loop-k-preserved
loop-k-preserved c =
    let l = c.args.loaded.now in
    let kept = is_kept l c.args.owners.now in
    let xs = c.objects-all.result.now in
    let k = c.loop-k.k in
    let here = symbols_here k c.index-all-k.result in
    let next = next_object xs k c.index-all-k.result c.loop-k-test.true c.index-all-k.is in
    record {
      symbols =
          gathered_more (λ ss. map ref_of (filter kept ss)) (joins_map ref_of kept) _ _ _ (symbols_left k xs) here (symbols_left (k + 1) xs)
          next c.in_ok-add_object.ensures.symbols c.loop-k.invariant.symbols;
      threads =
          gathered_more (λ ss. map (is_thread_chosen l.objects) (filter kept ss)) (joins_map (is_thread_chosen l.objects) kept) _ _ _ (symbols_left k xs) here (symbols_left (k + 1) xs)
          next c.in_ok-add_object.ensures.threads c.loop-k.invariant.threads;
      commons =
          gathered_more (λ ss. filter is_common_symbol (filter kept ss)) (joins_filter is_common_symbol kept) _ _ _ (symbols_left k xs) here (symbols_left (k + 1) xs)
          next c.in_ok-add_object.ensures.commons c.loop-k.invariant.commons;
    }
