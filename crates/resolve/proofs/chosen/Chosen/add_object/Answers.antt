use Rattle.std.proofs.Common.{◌≡◌, ◌∷◌, ◌++◌, ◌+◌, ◌<◌, ◌∙◌, List, [], ap, drop, length, map, refl, subst, sym}
use Rattle.std.specs.Prelude.{filter}
use Rattle.elf_model.specs.Link.Commons.{is_common_symbol}
use Rattle.elf_model.specs.Link.Loading as loading
use Rattle.elf_model.specs.Inputs.ObjectFile.{null_symbol}
use Rattle.elf_model.specs.Link.Resolution.{SymbolOf, symbol_of, symbols_from}
use Rattle.elf_model.specs.declared.records.Symbol.{Symbol}
use Rattle.search.specs.Views.{loaded_view}
use Rattle.resolve.specs.Offered.{ref_of}
use Rattle.resolve.specs.Owned.{is_kept}
use Rattle.resolve.specs.Threads.{is_thread_chosen}
use Rattle.resolve.specs.Views.{symbol_view, symbol_views}
use Rattle.resolve.specs.declared.chosen.Chosen.{Chosen}
use Rattle.resolve.proofs.Gathered.{gathered_more, joins_filter, joins_map}
use Rattle.resolve.proofs.KeptSteps.{added, skipped}
use Rattle.resolve.proofs.Walks.{next_symbol}
use Rattle.resolve.proofs.chosen.Chosen.add_object.Goals as goal
use Rattle.resolve.proofs.chosen.Chosen.add_object.Goals.{then-is_kept+in_ok-add, else-is_kept}

-- what the symbol adds to the three lists of the chosen ones
record IsAdded (objects : List loading.LoadedObject) (front : List SymbolOf) (now new : Chosen) : Type 0 where
  symbols : new.symbols.items ≡ now.symbols.items ++ map ref_of front
  threads : new.threads.items ≡ now.threads.items ++ map (is_thread_chosen objects) front
  commons : symbol_views new.commons.items ≡ symbol_views now.commons.items ++ filter is_common_symbol front

pub loop-j-preserved : goal.loop-j-preserved
loop-j-preserved c =
    let l = c.args.loaded.now in
    let kept = is_kept l c.args.owners.now in
    let o = loaded_view c.args.own.now in
    let entries = c.symbols-entries.result.now in
    let j = c.loop-j.j in
    let s = symbol_of c.args.number o j c.at-entry.result in
    let left = symbols_from c.args.number o j (drop j entries) in
    let rest = symbols_from c.args.number o (j + 1) (drop (j + 1) entries) in
    let within : j < length entries = subst (λ n. j < n) c.len-j-end.ensures c.loop-j-test.true in
    let next : left ≡ (s ∷ []) ++ rest =
    next_symbol c.args.number o entries j null_symbol within
    ∙ ap (λ (e : Symbol). symbol_of c.args.number o j e ∷ rest) (sym c.at-entry.ensures) in
    let more : IsAdded l.objects (filter kept (s ∷ [])) c.loop-j.self c.if-is_kept.self =
    elim c.if-is_kept.branch [
      | then-is_kept+in_ok-add w ↦
          let is = sym c.is_kept.ensures ∙ w.if-is_kept.true in
          record {
            symbols = added (map ref_of) kept s _ _ (symbol_view w.named_symbol.result) w.named_symbol.ensures is (ap (λ (x : Chosen). x.symbols.items) w.self-is ∙ w.in_ok-add.ensures.symbols);
            threads = added (map (is_thread_chosen l.objects)) kept s _ _ (symbol_view w.named_symbol.result) w.named_symbol.ensures is
                (ap (λ (x : Chosen). x.threads.items) w.self-is ∙ (w.in_ok-add.ensures.threads
                ∙ ap (λ (os : List loading.LoadedObject). c.loop-j.self.threads.items ++ map (is_thread_chosen os) (symbol_view w.named_symbol.result ∷ [])) c.objects-objects.ensures.exact));
            commons = added (filter is_common_symbol) kept s _ _ (symbol_view w.named_symbol.result) w.named_symbol.ensures is
                (ap (λ (x : Chosen). symbol_views x.commons.items) w.self-is ∙ w.in_ok-add.ensures.commons);
          }
      | else-is_kept w ↦
          let is = sym c.is_kept.ensures ∙ w.if-is_kept.false in
          record {
            symbols = skipped (map ref_of) kept s _ _ refl is (ap (λ (x : Chosen). x.symbols.items) w.self-is);
            threads = skipped (map (is_thread_chosen l.objects)) kept s _ _ refl is (ap (λ (x : Chosen). x.threads.items) w.self-is);
            commons = skipped (filter is_common_symbol) kept s _ _ refl is (ap (λ (x : Chosen). symbol_views x.commons.items) w.self-is);
          }
    ] in
    record {
      symbols = gathered_more (λ ss. map ref_of (filter kept ss)) (joins_map ref_of kept) _ _ _ left (s ∷ []) rest next more.symbols c.loop-j.invariant.symbols;
      threads = gathered_more (λ ss. map (is_thread_chosen l.objects) (filter kept ss)) (joins_map (is_thread_chosen l.objects) kept) _ _ _ left (s ∷ []) rest next more.threads c.loop-j.invariant.threads;
      commons = gathered_more (λ ss. filter is_common_symbol (filter kept ss)) (joins_filter is_common_symbol kept) _ _ _ left (s ∷ []) rest next more.commons c.loop-j.invariant.commons;
    }
