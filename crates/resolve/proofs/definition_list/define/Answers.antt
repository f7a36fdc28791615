use Rattle.std.proofs.Common.{◌∙◌, ℕ, List, Option, ap, length, map, subst, sym}
use Rattle.std.specs.Prelude.{filter, option_map}
use Rattle.std.specs.Borrow.{Bor}
use Rattle.std.proofs.lemmas.List.{length-map}
use Rattle.elf_model.specs.Link.Commons.{is_common_symbol}
use Rattle.elf_model.specs.Link.ChosenSymbols.{definitions}
use Rattle.elf_model.specs.Link.Loading as loading
use Rattle.elf_model.specs.Link.Resolution.{SymbolOf, all_symbols, is_common_definition}
use Rattle.search.specs.Views.{loaded_view}
use Rattle.resolve.specs.Blocks.{blocks_by}
use Rattle.resolve.specs.Offered.{offers_of, ref_of, rows_of}
use Rattle.resolve.specs.Owned.{is_kept}
use Rattle.resolve.specs.Taken.{taken_view}
use Rattle.resolve.specs.Threads.{is_thread_chosen}
use Rattle.resolve.specs.Views.{symbol_views}
use Rattle.symbols.specs.declared.owner.Owner.{Owner}
use Rattle.resolve.specs.declared.entries.SymbolOf as code
use Rattle.resolve.proofs.ChosenLaws.{are_unique, chosen_blocks, kept_chosen, refused}
use Rattle.resolve.proofs.Takings.{IsTold, all_told, twin_told, twins_none}
use Rattle.resolve.proofs.definition_list.define.Goals as goal
use Rattle.symbols.specs.Offers.{all_offered}
use Rattle.symbols.specs.Rows.{Rows}

pub returns-in-Some-clause-fault : goal.returns-in-Some-clause-fault
returns-in-Some-clause-fault g c =
    let l = c.args.loaded.now in
    let told = subst (IsTold l (rows_of (definitions l.objects))) (sym c.in_ok-taken.ensures.taken) (all_told l c.name_count-named.ensures.named) in
    refused l.objects c.in-Some.name.now c.duplicate.result
    (twin_told l (definitions l.objects) (taken_view c.in_ok-taken.taken) c.in-Some.name.now told
    (ap (λ (o : Option (Bor (List ℕ))). option_map (λ n. n.now) o) c.in-Some.is))
    c.duplicate.ensures

-- the definitions that are kept are the chosen ones
pub returns-clause-chosen : goal.returns-clause-chosen
returns-clause-chosen g c =
    let l = c.args.loaded.now in
    let told = subst (IsTold l (rows_of (definitions l.objects))) (sym c.in_ok-taken.ensures.taken) (all_told l c.name_count-named.ensures.named) in
    c.in_ok-chosen.ensures.symbols
    ∙ (ap (λ (os : List Owner). map ref_of (filter (is_kept l os) (all_symbols l.objects))) c.deref.ensures.value
    ∙ ap (λ (ss : List SymbolOf). map ref_of ss) (kept_chosen l c.in_ok-taken.taken.owners.items c.name_count-named.ensures.named told.owners))

pub returns-clause-threads : goal.returns-clause-threads
returns-clause-threads g c =
    let l = c.args.loaded.now in
    let told = subst (IsTold l (rows_of (definitions l.objects))) (sym c.in_ok-taken.ensures.taken) (all_told l c.name_count-named.ensures.named) in
    c.in_ok-chosen.ensures.threads
    ∙ (ap (λ (os : List Owner). map (is_thread_chosen l.objects) (filter (is_kept l os) (all_symbols l.objects))) c.deref.ensures.value
    ∙ ap (λ (ss : List SymbolOf). map (is_thread_chosen l.objects) ss) (kept_chosen l c.in_ok-taken.taken.owners.items c.name_count-named.ensures.named told.owners))

pub returns-clause-blocks : goal.returns-clause-blocks
returns-clause-blocks g c =
    let l = c.args.loaded.now in
    let rows = g.T.NameTable.rows c.taken_of.new.table in
    let past = length c.objects-objects.result.now in
    let told = subst (IsTold l (rows_of (definitions l.objects))) (sym c.in_ok-taken.ensures.taken) (all_told l c.name_count-named.ensures.named) in
    c.in_ok-blocks.ensures
    ∙ (ap (λ (xs : List code.SymbolOf). blocks_by rows past 0 (symbol_views xs)) c.deref-2.ensures.value
    ∙ (ap (λ (ss : List SymbolOf). blocks_by rows past 0 ss) c.in_ok-chosen.ensures.commons
    ∙ (ap (λ (os : List Owner). blocks_by rows past 0 (filter is_common_symbol (filter (is_kept l os) (all_symbols l.objects)))) c.deref.ensures.value
    ∙ (ap (λ (ss : List SymbolOf). blocks_by rows past 0 (filter is_common_symbol ss)) (kept_chosen l c.in_ok-taken.taken.owners.items c.name_count-named.ensures.named told.owners)
    ∙ chosen_blocks l.objects rows past
    (c.in_ok-taken.ensures.rows ∙ ap (λ (r : Rows). all_offered (offers_of (filter is_common_definition (definitions l.objects))) r) c.requires)
    (sym (length-map c.objects-objects.result.now loaded_view) ∙ ap (λ (os : List loading.LoadedObject). length os) c.objects-objects.ensures.exact)))))

pub returns-clause-defined : goal.returns-clause-defined
returns-clause-defined g c =
    let l = c.args.loaded.now in
    let told = subst (IsTold l (rows_of (definitions l.objects))) (sym c.in_ok-taken.ensures.taken) (all_told l c.name_count-named.ensures.named) in
    record {
      commons = λ i d within. (c.in_ok-taken.ensures.sound i d within).1;
      sound = λ i d within. (c.in_ok-taken.ensures.sound i d within).0;
      unique = are_unique l.objects (twins_none l (definitions l.objects) (taken_view c.in_ok-taken.taken) told
          (ap (λ (o : Option (Bor (List ℕ))). option_map (λ n. n.now) o) c.in_default.is));
    }
