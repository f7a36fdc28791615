use Rattle.std.proofs.Common.{◌≡◌, ◌∙◌, ℕ, List, ◌++◌, ap, map, subst, sym, take}
use Rattle.std.specs.Prelude.{All}
use Rattle.std.specs.Io.KnownBytes.{Appends}
use Rattle.std.specs.List.{flat_map}
use Rattle.std.proofs.lemmas.List.Elements.{All-drop, All-map, All-take}
use Rattle.elf_model.specs.Image.MapText.{symbol_text}
use Rattle.elf_model.specs.Link.Meaning.{Meaning}
use Rattle.elf_model.specs.Own.OwnLayout.{own_in_load_order, own_where}
use Rattle.elf_model.specs.Image.RightLink.{symbol_row_of}
use Rattle.elf_model.proofs.Listed.{All-unmap}
use Rattle.image_write.specs.Maps.{LiesWithin}
use Rattle.relocate.specs.Uses.{line_views}
use Rattle.resolve.specs.Views.{meaning_view, meaning_views}
use Rattle.resolve.specs.declared.definition.Definition as code
use Rattle.resolve.specs.Chosen.{defined_in}
use Rattle.linker.specs.InOrder.{meaning_at}
use Rattle.linker.specs.declared.name_order.Keyed.{Keyed}
use Rattle.linker.proofs.Behind.{part_put}
use Rattle.linker.proofs.OwnTexts.{batch_is, symbols_join}
use Rattle.linker.proofs.own_definitions.put_found_symbols.Goals as goal

pub loop-rest-init : goal.loop-rest-init
loop-rest-init g c =
    let b = c.args.placement.now in
    let at : Keyed → Meaning = λ k. meaning_at c.args.found.now.resolved.now (defined_in c.args.found.now.names.symbols) (line_views c.args.found.now.names.linkers.now) k.position in
    record {
      text =
          λ end put.
          subst (λ (ks : List Keyed). Appends (g.T.LineSink.told c.args.text.now) end (flat_map symbol_text (map (symbol_row_of (own_where b.base b.objects)) (map at ks))))
          c.keys-rest.ensures put;
      within =
          subst (All (λ k. LiesWithin (own_in_load_order b.base b.objects) (at k))) (sym c.keys-rest.ensures)
          (All-unmap (LiesWithin (own_in_load_order b.base b.objects)) at c.args.found.now.keys.items c.requires.within);
    }

pub put_symbols-requires-clause-within : goal.put_symbols-requires-clause-within
put_symbols-requires-clause-within g c =
    let b = c.args.placement.now in
    let at : Keyed → Meaning = λ k. meaning_at c.args.found.now.resolved.now (defined_in c.args.found.now.names.symbols) (line_views c.args.found.now.names.linkers.now) k.position in
    let rest = c.loop-rest.rest.now in
    let part : meaning_views c.deref.result.now ≡ map at (take c.min.result rest) =
    ap meaning_views c.deref.ensures.value
    ∙ (c.in_ok-add_definitions.ensures
    ∙ (ap (λ (ds : List code.Definition). meaning_views ds ++ map at c.split_at.result.0.now) c.clear.ensures.items
    ∙ ap (map at) c.split_at.ensures.front)) in
    All-unmap (LiesWithin (own_in_load_order b.base b.objects)) meaning_view c.deref.result.now
    (subst (All (LiesWithin (own_in_load_order b.base b.objects))) (sym part)
    (All-map (LiesWithin (own_in_load_order b.base b.objects)) at (take c.min.result rest)
    (All-take (λ k. LiesWithin (own_in_load_order b.base b.objects) (at k)) c.min.result rest c.loop-rest.invariant.within)))

pub loop-rest-preserved : goal.loop-rest-preserved
loop-rest-preserved g c =
    let b = c.args.placement.now in
    let at : Keyed → Meaning = λ k. meaning_at c.args.found.now.resolved.now (defined_in c.args.found.now.names.symbols) (line_views c.args.found.now.names.linkers.now) k.position in
    let rest = c.loop-rest.rest.now in
    let part : meaning_views c.deref.result.now ≡ map at (take c.min.result rest) =
    ap meaning_views c.deref.ensures.value
    ∙ (c.in_ok-add_definitions.ensures
    ∙ (ap (λ (ds : List code.Definition). meaning_views ds ++ map at c.split_at.result.0.now) c.clear.ensures.items
    ∙ ap (map at) c.split_at.ensures.front)) in
    let spell : List Meaning → List ℕ = λ ms. flat_map symbol_text (map (symbol_row_of (own_where b.base b.objects)) ms) in
    record {
      text =
          part_put _ _ _ _ (spell (meaning_views c.deref.result.now)) (spell (map at c.split_at.result.1.now)) _ c.loop-rest.invariant.text
          (batch_is at spell rest c.min.result (meaning_views c.deref.result.now) (symbols_join (symbol_row_of (own_where b.base b.objects))) part
          ∙ ap (λ (ks : List Keyed). spell (meaning_views c.deref.result.now) ++ spell (map at ks)) (sym c.split_at.ensures.back))
          c.in_ok-put_symbols.ensures;
      within =
          subst (All (λ k. LiesWithin (own_in_load_order b.base b.objects) (at k))) (sym c.split_at.ensures.back)
          (All-drop (λ k. LiesWithin (own_in_load_order b.base b.objects) (at k)) c.min.result rest c.loop-rest.invariant.within);
    }
