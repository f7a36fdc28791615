use Rattle.std.proofs.Common.{◌≡◌, ◌++◌, ◌+◌, ◌∙◌, List, Some, ap, option_map, refl, sym}
use Rattle.std.specs.List.{slice_get}
use Rattle.std.specs.Prelude.{filter}
use Rattle.std.proofs.lemmas.Bool.{false≢true}
use Rattle.std.proofs.lemmas.List.Elements.{filter-append}
use Rattle.std.proofs.lemmas.Option.{slice_get-get_or, slice_get-map}
use Rattle.elf_model.specs.Link.ChosenSymbols.{is_definition}
use Rattle.elf_model.specs.Link.Loading.{LoadedObject}
use Rattle.elf_model.specs.Link.Resolution.{SymbolOf, is_common_definition}
use Rattle.search.specs.Views.{loaded_view, loaded_views}
use Rattle.search.specs.declared.loaded.LoadedObject as code
use Rattle.resolve.specs.Sound.{AreWhollySound, IsWhollySound}
use Rattle.resolve.proofs.Gathered.{joins_filter}
use Rattle.resolve.proofs.Rests.{rest_more, rest_stop}
use Rattle.resolve.proofs.Takings.{offered_more, taken_more}
use Rattle.resolve.proofs.Walks.{next_object, symbols_here, symbols_left}
use Rattle.resolve.proofs.definition_list.taken_of.Goals as goal

pub take_object-requires : goal.take_object-requires
take_object-requires g c =
    let xs = c.objects-objects.result.now in
    let here : slice_get c.args.loaded.now.objects c.loop-k.k ≡ Some (loaded_view c.index-objects-k.result) =
    sym (ap (λ (os : List LoadedObject). slice_get os c.loop-k.k) c.objects-objects.ensures.exact)
    ∙ slice_get-map loaded_view xs c.loop-k.k
    ∙ ap (option_map loaded_view) (slice_get-get_or xs c.loop-k.k c.index-objects-k.result c.loop-k-test.true)
    ∙ ap (λ (x : code.LoadedObject). Some (loaded_view x)) (sym c.index-objects-k.is) in
    λ k. ((refl, tt), (here, c.loop-k.invariant.sized))

pub unsound-requires : goal.unsound-requires
unsound-requires g c = λ all.
    let xs = c.objects-objects.result.now in
    let stop =
    rest_stop (IsWhollySound (loaded_views xs)) (AreWhollySound (loaded_views xs)) (symbols_left c.loop-k.k xs) (symbols_here c.loop-k.k c.index-objects-k.result) (symbols_left (c.loop-k.k + 1) xs)
    (next_object xs c.loop-k.k c.index-objects-k.result c.loop-k-test.true c.index-objects-k.is) c.has_wholly_sound.result
    c.has_wholly_sound.ensures c.loop-k.invariant.sound c.if-not-has_wholly_sound.true in
    false≢true (stop.1 all)

pub loop-k-preserved : goal.loop-k-preserved
loop-k-preserved g c =
    let xs = c.objects-objects.result.now in
    let k = c.loop-k.k in
    let here = symbols_here k c.index-objects-k.result in
    let rest = symbols_left (k + 1) xs in
    let next : symbols_left k xs ≡ here ++ rest = next_object xs k c.index-objects-k.result c.loop-k-test.true c.index-objects-k.is in
    record {
      taken =
          taken_more c.args.loaded.now _ _ _ (filter is_definition (symbols_left k xs)) (filter is_definition here) (filter is_definition rest)
          (ap (filter is_definition) next ∙ filter-append is_definition here rest)
          c.in_ok-take_object.ensures.taken c.loop-k.invariant.taken;
      sized = c.in_ok-take_object.ensures.sized;
      rows =
          offered_more _ _ _ (filter is_common_definition (filter is_definition (symbols_left k xs))) (filter is_common_definition (filter is_definition here))
          (filter is_common_definition (filter is_definition rest))
          (ap (λ (ss : List SymbolOf). filter is_common_definition (filter is_definition ss)) next ∙ joins_filter is_common_definition is_definition here rest)
          c.in_ok-take_object.ensures.rows c.loop-k.invariant.rows;
      sound =
          rest_more (IsWhollySound (loaded_views xs)) (AreWhollySound (loaded_views xs)) (symbols_left k xs) here rest
          next c.has_wholly_sound.result
          c.has_wholly_sound.ensures c.loop-k.invariant.sound c.if-not-has_wholly_sound.false;
    }
