use Rattle.std.proofs.Common.{ℕ, ◌≡◌, ◌<◌, ◌≤◌, ◌∙◌, arith, List, ap, length, subst, sym}
use Rattle.std.proofs.lemmas.List.{length-map}
use Rattle.std.proofs.lemmas.List.Elements.{All-weaker}
use Rattle.elf_model.specs.Link.Commons.{Block}
use Rattle.resolve.specs.Blocks.{block_view}
use Rattle.std.specs.Prelude.{All, find, option_map}
use Rattle.elf_model.specs.Own.OwnLayout.{own_placed}
use Rattle.elf_model.specs.Link.Placement.{Placed, is_of_section}
use Rattle.search.specs.Views.{loaded_views}
use Rattle.layout.specs.Addresses.{HasPlace, piece_counts}
use Rattle.placing.specs.Limits.{AreInLimit}
use Rattle.layout.specs.PieceParts.{AreBounds}
use Rattle.placing.specs.PlaceViews.{place_views}
use Rattle.elf_model.proofs.OwnRelation.{are_own_addresses}
use Rattle.layout.proofs.OwnAddresses.{address_either}
use Rattle.layout.proofs.OwnThreads.{own_above}
use Rattle.layout.proofs.PieceEntries.{places_there}
use Rattle.layout.proofs.placement.tables_of.Goals as goal

pub address_table-requires-clause-some : goal.address_table-requires-clause-some
address_table-requires-clause-some c =
    let os = loaded_views c.args.objects.now in
    let places : place_views c.deref.result.now ≡ own_placed c.args.base os =
    ap place_views c.deref.ensures.value ∙ c.in_ok-layout.ensures.layout.places in
    let base = c.requires.base.0 in
    subst (All (λ q. 0 < q.at)) (sym places)
    (All-weaker (λ q. c.args.base ≤ q.at) (λ q. 0 < q.at) (λ q low. omega (arith, base, low)) (own_placed c.args.base os) (own_above c.args.base os))

pub address_table-requires-clause-there : goal.address_table-requires-clause-there
address_table-requires-clause-there c =
    let os = loaded_views c.args.objects.now in
    let places : place_views c.deref.result.now ≡ own_placed c.args.base os =
    ap place_views c.deref.ensures.value ∙ c.in_ok-layout.ensures.layout.places in
    subst (All (HasPlace (piece_counts os (length c.args.blocks.now)))) (sym places)
    (places_there os (length c.args.blocks.now) c.args.base (sym (length-map c.args.blocks.now block_view) ∙ ap (λ (bs : List Block). length bs) c.requires.listed))

pub bounds_of-requires : goal.bounds_of-requires
bounds_of-requires c =
    let os = loaded_views c.args.objects.now in
    let places : place_views c.deref-2.result.now ≡ own_placed c.args.base os =
    ap place_views c.deref-2.ensures.value ∙ c.in_ok-layout.ensures.layout.places in
    subst AreInLimit (sym places) c.in_ok-layout.ensures.fits.ends

pub returns-clause-tables : goal.returns-clause-tables
returns-clause-tables c =
    let os = loaded_views c.args.objects.now in
    let placed : place_views c.in_ok-layout.layout.places.items ≡ own_placed c.args.base os = c.in_ok-layout.ensures.layout.places in
    let seen : place_views c.deref.result.now ≡ own_placed c.args.base os = ap place_views c.deref.ensures.value ∙ placed in
    record {
      places_are = placed;
      loaded_are = c.in_ok-layout.ensures.layout.loaded;
      header_is = c.in_ok-layout.ensures.layout.thread_header;
      segments_are = c.in_ok-layout.ensures.layout.segments;
      addresses_are =
          λ o s. c.in_ok-addresses.ensures o s
          ∙ (ap (λ (qs : List Placed). option_map (λ q. q.at) (find (is_of_section o s) qs)) seen ∙ address_either c.args.base os o s);
      bounds_are =
          subst (λ (n : ℕ). AreBounds n (own_placed c.args.base os) c.in_ok-bounds.bounds) c.got_number.ensures
          (subst (λ (qs : List Placed). AreBounds c.got_number.result qs c.in_ok-bounds.bounds) (ap place_views c.deref-2.ensures.value ∙ placed) c.in_ok-bounds.ensures);
    }

pub returns-clause-addresses : goal.returns-clause-addresses
returns-clause-addresses c = are_own_addresses c.args.base (loaded_views c.args.objects.now)
